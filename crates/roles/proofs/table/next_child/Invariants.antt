-- The rows that are passed have no child: the search from this row on finds what the search from `at` on does.
use Rattle.std.proofs.Common.{◌≡◌, ◌^◌, ◌<◌}
use Rattle.roles.proofs.SearchLaws.{search}
use Rattle.roles.proofs.table.next_child.Given as goal

abbrev pub invariant-loop-number : goal.invariant-loop-number
invariant-loop-number l = (search l.table l.number l.depth 0 l.records ≡ search l.table l.at l.depth 0 l.first) × (l.records < 2 ^ 32)
