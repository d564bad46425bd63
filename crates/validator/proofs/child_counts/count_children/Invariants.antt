-- The rows from `row` on are counted.
use Rattle.validator.specs.Terms.{Counted}
use Rattle.validator.proofs.child_counts.count_children.Given as goal

abbrev pub invariant-loop-number : goal.invariant-loop-number
invariant-loop-number l = Counted l.table l.number l.counts l.pending

abbrev pub decreases-loop-number : goal.decreases-loop-number
decreases-loop-number l = l.number
