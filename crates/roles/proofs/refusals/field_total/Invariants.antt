-- The total is the sum of the field over the rows before this one.
use Rattle.roles.specs.Terms.{column_index}
use Rattle.roles.proofs.CountLaws.{TotalPass}
use Rattle.roles.proofs.refusals.field_total.Given as goal

abbrev pub invariant-loop-number : goal.invariant-loop-number
invariant-loop-number l = TotalPass l.table (column_index l.column) l.total l.number
