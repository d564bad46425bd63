-- The rows before this one keep their limits.
use Rattle.roles_spec.proofs.RowCheckLaws.{FieldsLeft}
use Rattle.roles.proofs.refusals.check_fields.Given as goal

abbrev pub invariant-loop-number : goal.invariant-loop-number
invariant-loop-number l = FieldsLeft l.table l.number
