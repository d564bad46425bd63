-- The rows before this one keep their bounds, and the next has depth `least` to `most`.
use Rattle.roles_spec.proofs.RowCheckLaws.{DepthsLeft}
use Rattle.roles.proofs.refusals.check_depths.Given as goal

abbrev pub invariant-loop-number : goal.invariant-loop-number
invariant-loop-number l = DepthsLeft l.table l.least l.most l.number
