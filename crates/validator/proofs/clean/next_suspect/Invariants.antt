-- No word from the first pc on has a diagnostic, so far.
use Rattle.std.proofs.Common.{◌-◌}
use Rattle.validator.proofs.CleanLaws.{CleanPass}
use Rattle.validator.proofs.clean.next_suspect.Given as goal

abbrev pub invariant-loop-pc : goal.invariant-loop-pc
invariant-loop-pc l = CleanPass l.fn.body.limits l.fn.body.code.now l.fn.body.roles.now l.fn.from l.pc

abbrev pub decreases-loop-pc : goal.decreases-loop-pc
decreases-loop-pc l = l.n - l.pc
