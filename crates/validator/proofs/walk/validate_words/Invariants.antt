-- The words before pc were judged, or have no diagnostics.
use Rattle.std.proofs.Common.{◌-◌}
use Rattle.validator.proofs.OwnStepLaws.{WordPass}
use Rattle.validator.proofs.walk.validate_words.Given as goal

abbrev pub invariant-loop-pc : goal.invariant-loop-pc
invariant-loop-pc l = WordPass l.body.limits l.body.code.now l.body.roles.now l.n (l.initial.walk, l.initial.out) (l.walk, l.out) l.pc

abbrev pub decreases-loop-pc : goal.decreases-loop-pc
decreases-loop-pc l = l.n - l.pc
