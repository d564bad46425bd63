-- The word may skip, and what stands at its skip's target was looked up.
use Rattle.validator_spec.specs.Operands.{skip_target}
use Rattle.validator.proofs.word.skips_to_companion.Goals as goal

pub returns-then-is_conditional_skip : goal.returns-then-is_conditional_skip
unfolding skip_target
returns-then-is_conditional_skip c = rw (← c.is_conditional_skip.ensures, c.if-is_conditional_skip.true) c.is_companion.ensures
