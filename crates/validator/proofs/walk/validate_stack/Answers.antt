-- A stack larger than the usual is warned of.
use Rattle.validator.proofs.OwnStepLaws.{stack_warned}
use Rattle.validator.proofs.walk.validate_stack.Goals as goal

pub returns : goal.returns
returns c p l = stack_warned _ p _ l _ c.then_some-large.ensures _ _ c.emit_if.ensures
