-- Each companion of the CLOSURE is looked at, up to the next executable word.
use Rattle.validator.proofs.BindingLaws.{pass_begins, pass_next, pass_ends}
use Rattle.validator.proofs.word.validate_bindings.Goals as goal

pub loop-word-init : goal.loop-word-init
loop-word-init c = pass_begins _ _ _ _ _

pub loop-word-preserved : goal.loop-word-preserved
loop-word-preserved c =
    pass_next _ _ _ _ _ _ _ c.loop-word.invariant _ c.is_companion.ensures c.loop-word-test.true _ _ c.u32_at-word.ensures c.validate_binding-walk.ensures

pub returns : goal.returns
returns c = pass_ends _ _ _ _ _ _ _ c.loop-word.invariant _ c.is_companion.ensures c.loop-word-test.false
