-- The diagnostics of the target, and then of the skip.
use Rattle.validator.proofs.EmitLaws.{emits_cons, emits_end}
use Rattle.validator.proofs.WordLaws.{skip}
use Rattle.validator.proofs.word.validate_flow.Goals as goal

pub returns : goal.returns
returns c p h =
    emits_cons _ _ _ _ _ _ (c.validate_jump-walk.ensures p h)
    (emits_end _ _ _ _ (skip _ _ _ p _ _ _ _ _ h c.skips_to_companion-hit.ensures _ c.then_some.ensures c.emit_if.ensures))
