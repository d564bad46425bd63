-- The test ends the walk, or the diagnostic is added.
use Rattle.std.proofs.Common.{◌∙◌}
use Rattle.validator.proofs.EmitLaws.{emits_word, step_ends, step_adds}
use Rattle.validator.proofs.state.WalkState.report.Goals as goal

pub returns-then-walk : goal.returns-then-walk
returns-then-walk c = step_ends _ _ _ _ c.tested-walk.ensures c.if-walk.true

pub returns : goal.returns
returns c = step_adds _ _ _ _ c.tested-walk.ensures _ c.if-walk.false (c.emit.ensures ∙ emits_word _ _ _ _ _)
