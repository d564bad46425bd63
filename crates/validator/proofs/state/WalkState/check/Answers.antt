-- The diagnostic is added where the operand is over its limit.
use Rattle.std.proofs.Common.{rules}
use Rattle.validator.proofs.EmitLaws.{emits_filtered}
use Rattle.validator.proofs.state.WalkState.check.Goals as goal

pub returns : goal.returns
returns c = emits_filtered _ _ _ _ _ _ _ _ _ (λ x b h. search rules) c.filter-over.ensures c.emit_if.ensures
