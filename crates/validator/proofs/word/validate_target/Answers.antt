-- The target is before the first word, past the last, or at one.
use Rattle.validator.proofs.WordLaws.{target_before, target_past, target_at}
use Rattle.validator.proofs.word.validate_target.Goals as goal

pub returns-then-sum-lt-OFFSET_SBX : goal.returns-then-sum-lt-OFFSET_SBX
returns-then-sum-lt-OFFSET_SBX c p h = target_before _ _ _ p _ _ h _ _ c.if-sum-lt-OFFSET_SBX.true c.emit.ensures

pub returns-then-body-target : goal.returns-then-body-target
returns-then-body-target c p h = target_past _ _ _ p _ _ h _ _ c.if-sum-lt-OFFSET_SBX.false c.if-body-target.true c.emit-then-body-target.ensures

pub returns : goal.returns
returns c p h = target_at _ _ _ p _ _ h _ _ c.if-sum-lt-OFFSET_SBX.false c.if-body-target.false _ c.is_companion-hit.ensures _ c.then_some.ensures c.emit_if.ensures
