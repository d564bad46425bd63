-- The diagnostics of its checks, one after another.
use Rattle.validator.proofs.EmitLaws.{emits_cons, emits_end}
use Rattle.validator.proofs.WordLaws.{checked_as, emits_operands, spans_checked}
use Rattle.validator.proofs.word.validate_operands.Goals as goal

pub returns : goal.returns
returns c p l =
    emits_operands _ p _ _ _ l _ _
    (emits_cons _ _ _ _ _ _ (checked_as _ _ _ _ _ _ _ _ c.check-walk.ensures c.constant_bx.ensures)
    (emits_cons _ _ _ _ _ _ (checked_as _ _ _ _ _ _ _ _ c.check-walk-2.ensures c.upvalue_b.ensures)
    (emits_cons _ _ _ _ _ _ (checked_as _ _ _ _ _ _ _ _ c.check-walk-3.ensures c.flag_a.ensures)
    (emits_cons _ _ _ _ _ _ (checked_as _ _ _ _ _ _ _ _ c.check-walk-4.ensures c.register_a.ensures)
    (emits_cons _ _ _ _ _ _ (spans_checked _ _ _ _ _ _ _ _ _ c.span_ends-first.ensures c.check-walk-5.ensures c.check-walk-6.ensures)
    (emits_cons _ _ _ _ _ _ (checked_as _ _ _ _ _ _ _ _ c.check-walk-7.ensures c.register_in.ensures)
    (emits_cons _ _ _ _ _ _ (checked_as _ _ _ _ _ _ _ _ c.check-walk-8.ensures c.register_in-2.ensures)
    (emits_cons _ _ _ _ _ _ (checked_as _ _ _ _ _ _ _ _ c.check-walk-9.ensures c.constant_in.ensures)
    (emits_cons _ _ _ _ _ _ (checked_as _ _ _ _ _ _ _ _ c.check-walk-10.ensures c.constant_in-2.ensures)
    (emits_end _ _ _ _ (checked_as _ _ _ _ _ _ _ _ c.check.ensures c.child_bx.ensures)))))))))))
