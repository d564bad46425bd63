-- The diagnostic of an unknown opcode, or those of the parts of a word, one after another.
use Rattle.std.proofs.Common.{◌∙◌, arith}
use Rattle.validator.proofs.DescribedLaws.{word_read}
use Rattle.validator.proofs.WordDiagnosticLaws.{decodes, word_unknown, word_known, binds, no_bindings}
use Rattle.validator.proofs.word.validate_word.Goals as goal

pub returns-in_default : goal.returns-in_default
returns-in_default c p d x = word_unknown _ _ p _ _ c.decode-w.ensures (c.u32_at.ensures ∙ word_read p _ _ _ d _) _ _ _ c.in_default.is c.emit.ensures

pub invariant_of-word : goal.invariant_of-word
invariant_of-word c = record { decodes = decodes _ _ _ c.decode-w.ensures c.in-Known.is; small = omega (arith, c.args.body.now.code_short) }

pub returns-then-is_closure : goal.returns-then-is_closure
returns-then-is_closure c p d x =
    let split = c.decode-w.ensures in
    let read = c.u32_at.ensures ∙ word_read p _ _ _ d _ in
    let closure = binds c.args.body.now.limits.row _ p _ _ split read (c.args.walk, c.args.out.now) _ c.in-Known.is _ c.is_closure.ensures c.if-is_closure.true in
    word_known _ _ p _ _ split read _ _ c.in-Known.is _ _ _ (c.validate_flow-walk.ensures p d.stands) (c.validate_operands-walk.ensures p d.limits) (c.validate_bindings.ensures p d x closure)

pub returns : goal.returns
returns c p d x =
    let split = c.decode-w.ensures in
    let read = c.u32_at.ensures ∙ word_read p _ _ _ d _ in
    let none = no_bindings _ _ p _ _ split read (c.args.walk, c.args.out.now) _ c.in-Known.is _ _ c.is_closure.ensures c.if-is_closure.false in
    word_known _ _ p _ _ split read _ _ c.in-Known.is _ _ _ (c.validate_flow-walk.ensures p d.stands) (c.validate_operands-walk.ensures p d.limits) none
