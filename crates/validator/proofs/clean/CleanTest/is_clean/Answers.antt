-- A companion, or a word that passes both tests.
use Rattle.std.proofs.Common.{refl, arith}
use Rattle.opcodes.proofs.SplitLaws.{split_again}
use Rattle.validator.specs.Clean.{shapes}
use Rattle.validator.proofs.KnownOperandLaws.{bx_below}
use Rattle.validator.proofs.OwnStepLaws.{executes}
use Rattle.validator.proofs.CleanLaws.{companion_clean, word_clean}
use Rattle.validator.proofs.clean.CleanTest.is_clean.Goals as goal

pub returns-then-is_companion-clause-clean : goal.returns-then-is_companion-clause-clean
returns-then-is_companion-clause-clean c p d e = companion_clean p _ _ _ d _ _ c.is_companion.ensures c.if-is_companion.true

pub returns-then-w-gt-LAST_OPCODE-clause-executable : goal.returns-then-w-gt-LAST_OPCODE-clause-executable
returns-then-w-gt-LAST_OPCODE-clause-executable c p d e = executes p _ _ _ d _ c.requires _ c.is_companion.ensures c.if-is_companion.false

pub operands_below-requires : goal.operands_below-requires
unfolding shapes
operands_below-requires c = (split_again _ _ c.decode-w.ensures, omega arith, refl)

pub returns-else-operands_below-clause-executable : goal.returns-else-operands_below-clause-executable
returns-else-operands_below-clause-executable c p d e = executes p _ _ _ d _ c.requires _ c.is_companion.ensures c.if-is_companion.false

pub goes_to_word-requires : goal.goes_to_word-requires
goes_to_word-requires c = (omega arith, bx_below _ (split_again _ _ c.decode-w.ensures))

pub returns-then-operands_below-clause-clean : goal.returns-then-operands_below-clause-clean
unfolding shapes
returns-then-operands_below-clause-clean c p d e =
    word_clean p _ _ _ d _ c.requires _ c.is_companion.ensures c.if-is_companion.false _ _ c.u32_at.ensures c.decode-w.ensures c.if-w-gt-LAST_OPCODE.false
    (c.operands_below.ensures c.if-operands_below.true) _ refl (c.goes_to_word.ensures p d.stands e)

pub returns-then-operands_below-clause-executable : goal.returns-then-operands_below-clause-executable
returns-then-operands_below-clause-executable c p d e = executes p _ _ _ d _ c.requires _ c.is_companion.ensures c.if-is_companion.false
