-- A word without a target adds nothing, and the target of another is pc + 1 and its sBx.
use Rattle.std.proofs.Common.{ℕ, ◌+◌, ap, arith}
use Rattle.validator.proofs.KnownOperandLaws.{bx_below, split_bx}
use Rattle.validator.proofs.WordLaws.{has_target, no_target, no_jump, jump}
use Rattle.validator.proofs.word.validate_jump.Goals as goal

pub overflow_add-at-in-IAsBx : goal.overflow_add-at-in-IAsBx
overflow_add-at-in-IAsBx c = omega (arith, c.args.word.now.small, bx_below c.args.word.now.w c.args.word.now.decodes.split)

pub returns-in-IAsBx : goal.returns-in-IAsBx
returns-in-IAsBx c p h =
    let word = c.args.word.now in
    let jumps = has_target word.op word.w word.decodes _ c.mode.ensures c.in-IAsBx.is in
    jump _ _ _ p _ _ _ jumps (ap (λ (n : ℕ). word.at.pc + 1 + n) (split_bx word.w word.decodes.split)) (c.validate_target.ensures p h)

pub returns-in_default : goal.returns-in_default
returns-in_default c p h = no_jump _ _ _ p _ (no_target _ _ c.args.word.now.decodes _ c.mode.ensures c.in_default.not-IAsBx)
