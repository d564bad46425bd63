-- Fields of any position and size, and that the split loses nothing of a word. Assumes nothing.
use Prim.Native.Nat.{ℕ, ◌+◌, ◌*◌, ◌/◌, ◌%◌, ◌<◌, ◌^◌}
use native.Mathlib.Nat.{mod-lt, mod-eq_of_lt, div-one}
use native.Mathlib.Omega.{arith}
use mathlib.Core.Path.{◌≡◌, ◌∙◌, ap}
use lib.Pow.{pow_pos, mod-pow-add, shr-shr}
use Rattle.opcodes.specs.Words.{Field, B, C, operand, field, opcode, field_a, field_bx}

-- a field is below 2 ^ its size
pub field_below : (position size w : ℕ) → field position size w < 2 ^ size
field_below position size w = mod-lt (w / 2 ^ position) (pow_pos size)

-- a field is its high bits and its low bits
pub field_join : (position high low w : ℕ) → field position (high + low) w ≡ field (position + low) high w * 2 ^ low + field position low w
field_join position high low w =
    mod-pow-add (w / 2 ^ position) high low
    ∙ ap (λ (n : ℕ). n % 2 ^ high * 2 ^ low + field position low w) (shr-shr w position low)

-- B or C is below 512
pub operand_below : (f : Field) (w : ℕ) → operand f w < 512
operand_below f w = field_below f.position 9 w

-- Bx is B and C
pub bx_join : (w : ℕ) → field_bx w ≡ operand B w * 512 + operand C w
unfolding B C
bx_join w = field_join 14 9 9 w

-- a word is its opcode, A, C and B
pub word_join : (w : ℕ) → w < 2 ^ 32 → w ≡ ((operand B w * 512 + operand C w) * 256 + field_a w) * 64 + opcode w
unfolding B C
word_join w h =
    let whole : field 0 32 w ≡ w = ap (λ (n : ℕ). n % 2 ^ 32) (div-one w) ∙ mod-eq_of_lt h in
    let low = field_join 0 26 6 w in
    let middle = field_join 6 18 8 w in
    omega (arith, bx_join w)
