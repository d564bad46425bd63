-- Signed numbers in the machine: a difference that fits, and the bits of an i32. Assumes nothing.
use Prim.Native.Nat.{ℕ, suc, ◌-◌, ◌<◌, ◌^◌}
use native.Mathlib.Omega.{arith}
use mathlib.Core.Path.{◌≡◌, refl}
use mathlib.Core.Bool.{Bool, true, false, cond}
use lib.Dec.{ltb}
use lib.IntN.{ℤ, pos, negsuc, sub_ℕ}
use mir.Syntax.{Width, w32}
use mir.Val.{SFits, hbits, of_z}
use Rattle.base.specs.Bytes.{i32_bits}

-- the difference of two naturals fits a width where each is below half of it
module _ (w : Width) (a b : ℕ) (ha : a < 2 ^ hbits w) (hb : b < 2 ^ hbits w) where
  by : (t : Bool) → SFits w (cond t (negsuc (suc b - suc a)) (pos (a - suc b)))
  by true = record { sfits = omega arith }
  by false = record { sfits = omega arith }

  pub sub_fits : SFits w (sub_ℕ a (suc b))
  sub_fits = by (ltb a (suc b))

-- the bits of an i32 are the machine's
pub i32_bits_machine : (z : ℤ) → i32_bits z ≡ of_z w32 z
unfolding i32_bits
i32_bits_machine (pos n) = refl
i32_bits_machine (negsuc n) = refl
