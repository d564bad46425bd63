-- A number that is written can be read back. Assumes nothing.
use Prim.Native.Nat.{ℕ, zero, suc, ◌+◌, ◌*◌, ◌/◌, ◌%◌, ◌^◌, ◌<◌}
use native.Mathlib.Omega.{arith}
use native.Mathlib.Nat.{pow-suc}
use mathlib.Core.Path.{◌≡◌, refl, ◌∙◌}
use mathlib.Core.Bool.{Bool, true, false, cond}
use mathlib.Core.List.{List, [], ◌∷◌, ◌++◌, foldl-append}
use lib.Dec.{ltb}
use borrow.Author.Tests.{le-leb, ltb-true}
use Rattle.listing_spec.specs.Text.{is_digit, digit_value, value_of, digits, decimal}

-- the value with one digit more
value_of_next : (ds : List ℕ) (d : ℕ) → value_of 10 (ds ++ d ∷ []) ≡ value_of 10 ds * 10 + digit_value d
unfolding value_of
value_of_next ds d = foldl-append (λ (n d : ℕ). n * 10 + digit_value d) 0 ds (d ∷ [])

-- the value of a digit that is written
digit_back : (d : ℕ) → d < 10 → digit_value (48 + d) ≡ d
unfolding digit_value is_digit
digit_back d h = rw (le-leb 48 (48 + d) (omega arith), le-leb (48 + d) 57 (omega arith)) (omega arith)

-- the digits of a number below 10 ^ most have its value
digits_back : (most n : ℕ) → n < 10 ^ most → value_of 10 (digits most n) ≡ n
unfolding digits value_of
digits_back zero n h = omega arith
digits_back (suc most) n h =
    let below : n / 10 < 10 ^ most = omega (arith, pow-suc 10 most) in
    value_of_next (cond (ltb n 10) [] (digits most (n / 10))) (48 + n % 10) ∙ go (ltb n 10) refl (digits_back most (n / 10) below)
  where
    go : (b : Bool) → ltb n 10 ≡ b → value_of 10 (digits most (n / 10)) ≡ n / 10 → value_of 10 (cond b [] (digits most (n / 10))) * 10 + digit_value (48 + n % 10) ≡ n
    go true e front = let short = ltb-true n 10 e in omega (arith, digit_back (n % 10) (omega arith))
    go false e front = omega (arith, front, digit_back (n % 10) (omega arith))

-- every number below 10 ^ 10, and so every u32, is what its digits are worth
pub decimal_back : (n : ℕ) → n < 10 ^ 10 → value_of 10 (decimal n) ≡ n
unfolding decimal
decimal_back n h = digits_back 10 n h
