-- Laws of lines, of texts that are the same, and of digits. Assumes nothing.
use Prim.Native.Nat.{ℕ, zero, suc, ◌+◌, ◌*◌, ◌^◌, ◌≤◌, ◌<◌}
use native.Mathlib.Nat.{pow-succ', mul-le-mul_right, pow-le-pow_right, pow-zero, le_trans, le-add_right, mul_assoc}
use native.Mathlib.Omega.{arith}
use mathlib.Core.Path.{◌≡◌, refl, sym, ◌∙◌, ap, ap₂, subst}
use mathlib.Core.Bool.{Bool, true, false, not, ◌&&◌, ◌||◌, cond}
use mathlib.Core.List.{List, [], ◌∷◌, foldl, flatten}
use lib.Dec.{T, eqb, leb, ltb, eqb→eq, eqb_refl, T_not, ltb→lt, leb→le}
use lib.ListN.{length, get_or, drop}
use borrow.Author.Tests.{leb-true, leb-false, eqb-false, eq-eqb, ne_eqb}
use Rattle.base.specs.Lists.{elem, every, take_while, go_on_if}
use Rattle.base.proofs.BoolLaws.{t_and, by_or, t_true, t_false, or_right}
use Rattle.listing_spec.specs.Text.{newline, same, join_first, lines, is_digit, digit_value, value_of, is_decimal, longest_number}

-- ---- texts that are the same

-- the test tells that two texts are one
pub same-≡ : (l m : List ℕ) → T (same l m) → l ≡ m
unfolding same
same-≡ [] [] t = refl
same-≡ [] (y ∷ ys) t = absurd t
same-≡ (x ∷ xs) [] t = absurd t
same-≡ (x ∷ xs) (y ∷ ys) t =
    let both = t_and (eqb x y) (same xs ys) t in ap₂ (λ (c : ℕ) (l : List ℕ). c ∷ l) (eqb→eq x y both.0) (same-≡ xs ys both.1)

-- a test that fails, the other way round
pub eqb_swap : (a b : ℕ) → eqb a b ≡ false → eqb b a ≡ false
eqb_swap a b e = ne_eqb b a (λ q. eqb-false a b e (sym q))

-- ---- a byte in a list

-- a byte that stands at a place, and is not the one past the end, is an element
pub get_d_elem : (x : ℕ) (l : List ℕ) (k d : ℕ) → T (not (eqb d x)) → get_or l k d ≡ x → T (elem x l)
get_d_elem x [] k d h e = absurd (T_not (eqb d x) h (subst (λ (n : ℕ). T (eqb d n)) e (eqb_refl d)))
get_d_elem x (y ∷ l) zero d h e = rw (eq-eqb x y (sym e)) tt
get_d_elem x (y ∷ l) (suc k) d h e = or_right (eqb x y) (elem x l) (get_d_elem x l k d h e)

-- what is an element of the rest of a list is one of the list
pub elem_drop : (x n : ℕ) (l : List ℕ) → T (elem x (drop n l)) → T (elem x l)
elem_drop x zero l t = t
elem_drop x (suc n) [] t = t
elem_drop x (suc n) (y ∷ l) t = or_right (eqb x y) (elem x l) (elem_drop x n l t)

-- ---- lines

-- the lines, end to end, are the text
pub flatten_lines : (xs : List ℕ) → flatten (lines xs) ≡ xs
unfolding flatten lines join_first
flatten_lines [] = refl
flatten_lines (c ∷ cs) = go (eqb c newline) (lines cs) (flatten_lines cs)
  where
    join : (ls : List (List ℕ)) → flatten (join_first c ls) ≡ c ∷ flatten ls
    join [] = refl
    join (l ∷ ls) = refl

    go : (b : Bool) (ls : List (List ℕ)) → flatten ls ≡ cs → flatten (cond b ((c ∷ []) ∷ ls) (join_first c ls)) ≡ c ∷ cs
    go true ls e = ap (λ (l : List ℕ). c ∷ l) e
    go false ls e = join ls ∙ ap (λ (l : List ℕ). c ∷ l) e

-- ---- digits

-- what take_while takes passes its test
pub take_while_every : {A : Type 0} (f : A → Bool) (xs : List A) → T (every f (take_while f xs))
take_while_every f [] = tt
take_while_every f (x ∷ xs) = go (f x) refl (take_while_every f xs)
  where
    go : (b : Bool) → f x ≡ b → T (every f (take_while f xs)) → T (every f (go_on_if b x (take_while f xs)))
    go true e t = rw e t
    go false e t = tt

-- digits after a value multiply it, at any base
pub value_least : (base n : ℕ) (ds : List ℕ) → n * base ^ length ds ≤ foldl (λ (n d : ℕ). n * base + digit_value d) n ds
value_least base n [] = rw (pow-zero base) (omega arith)
value_least base n (d ∷ ds) =
    le_trans
    (rw (pow-succ' base (length ds), ← mul_assoc n base (base ^ length ds)) (mul-le-mul_right (base ^ length ds) (le-add_right (n * base) (digit_value d))))
    (value_least base (n * base + digit_value d) ds)

-- a digit that is not 0 has a value
digit_value_least : (d : ℕ) → T (is_digit d) → T (not (eqb d 48)) → 0 < digit_value d
unfolding is_digit digit_value
digit_value_least d t u =
    let from : 48 ≤ d = leb→le 48 d (t_and (leb 48 d) (leb d 57) t).0 in
    let other : d ≡ 48 → ⊥ = eqb-false d 48 (t_false (eqb d 48) u) in
    rw (t_true (is_digit d) t) (omega arith)

-- ten digits after one that has a value are too many for a u32
few_digits : (v n value : ℕ) → 0 < v → v * 10 ^ n ≤ value → value < 2 ^ 32 → n < 10
few_digits v n value p least below = go (leb 10 n) refl
  where
    go : (b : Bool) → leb 10 n ≡ b → n < 10
    go true e =
        let power : 10 ^ 10 ≤ 10 ^ n = pow-le-pow_right {n = 10} (omega arith) (leb-true 10 n e) in
        omega (arith, mul-le-mul_right (10 ^ n) p)
    go false e = leb-false 10 n e

-- a decimal has at most as many digits as a u32
pub decimal_digits : (ds : List ℕ) → T (every is_digit ds) → T (is_decimal ds) → length ds ≤ longest_number
unfolding is_decimal value_of
decimal_digits [] t u = omega arith
decimal_digits (d ∷ []) t u = omega arith
decimal_digits (d ∷ e ∷ ds) t u =
    let l = suc (suc (length ds)) in
    let value = value_of 10 (d ∷ e ∷ ds) in
    let tests = t_and (ltb 0 l && (eqb l 1 || not (eqb d 48))) (ltb value (2 ^ 32)) u in
    let first : T (not (eqb d 48)) = by_or (eqb l 1) (not (eqb d 48)) (λ v. absurd (two (eqb→eq l 1 v))) (λ v. v) (t_and (ltb 0 l) (eqb l 1 || not (eqb d 48)) tests.0).1 in
    let nonzero : 0 < digit_value d = digit_value_least d (t_and (is_digit d) (every is_digit (e ∷ ds)) t).0 first in
    few_digits (0 * 10 + digit_value d) (suc (length ds)) value (omega arith) (value_least 10 (0 * 10 + digit_value d) (e ∷ ds)) (ltb→lt value (2 ^ 32) tests.1)
  where
    two : suc (suc (length ds)) ≡ 1 → ⊥
    two q = omega arith
