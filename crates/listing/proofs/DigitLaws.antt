-- Digits, their value, and the numbers of a line. Assumes nothing.
use Prim.Native.Nat.{ℕ, suc, ◌+◌, ◌-◌, ◌*◌, ◌^◌, ◌<◌, ◌≤◌}
use native.Mathlib.Omega.{arith}
use native.Mathlib.Nat.{le_trans, le-mul_of_pos_right, one-le-pow, mul-le-mul_right, mul_assoc, pow-succ', not-suc-le-zero}
use native.Mathlib.Numerals.{add-one}
use mathlib.Core.Path.{◌≡◌, refl, sym, ap, ◌∙◌, subst, subst⁻¹}
use mathlib.Core.Bool.{Bool, true, false, ◌&&◌, ◌||◌, cond, not}
use mathlib.Core.List.{List, [], ◌∷◌, foldl}
use mathlib.Core.Option.{Option, none, some}
use lib.Dec.{T, eqb, ltb, leb}
use Rattle.std.specs.List.{list_all}
use lib.ListN.{length, get_or, take, drop, drop_of_length-le}
use lib.Seq.{drop-cons, length-take-le}
use borrow.Author.Tests.{lt-ltb, le-ltb, leb-true, leb-false, eq-eqb, ne_eqb}
use Rattle.base.specs.Lists.{every}
use Rattle.base.proofs.BoolLaws.{t_and, t_true}
use Rattle.listing_spec.proofs.TextLaws.{value_least}
use Rattle.listing_spec.specs.Text.{is_digit, is_hex_digit, is_decimal, digit_value, value_of}
use Rattle.listing_spec.specs.Listing.{hex_word}
use Rattle.listing.specs.Terms.{as_u32, decimal_of}

-- ---- the value of digits

-- one digit more
abbrev worth : ℕ → ℕ → ℕ → ℕ
worth base n d = n * base + digit_value d

-- the value after the digits from an index on, from a value before them
unfoldable pub value_from : ℕ → ℕ → List ℕ → ℕ
value_from base n ds = foldl (worth base) n ds

-- before the first digit
pub value_first : (base : ℕ) (ds : List ℕ) → value_of base ds ≡ value_from base 0 (drop 0 ds)
unfolding value_of value_from
value_first base ds = refl

-- past a digit
pub value_next : (base n i : ℕ) (ds : List ℕ) → i < length ds → value_of base ds ≡ value_from base n (drop i ds) → value_of base ds ≡ value_from base (n * base + digit_value (get_or ds i 0)) (drop (i + 1) ds)
unfolding value_from
value_next base n i ds h inv =
    inv ∙ ap (foldl (worth base) n) (drop-cons ds i 0 h) ∙ ap (λ (k : ℕ). foldl (worth base) (worth base n (get_or ds i 0)) (drop k ds)) (sym (add-one i))

-- past the last
pub value_last : (base n i : ℕ) (ds : List ℕ) → length ds ≤ i → n < 2 ^ 32 → value_of base ds ≡ value_from base n (drop i ds) → some n ≡ as_u32 (value_of base ds)
unfolding value_from as_u32
value_last base n i ds h k inv = rw (inv ∙ ap (foldl (worth base) n) (drop_of_length-le ds h), lt-ltb n (2 ^ 32) k) refl

-- digits make no value less
value_grows : (base n : ℕ) (ds : List ℕ) → 1 ≤ base → n ≤ foldl (worth base) n ds
value_grows base n ds h = le_trans (le-mul_of_pos_right n (one-le-pow (length ds) base h)) (value_least base n ds)

-- so a value that is too large stays too large
pub too_large : (base n i : ℕ) (ds : List ℕ) → value_of base ds ≡ value_from base n (drop i ds) → i < length ds → 1 ≤ base → 2 ^ 32 ≤ n * base + digit_value (get_or ds i 0) → none ≡ as_u32 (value_of base ds)
unfolding value_from as_u32
too_large base n i ds inv inside h k =
    let d = digit_value (get_or ds i 0) in
    let from : value_of base ds ≡ value_from base (n * base + d) (drop (i + 1) ds) = value_next base n i ds inside inv in
    let large : 2 ^ 32 ≤ value_of base ds = subst⁻¹ (λ (v : ℕ). 2 ^ 32 ≤ v) from (le_trans k (value_grows base (n * base + d) (drop (i + 1) ds) h)) in
    rw (le-ltb (value_of base ds) (2 ^ 32) large) refl

-- ---- a word

-- each passes a test
every_all : (f : ℕ → Bool) (xs : List ℕ) → every f xs ≡ list_all f xs
every_all f [] = refl
every_all f (x ∷ xs) = ap (λ b. f x && b) (every_all f xs)

-- a test in the middle fails
and_middle : (a c : Bool) → a && false && c ≡ false
and_middle true c = refl
and_middle false c = refl

-- or the last one
and_last : (a b : Bool) → a && b && false ≡ false
and_last true true = refl
and_last true false = refl
and_last false b = refl

pub word_length : (l : List ℕ) → (length l ≡ 9 → ⊥) → none ≡ hex_word l
unfolding hex_word
word_length l h = rw (ne_eqb (length l) 9 h) refl

pub word_digits : (l : List ℕ) → list_all is_hex_digit (take 8 l) ≡ false → none ≡ hex_word l
unfolding hex_word
word_digits l e = rw (every_all is_hex_digit (take 8 l), e, and_middle (eqb (length l) 9) (eqb (get_or l 8 0) 10)) refl

pub word_newline : (l : List ℕ) → (get_or l 8 0 ≡ 10 → ⊥) → none ≡ hex_word l
unfolding hex_word
word_newline l h = rw (ne_eqb (get_or l 8 0) 10 h, and_last (eqb (length l) 9) (every is_hex_digit (take 8 l))) refl

-- hexadecimal digits are below 16
hex_worth : (c : ℕ) → T (is_hex_digit c) → digit_value c ≤ 15
unfolding is_hex_digit is_digit digit_value
hex_worth c t = go (leb 48 c && leb c 57) refl t
  where
    go : (b : Bool) → leb 48 c && leb c 57 ≡ b → T (b || leb 97 c && leb c 102) → cond b (c - 48) (c - 87) ≤ 15
    go true e u = let below = leb-true c 57 (t_true _ (t_and (leb 48 c) (leb c 57) (subst⁻¹ T e tt)).1) in omega arith
    go false e u = let below = leb-true c 102 (t_true _ (t_and (leb 97 c) (leb c 102) u).1) in omega arith

-- so each makes a value plus 1 at most 16 times as large
hex_bound : (n : ℕ) (ds : List ℕ) → T (every is_hex_digit ds) → suc (foldl (worth 16) n ds) ≤ suc n * 16 ^ length ds
hex_bound n [] t = omega arith
hex_bound n (d ∷ ds) t =
    let both = t_and (is_hex_digit d) (every is_hex_digit ds) t in
    let digit = hex_worth d both.0 in
    let more : suc (n * 16 + digit_value d) * 16 ^ length ds ≤ suc n * 16 * 16 ^ length ds = mul-le-mul_right (16 ^ length ds) (omega arith) in
    le_trans (hex_bound (n * 16 + digit_value d) ds both.1) (rw (pow-succ' 16 (length ds), ← mul_assoc (suc n) 16 (16 ^ length ds)) more)

pub word_value : (l : List ℕ) (x : Option ℕ) → length l ≡ 9 → get_or l 8 0 ≡ 10 → list_all is_hex_digit (take 8 l) ≡ true → x ≡ as_u32 (value_of 16 (take 8 l)) → x ≡ hex_word l
unfolding hex_word as_u32 value_of
word_value l x h k t value =
    let e : every is_hex_digit (take 8 l) ≡ true = every_all is_hex_digit (take 8 l) ∙ t in
    let eight : length (take 8 l) ≡ 8 = length-take-le 8 l (omega arith) in
    let below : suc (value_of 16 (take 8 l)) ≤ 16 ^ 8 = subst (λ (n : ℕ). suc (value_of 16 (take 8 l)) ≤ 1 * 16 ^ n) eight (hex_bound 0 (take 8 l) (subst⁻¹ T e tt)) in
    value ∙ rw (lt-ltb (value_of 16 (take 8 l)) (2 ^ 32) below, eq-eqb (length l) 9 h, e, eq-eqb (get_or l 8 0) 10 k) refl

-- ---- a decimal

-- no digits
pub decimal_empty : (ds : List ℕ) → length ds ≡ 0 → none ≡ decimal_of ds
unfolding decimal_of is_decimal
decimal_empty ds e = rw e refl

-- a zero before other digits
pub decimal_zero : (ds : List ℕ) → 2 ≤ length ds → get_or ds 0 0 ≡ 48 → none ≡ decimal_of ds
unfolding decimal_of is_decimal
decimal_zero ds long e =
    rw (ne_eqb (length ds) 1 (λ one. not-suc-le-zero (subst (λ (n : ℕ). 1 ≤ n - 1) one (omega arith))), e, and_middle (ltb 0 (length ds)) (ltb (value_of 10 ds) (2 ^ 32))) refl

-- no leading zero: one digit, or the first is not 0
pub decimal_value : (ds : List ℕ) (x : Option ℕ) → 0 < length ds → (2 ≤ length ds → get_or ds 0 0 ≡ 48 → ⊥) → x ≡ as_u32 (value_of 10 ds) → x ≡ decimal_of ds
unfolding decimal_of is_decimal as_u32
decimal_value ds x some-digit h value =
    value ∙ rw (lt-ltb 0 (length ds) some-digit, go (leb 2 (length ds)) refl) refl
  where
    or-true : (a : Bool) → a || true ≡ true
    or-true true = refl
    or-true false = refl

    go : (b : Bool) → leb 2 (length ds) ≡ b → eqb (length ds) 1 || not (eqb (get_or ds 0 0) 48) ≡ true
    go true k = rw (ne_eqb (get_or ds 0 0) 48 (h (leb-true 2 (length ds) k)), or-true (eqb (length ds) 1)) refl
    go false k = let few = leb-false 2 (length ds) k in rw (eq-eqb (length ds) 1 (omega arith)) refl
