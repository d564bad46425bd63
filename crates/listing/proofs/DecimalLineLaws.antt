-- A line of decimals, number by number. Assumes nothing.
use Prim.Native.Nat.{ℕ, zero, suc, ◌+◌, ◌-◌, ◌<◌, ◌≤◌}
use native.Mathlib.Omega.{arith}
use native.Mathlib.Nat.{sub-zero}
use native.Mathlib.Numerals.{add-one, one-add}
use mathlib.Core.Path.{◌≡◌, refl, sym, ap, ap₂, ◌∙◌, subst}
use mathlib.Core.Bool.{Bool, true, false, ◌&&◌, cond}
use mathlib.Core.List.{List, [], ◌∷◌, ◌++◌, append_assoc, append-nil}
use mathlib.Core.Option.{Option, none, some}
use lib.Dec.{T, eqb}
use lib.ListN.{length, get_or, take, drop, set, get_or-eq_default}
use lib.Seq.{take-suc-set, take_all}
use borrow.Author.Tests.{eq-eqb, ne_eqb}
use Rattle.std.proofs.lemmas.List.Folds.{length-prefix_len}
use Rattle.std.specs.List.{take_while as digits_of, prefix_len}
use Rattle.base.specs.Lists.{take_while, go_on_if}
use Rattle.listing_spec.specs.Listing.{decimals, cons_number, separator}
use Rattle.listing_spec.specs.Text.{is_digit, is_decimal, value_of}
use Rattle.listing.specs.Terms.{decimal_of}

-- numbers before those of the rest of the line
unfoldable pub parsed : List ℕ → Option (List ℕ) → Option (List ℕ)
parsed ns none = none
parsed ns (some ms) = some (ns ++ ms)

parsed_nil : (o : Option (List ℕ)) → o ≡ parsed [] o
unfolding parsed
parsed_nil none = refl
parsed_nil (some ms) = refl

-- before the first number
pub decimals_first : (count : ℕ) (line : List ℕ) → decimals count line ≡ parsed [] (decimals (count - 0) line)
decimals_first count line = parsed_nil (decimals count line) ∙ ap (λ (n : ℕ). parsed [] (decimals n line)) (sym (sub-zero count))

-- what a test takes from the front
while_is : (f : ℕ → Bool) (xs : List ℕ) → take_while f xs ≡ take (prefix_len f xs) xs
while_is f [] = refl
while_is f (x ∷ xs) = go (f x) (while_is f xs)
  where
    go : (b : Bool) → take_while f xs ≡ take (prefix_len f xs) xs → go_on_if b x (take_while f xs) ≡ take (cond b (1 + prefix_len f xs) 0) (x ∷ xs)
    go true more = rw one-add (ap (λ (ys : List ℕ). x ∷ ys) more)
    go false more = refl

-- a separator is no 0
separator_byte : (left : ℕ) → 0 ≡ separator left → ⊥
unfolding separator
separator_byte zero e = subst (λ (n : ℕ). T (eqb n 0)) e tt
separator_byte (suc left) e = subst (λ (n : ℕ). T (eqb n 0)) e tt

-- a test fails with its second part
fails : (b : Bool) (o : Option (List ℕ)) → cond (b && false) o none ≡ none
fails true o = refl
fails false o = refl

-- the number in front of a text: its digits, and what comes after them
module _ (text digits after : List ℕ) (size left : ℕ) (count : size ≡ length (digits_of is_digit text)) (front : digits ≡ take size text) (back : after ≡ drop size text) where
  -- one number, and those after it
  abbrev given : List ℕ → List ℕ → Option (List ℕ)
  given ds rest = cond (is_decimal ds && eqb (get_or rest 0 0) (separator left)) (cons_number (value_of 10 ds) (decimals left (drop 1 rest))) none

  decimals_at : decimals (suc left) text ≡ given digits after
  unfolding decimals
  decimals_at =
      let ds = take_while is_digit text in
      let front_is : ds ≡ digits_of is_digit text = while_is is_digit text in
      let size_is : size ≡ prefix_len is_digit text = count ∙ length-prefix_len is_digit text in
      sym (ap₂ given (front ∙ ap (λ (n : ℕ). take n text) size_is ∙ sym front_is) (back ∙ ap (λ (n : ℕ). drop n text) (count ∙ ap length (sym front_is))))

  -- its digits are no decimal
  pub decimals_malformed : none ≡ decimal_of digits → decimals (suc left) text ≡ none
  unfolding decimal_of
  decimals_malformed value = decimals_at ∙ go (is_decimal digits) value
    where
      go : (b : Bool) → none ≡ cond b (some (value_of 10 digits)) none → cond (b && eqb (get_or after 0 0) (separator left)) (cons_number (value_of 10 digits) (decimals left (drop 1 after))) none ≡ none
      go true e = cc
      go false e = refl

  -- nothing comes after it
  pub decimals_ended : length after ≡ 0 → decimals (suc left) text ≡ none
  decimals_ended e =
      let nothing : get_or after 0 0 ≡ 0 = get_or-eq_default after 0 (omega arith) in
      decimals_at ∙ rw (nothing, ne_eqb 0 (separator left) (separator_byte left)) (fails (is_decimal digits) (cons_number (value_of 10 digits) (decimals left (drop 1 after))))

  module _ (end : ℕ) (rest : List ℕ) (e : after ≡ end ∷ rest) where
    -- it does not end as it must
    pub decimals_unended : (end ≡ separator left → ⊥) → decimals (suc left) text ≡ none
    decimals_unended h = decimals_at ∙ rw (e, ne_eqb end (separator left) h) (fails (is_decimal digits) (cons_number (value_of 10 digits) (decimals left rest)))

    -- or it is a number before others
    pub decimals_number : (n : ℕ) → some n ≡ decimal_of digits → end ≡ separator left → decimals (suc left) text ≡ cons_number n (decimals left rest)
    unfolding decimal_of
    decimals_number n value k = decimals_at ∙ rw (e, eq-eqb end (separator left) k) (go (is_decimal digits) value)
      where
        go : (b : Bool) → some n ≡ cond b (some (value_of 10 digits)) none → cond (b && true) (cons_number (value_of 10 digits) (decimals left rest)) none ≡ cons_number n (decimals left rest)
        go true e = cc
        go false e = cc

-- ---- in the loop: number i of `count`

module _ (line numbers text : List ℕ) (count i : ℕ) (more : i < count) (inv : decimals count line ≡ parsed (take i numbers) (decimals (count - i) text)) where
  -- the number and those after it
  from_here : decimals count line ≡ parsed (take i numbers) (decimals (suc (count - (i + 1))) text)
  from_here =
      let left : count - i ≡ suc (count - (i + 1)) = omega arith in
      inv ∙ ap (λ (n : ℕ). parsed (take i numbers) (decimals n text)) left

  pub loop_none : decimals (suc (count - (i + 1))) text ≡ none → none ≡ decimals count line
  unfolding parsed
  loop_none e = sym (from_here ∙ ap (parsed (take i numbers)) e)

  pub loop_number : (n : ℕ) (rest : List ℕ) → length numbers ≡ count → decimals (suc (count - (i + 1))) text ≡ cons_number n (decimals (count - (i + 1)) rest)
      → decimals count line ≡ parsed (take (i + 1) (set numbers i n)) (decimals (count - (i + 1)) rest)
  unfolding parsed cons_number
  loop_number n rest room e =
      from_here
      ∙ ap (parsed (take i numbers)) e
      ∙ go (decimals (count - (i + 1)) rest)
      ∙ ap (λ (l : List ℕ). parsed l (decimals (count - (i + 1)) rest)) (sym (ap (λ (k : ℕ). take k (set numbers i n)) (add-one i) ∙ take-suc-set numbers i n (omega arith)))
    where
      go : (o : Option (List ℕ)) → parsed (take i numbers) (cons_number n o) ≡ parsed (take i numbers ++ (n ∷ [])) o
      go none = refl
      go (some ms) = ap some (sym (append_assoc (take i numbers) (n ∷ []) ms))

-- ---- past the last number

module _ (line numbers text : List ℕ) (count i : ℕ) (size : length numbers ≡ count) (past : count ≤ i) (inv : decimals count line ≡ parsed (take i numbers) (decimals (count - i) text)) where
  all_read : decimals count line ≡ parsed numbers (decimals 0 text)
  all_read =
      let none_left : count - i ≡ 0 = omega arith in
      inv ∙ ap₂ (λ (l : List ℕ) (n : ℕ). parsed l (decimals n text)) (take_all i numbers (omega arith)) none_left

  pub decimals_all : length text ≡ 0 → some numbers ≡ decimals count line
  unfolding decimals parsed
  decimals_all e = sym (all_read ∙ go text e)
    where
      go : (t : List ℕ) → length t ≡ 0 → parsed numbers (decimals 0 t) ≡ some numbers
      go [] e = ap some (append-nil numbers)
      go (c ∷ t) e = absurd (omega arith)

  pub decimals_more : (length text ≡ 0 → ⊥) → none ≡ decimals count line
  unfolding decimals parsed
  decimals_more h = sym (all_read ∙ go text h)
    where
      go : (t : List ℕ) → (length t ≡ 0 → ⊥) → parsed numbers (decimals 0 t) ≡ none
      go [] h = absurd (h refl)
      go (c ∷ t) h = refl
