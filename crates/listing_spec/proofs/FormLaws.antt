-- A line in form is no longer than its form allows, and a newline is in it. Assumes nothing.
use Prim.Native.Nat.{ℕ, zero, suc, ◌≤◌, ◌<◌}
use native.Mathlib.Nat.{not-le_of_lt}
use native.Mathlib.Omega.{arith}
use Prim.Native.String.{String}
use mathlib.Core.Path.{◌≡◌, refl, subst}
use mathlib.Core.Bool.{Bool, true, false, ◌&&◌, cond}
use mathlib.Core.List.{List, [], ◌∷◌}
use mathlib.Core.Option.{Option, none, some, none-ne-some}
use lib.Dec.{T, eqb, eqb→eq}
use lib.ListN.{length, get_or, take, drop, length-drop}
use Rattle.base.specs.Lists.{elem, every, take_while}
use Rattle.base.proofs.ListLaws.{take_while_most}
use Rattle.base.proofs.BoolLaws.{t_and}
use Rattle.listing_spec.specs.Text.{text, newline, same, is_digit, is_hex_digit, value_of, is_decimal}
use Rattle.listing_spec.specs.Listing.{named, separator, cons_number, decimals, hex_word}
use Rattle.listing_spec.specs.Longest.{longest_numbers, longest_word}
use Rattle.listing_spec.proofs.TextLaws.{same-≡, get_d_elem, elem_drop, take_while_every, decimal_digits}

-- a line in this form has at most `most` bytes, and a newline is one of them
pub record Bounded {A : Type 0} (most : ℕ) (form : List ℕ → Option A) : Type 0 where
  pub short : (l : List ℕ) (a : A) → form l ≡ some a → length l ≤ most
  pub ended : (l : List ℕ) (a : A) → form l ≡ some a → T (elem newline l)

module _ {A : Type 0} {most : ℕ} {form : List ℕ → Option A} (bounded : Bounded most form) where
  -- a line that is too long is not in form
  pub long_none : (l : List ℕ) → most < length l → form l ≡ none
  long_none l h = go (form l) refl
    where
      go : (o : Option A) → form l ≡ o → form l ≡ none
      go none e = e
      go (some a) e = absurd (not-le_of_lt h (bounded.short l a e))

  -- nor is a line without a newline
  pub cut_none : (l : List ℕ) → elem newline l ≡ false → form l ≡ none
  cut_none l h = go (form l) refl
    where
      go : (o : Option A) → form l ≡ o → form l ≡ none
      go none e = e
      go (some a) e = absurd (subst T h (bounded.ended l a e))

-- a value that a test lets through
pub cond_some : {A : Type 0} (b : Bool) (o : Option A) (a : A) → cond b o none ≡ some a → T b × (o ≡ some a)
cond_some true o a e = (tt, e)
cond_some false o a e = absurd (none-ne-some _ e)

-- ---- names

-- a names line in form is the text
pub named_is : (s : String) (l m : List ℕ) → named s l ≡ some m → l ≡ text s
unfolding named
named_is s l m e = same-≡ l (text s) (cond_some (same l (text s)) (some l) m e).0

-- the names lines: as long as their text
pub named_bounded : (s : String) → T (elem newline (text s)) → Bounded (length (text s)) (named s)
named_bounded s h = record { short = λ l m e. rw (named_is s l m e) (omega arith); ended = λ l m e. rw (named_is s l m e) h }

-- ---- numbers

-- a number in form, and the numbers after it
record Decimals (left : ℕ) (cs : List ℕ) : Type 0 where
  digits : T (is_decimal (take_while is_digit cs))
  next : get_or (drop (length (take_while is_digit cs)) cs) 0 0 ≡ separator left
  others : List ℕ
  more : decimals left (drop 1 (drop (length (take_while is_digit cs)) cs)) ≡ some others

decimals_parts : (left : ℕ) (cs ns : List ℕ) → decimals (suc left) cs ≡ some ns → Decimals left cs
unfolding decimals cons_number
decimals_parts left cs ns e =
    let ds = take_while is_digit cs in
    let rest = drop (length ds) cs in
    let more = decimals left (drop 1 rest) in
    let read = cond_some (is_decimal ds && eqb (get_or rest 0 0) (separator left)) (cons_number (value_of 10 ds) more) ns e in
    let tests = t_and (is_decimal ds) (eqb (get_or rest 0 0) (separator left)) read.0 in
    go more refl tests.0 (eqb→eq (get_or rest 0 0) (separator left) tests.1) read.1
  where
    go : (o : Option (List ℕ)) → decimals left (drop 1 (drop (length (take_while is_digit cs)) cs)) ≡ o → T (is_decimal (take_while is_digit cs))
        → get_or (drop (length (take_while is_digit cs)) cs) 0 0 ≡ separator left → cons_number (value_of 10 (take_while is_digit cs)) o ≡ some ns → Decimals left cs
    go none q d n u = absurd (none-ne-some _ u)
    go (some ms) q d n u = record { digits = d; next = n; others = ms; more = q }

decimals_short : (count : ℕ) (cs ns : List ℕ) → decimals count cs ≡ some ns → length cs ≤ longest_numbers count
unfolding decimals
decimals_short zero [] ns e = omega arith
decimals_short zero (c ∷ cs) ns e = absurd (none-ne-some _ e)
decimals_short (suc left) cs ns e =
    let parts = decimals_parts left cs ns e in
    let ds = take_while is_digit cs in
    let rest = drop (length ds) cs in
    omega (arith, decimal_digits ds (take_while_every is_digit cs) parts.digits, take_while_most is_digit cs, length-drop (length ds) cs, length-drop 1 rest, decimals_short left (drop 1 rest) parts.others parts.more)

decimals_ended : (left : ℕ) (cs ns : List ℕ) → decimals (suc left) cs ≡ some ns → T (elem newline cs)
unfolding separator
decimals_ended zero cs ns e =
    let ds = take_while is_digit cs in
    elem_drop newline (length ds) cs (get_d_elem newline (drop (length ds) cs) 0 0 tt (decimals_parts zero cs ns e).next)
decimals_ended (suc left) cs ns e =
    let parts = decimals_parts (suc left) cs ns e in
    let ds = take_while is_digit cs in
    let rest = drop (length ds) cs in
    elem_drop newline (length ds) cs (elem_drop newline 1 rest (decimals_ended left (drop 1 rest) parts.others parts.more))

-- a line of numbers: each has at most ten digits, and one byte after it
pub decimals_bounded : (left : ℕ) → Bounded (longest_numbers (suc left)) (decimals (suc left))
decimals_bounded left = record { short = decimals_short (suc left); ended = decimals_ended left }

-- ---- words

-- a word is eight digits and a newline
pub hex_word_bounded : Bounded longest_word hex_word
unfolding hex_word
hex_word_bounded =
    record { short = λ l w e. rw (eqb→eq (length l) 9 (t_and (eqb (length l) 9) (every is_hex_digit (take 8 l)) (tests l w e).0).0) (omega arith); ended = λ l w e. get_d_elem newline l 8 0 tt (eqb→eq (get_or l 8 0) newline (tests l w e).1) }
  where
    tests : (l : List ℕ) (w : ℕ) → hex_word l ≡ some w → T (eqb (length l) 9 && every is_hex_digit (take 8 l)) × T (eqb (get_or l 8 0) newline)
    tests l w e =
        t_and (eqb (length l) 9 && every is_hex_digit (take 8 l)) (eqb (get_or l 8 0) newline)
        (cond_some (eqb (length l) 9 && every is_hex_digit (take 8 l) && eqb (get_or l 8 0) newline) (some (value_of 16 (take 8 l))) w e).0
