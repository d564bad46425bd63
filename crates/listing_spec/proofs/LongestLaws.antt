-- No longer input than the longest listing is read without refusal 9 or 10. Assumes nothing.
use Prim.Native.Nat.{ℕ, zero, suc, ◌+◌, ◌-◌, ◌*◌, ◌≤◌, ◌<◌}
use native.Mathlib.Nat.{zero-add}
use native.Mathlib.Omega.{arith}
use mathlib.Core.Path.{◌≡◌, refl, sym, ◌∙◌, ap, subst}
use mathlib.Core.Bool.{Bool, true, false, cond}
use mathlib.Core.List.{List, [], ◌∷◌, flatten}
use mathlib.Core.Option.{Option, none, some}
use lib.Dec.{T}
use lib.ListN.{length, take, drop, length-append}
use lib.Seq.{drop-drop}
use Rattle.roles_spec.specs.Table.{row_fields}
use Rattle.roles_spec.specs.Refusals.{Refused}
use Rattle.validator_spec.specs.Image.{Image}
use Rattle.listing_spec.specs.Text.{text, same, lines}
use Rattle.listing_spec.specs.Listing.{decimals, hex_word, Read, stopped, done, and_then, refused_at, read_as, read_line, read_rows, read_words, max_listing_rows, max_listing_words, read_listing, incoming_names, word_names, row_names}
use Rattle.listing_spec.specs.Longest.{longest_word, longest_rows, longest_listing}
use Rattle.listing_spec.proofs.TextLaws.{same-≡, flatten_lines}
use Rattle.listing_spec.proofs.FormLaws.{Bounded, named_bounded, decimals_bounded, hex_word_bounded}

-- ---- what was read

-- a refusal is no value
pub stopped_done : {A X : Type 0} (r : Refused) (a : A) → stopped r ≡ done a → X
stopped_done r a e = let z : ◌≡◌ {A = ℕ} 0 1 = cc in absurd (omega arith)

-- what was read is known
pub done-≡ : {A : Type 0} (a b : A) → ◌≡◌ {A = Read A} (done a) (done b) → a ≡ b
done-≡ a b e = cc

-- one reading after another is done where both are
pub and_then_done : {A B P : Type 0} (x : Read A) (f : A → Read B) (b : B) → and_then x f ≡ done b → ((a : A) → x ≡ done a → f a ≡ done b → P) → P
unfolding and_then
and_then_done {A} {B} {P} x f b e k = go x refl e
  where
    go : (y : Read A) → x ≡ y → and_then y f ≡ done b → P
    go (stopped r) p q = stopped_done r b q
    go (done a) p q = k a p q

-- a line that was read is in form, and is not one too many
pub read_as_done : {A : Type 0} (at left : ℕ) (o : Option A) (a : A) → read_as at left o ≡ done a → (o ≡ some a) × (0 < left)
unfolding read_as refused_at
read_as_done at left none a e = stopped_done _ a e
read_as_done at zero (some b) a e = stopped_done _ a e
read_as_done at (suc left) (some b) a e = (cc, omega arith)

-- ---- the bytes of what was read

-- the bytes of lines: of the first k, and of the others
pub bytes_split : (k : ℕ) (ls : List (List ℕ)) → length (flatten ls) ≡ length (flatten (take k ls)) + length (flatten (drop k ls))
unfolding flatten
bytes_split zero ls = sym (zero-add (length (flatten ls)))
bytes_split (suc k) [] = refl
bytes_split (suc k) (l ∷ ls) = omega (arith, length-append l (flatten ls), length-append l (flatten (take k ls)), bytes_split k ls)

-- the lines after the first k, and after j more
pub drop_from : (k j m : ℕ) (ls : List (List ℕ)) → k + j ≡ m → drop j (drop k ls) ≡ drop m ls
drop_from k j m ls e = drop-drop j k ls ∙ ap (λ (n : ℕ). drop n ls) e

-- the bytes of these lines
pub bytes_from : (k j m : ℕ) (ls : List (List ℕ)) → k + j ≡ m
    → length (flatten (drop k ls)) ≡ length (flatten (take j (drop k ls))) + length (flatten (drop m ls))
bytes_from k j m ls e =
    bytes_split j (drop k ls) ∙ ap (λ (rest : List (List ℕ)). length (flatten (take j (drop k ls))) + length (flatten rest)) (drop_from k j m ls e)

-- a line that must be there
pub line_bytes : {A : Type 0} {most : ℕ} {form : List ℕ → Option A} (bounded : Bounded most form) (at : ℕ) (ls : List (List ℕ)) (a : A)
    → read_line at form ls ≡ done a → length (flatten (take 1 ls)) ≤ most
unfolding read_line flatten refused_at
line_bytes bounded at [] a e = stopped_done _ a e
line_bytes {form} bounded at (l ∷ ls) a e = omega (arith, bounded.short l a (read_as_done at 1 (form l) a e).0, length-append l [])

-- the number of rows, and their bytes with the line "word"
pub record RowBytes (left : ℕ) (ls rs : List (List ℕ)) : Type 0 where
  pub count : length rs ≤ left
  pub bytes : length (flatten (take (suc (length rs)) ls)) ≤ longest_rows (length rs)

-- rows that were read
pub bytes_of_rows : (ls : List (List ℕ)) (at left : ℕ) (rs : List (List ℕ)) → read_rows at left ls ≡ done rs → RowBytes left ls rs
unfolding read_rows flatten refused_at text
bytes_of_rows [] at left rs e = stopped_done _ rs e
bytes_of_rows (l ∷ ls) at left rs e = go (same l (text word_names)) refl (λ ss. bytes_of_rows ls (suc at) (left - 1) ss) e
  where
    go : (b : Bool) → same l (text word_names) ≡ b → ((ss : List (List ℕ)) → read_rows (suc at) (left - 1) ls ≡ done ss → RowBytes (left - 1) ls ss)
        → cond b (done []) (and_then (read_as at left (decimals row_fields l)) (λ r. and_then (read_rows (suc at) (left - 1) ls) (λ ss. done (r ∷ ss)))) ≡ done rs
        → RowBytes left (l ∷ ls) rs
    go true p rest q =
        subst (RowBytes left (l ∷ ls)) (done-≡ [] rs q)
        (record { count = omega arith; bytes = omega (arith, length-append l [], ap length (same-≡ l (text word_names) (subst T (sym p) tt))) })
    go false p rest q =
        and_then_done _ _ rs q (λ r e₁ q₁.
        and_then_done _ _ rs q₁ (λ ss e₂ q₂.
        let form = read_as_done at left (decimals row_fields l) r e₁ in
        let more = rest ss e₂ in
        subst (RowBytes left (l ∷ ls)) (done-≡ (r ∷ ss) rs q₂)
        (record { count = omega (arith, form.1, more.count); bytes = omega (arith, more.bytes, (decimals_bounded (row_fields - 1)).short l r form.0, length-append l (flatten (take (suc (length ss)) ls))) })))

-- words that were read
pub word_bytes : (ls : List (List ℕ)) (at left : ℕ) (ws : List ℕ) → read_words at left ls ≡ done ws → length (flatten ls) ≤ longest_word * left
unfolding read_words flatten
word_bytes [] at left ws e = omega arith
word_bytes (l ∷ ls) at left ws e =
    and_then_done _ _ ws e (λ w e₁ q₁.
    and_then_done _ _ ws q₁ (λ vs e₂ q₂.
    let form = read_as_done at left (hex_word l) w e₁ in
    omega (arith, form.1, hex_word_bounded.short l w form.0, word_bytes ls (suc at) (left - 1) vs e₂, length-append l (flatten ls))))

-- ---- the whole input

-- no longer input is read without a refusal
pub longest_read : (input : List ℕ) (i : Image) → read_listing input ≡ done i → length input ≤ longest_listing
unfolding read_listing text
longest_read input i e =
    let ls = lines input in
    and_then_done _ _ i e (λ _ e₁ q₁.
    and_then_done _ _ i q₁ (λ ns e₂ q₂.
    and_then_done _ _ i q₂ (λ _ e₃ q₃.
    and_then_done _ _ i q₃ (λ rs e₄ q₄.
    and_then_done _ _ i q₄ (λ ws e₅ q₅.
    let rows = bytes_of_rows (drop 3 ls) 4 max_listing_rows rs e₄ in
    let after : 3 + suc (length rs) ≡ 4 + length rs = omega arith in
    omega (
      arith,
      ap length (flatten_lines input),
      bytes_from 0 1 1 ls refl,
      line_bytes (named_bounded incoming_names tt) 1 ls _ e₁,
      bytes_from 1 1 2 ls refl,
      line_bytes (decimals_bounded 1) 2 (drop 1 ls) ns e₂,
      bytes_from 2 1 3 ls refl,
      line_bytes (named_bounded row_names tt) 3 (drop 2 ls) _ e₃,
      bytes_from 3 (suc (length rs)) (4 + length rs) ls after,
      rows.count,
      rows.bytes,
      word_bytes (drop (4 + length rs) ls) (5 + length rs) max_listing_words ws e₅,
    ))))))
