-- What is read of an input's first bytes, where they are enough, is what is read of the whole input. Assumes nothing.
use Prim.Native.Nat.{ℕ, zero, suc, ◌+◌, ◌-◌, ◌*◌, ◌≤◌, ◌<◌}
use Prim.Native.String.{len}
use native.Mathlib.Omega.{arith}
use mathlib.Core.Path.{◌≡◌, refl, sym, ◌∙◌, ap, subst}
use mathlib.Core.Bool.{Bool, true, false, cond}
use mathlib.Core.List.{List, [], ◌∷◌, flatten}
use mathlib.Core.Option.{Option, none, some, none-ne-some}
use lib.Dec.{eqb}
use lib.ListN.{length, take, drop, length-append}
use Rattle.base.specs.Lists.{elem}
use Rattle.roles_spec.specs.Table.{row_fields}
use Rattle.listing_spec.specs.Text.{text, newline, same, join_first, lines}
use Rattle.listing_spec.specs.Listing.{named, decimals, hex_word, Read, stopped, done, and_then, refused_at, read_as, read_line, read_rows, read_words, max_listing_rows, max_listing_words, read_listing, incoming_names, word_names, row_names}
use Rattle.listing_spec.specs.Packcheck.{output_text, packcheck}
use Rattle.listing_spec.specs.Longest.{longest_numbers, longest_word, longest_rows, longest_listing, input_bytes, DecidedBy}
use Rattle.listing_spec.proofs.TextLaws.{eqb_swap}
use Rattle.listing_spec.proofs.FormLaws.{Bounded, long_none, cut_none, named_bounded, decimals_bounded, hex_word_bounded}
use Rattle.listing_spec.proofs.LongestLaws.{read_as_done, drop_from, line_bytes, bytes_of_rows}

-- ---- the lines of the first bytes of a text

-- the lines of the first bytes of a text, at least n of them, and the lines of the whole: the same up to one that the end of those bytes cuts
pub data Cut : ℕ → List (List ℕ) → List (List ℕ) → Type 0 where
  unchanged : {n : ℕ} {ks ls : List (List ℕ)} → ks ≡ ls → Cut n ks ls
  nothing : {n : ℕ} {l : List ℕ} {ls : List (List ℕ)} → n ≡ 0 → n < length l → Cut n [] (l ∷ ls)
  torn : {n : ℕ} {k l : List ℕ} {ls : List (List ℕ)} → elem newline k ≡ false → n < length l → Cut n (k ∷ []) (l ∷ ls)
  next : {n m : ℕ} {l : List ℕ} {ks ls : List (List ℕ)} → Cut m ks ls → n ≤ length l + m → Cut n (l ∷ ks) (l ∷ ls)

-- one byte more in front, that is no newline
cut_join : {n : ℕ} {ks ls : List (List ℕ)} (c : ℕ) → eqb newline c ≡ false → Cut n ks ls → Cut (suc n) (join_first c ks) (join_first c ls)
unfolding join_first
cut_join c e (unchanged p) = unchanged (ap (join_first c) p)
cut_join c e (nothing {n} {l} p h) = torn {n = suc n} {k = c ∷ []} {l = c ∷ l} (rw e) (omega arith)
cut_join c e (torn {n} {k} {l} f h) = torn {n = suc n} {k = c ∷ k} {l = c ∷ l} (rw (e, f)) (omega arith)
cut_join c e (next {n} {l} k h) = next {n = suc n} {l = c ∷ l} k (omega arith)

-- the lines of the first n bytes
pub cut_lines : (n : ℕ) (xs : List ℕ) → Cut n (lines (take n xs)) (lines xs)
unfolding lines join_first
cut_lines zero [] = unchanged refl
cut_lines zero (c ∷ cs) = go (eqb c newline) (lines cs)
  where
    go : (b : Bool) (ls : List (List ℕ)) → Cut 0 [] (cond b ((c ∷ []) ∷ ls) (join_first c ls))
    go true ls = nothing {l = c ∷ []} refl (omega arith)
    go false [] = nothing {l = c ∷ []} refl (omega arith)
    go false (l ∷ ls) = nothing {l = c ∷ l} refl (omega arith)
cut_lines (suc n) [] = unchanged refl
cut_lines (suc n) (c ∷ cs) = go (eqb c newline) refl (cut_lines n cs)
  where
    go : {ks ls : List (List ℕ)} (b : Bool) → eqb c newline ≡ b → Cut n ks ls → Cut (suc n) (cond b ((c ∷ []) ∷ ks) (join_first c ks)) (cond b ((c ∷ []) ∷ ls) (join_first c ls))
    go true e k = next {n = suc n} {l = c ∷ []} k (omega arith)
    go false e k = cut_join c (eqb_swap c newline e) k

-- after lines that those bytes have whole
pub cut_after : {n : ℕ} {ks ls : List (List ℕ)} → Cut n ks ls → (j m : ℕ) → length (flatten (take j ls)) + m ≤ n → Cut m (drop j ks) (drop j ls)
unfolding flatten
cut_after (unchanged p) j m h = unchanged (ap (drop j) p)
cut_after (nothing {l} p k) zero m h = nothing {n = m} {l = l} (omega arith) (omega arith)
cut_after (nothing {l} {ls} p k) (suc j) m h = absurd (omega (arith, length-append l (flatten (take j ls))))
cut_after (torn {l} e k) zero m h = torn {n = m} {l = l} e (omega arith)
cut_after (torn {l} {ls} e k) (suc j) m h = absurd (omega (arith, length-append l (flatten (take j ls))))
cut_after (next {l} c k) zero m h = next {n = m} {l = l} c (omega arith)
cut_after (next {l} {ls} c k) (suc j) m h = cut_after c j m (omega (arith, length-append l (flatten (take j ls))))

-- the same for the lines after the first i, and after j of those
cut_from : {n : ℕ} (i j k m : ℕ) (ks ls : List (List ℕ)) → i + j ≡ k → Cut n (drop i ks) (drop i ls) → length (flatten (take j (drop i ls))) + m ≤ n
    → Cut m (drop k ks) (drop k ls)
cut_from i j k m ks ls e c h =
    subst (λ (x : List (List ℕ)). Cut m x (drop k ls)) (drop_from i j k ks e)
    (subst (λ (x : List (List ℕ)). Cut m (drop j (drop i ks)) x) (drop_from i j k ls e) (cut_after c j m h))

-- ---- reading them

-- one reading after another, where the first reads the same, and so does the second after it
pub and_then_same : {A B : Type 0} (x y : Read A) (f g : A → Read B) → x ≡ y → ((a : A) → y ≡ done a → f a ≡ g a) → and_then x f ≡ and_then y g
unfolding and_then
and_then_same {A} x y f g e h = ap (λ (z : Read A). and_then z f) e ∙ go y refl
  where
    go : (z : Read A) → y ≡ z → and_then z f ≡ and_then z g
    go (stopped r) q = refl
    go (done a) q = h a q

-- a line that must be there
pub line_cut : {A : Type 0} {most n : ℕ} {form : List ℕ → Option A} {ks ls : List (List ℕ)} (bounded : Bounded most form) (at : ℕ) → Cut n ks ls → most ≤ n
    → read_line at form ks ≡ read_line at form ls
unfolding read_line read_as
line_cut {form} bounded at (unchanged p) h = ap (read_line at form) p
line_cut bounded at (nothing {l} p k) h = rw (long_none bounded l (omega arith))
line_cut bounded at (torn {k} {l} e u) h = rw (cut_none bounded k e, long_none bounded l (omega arith))
line_cut bounded at (next c k) h = refl

-- a line that is neither a row nor the line "word"
row_none : (at left : ℕ) (l : List ℕ) (ls : List (List ℕ)) → named word_names l ≡ none → decimals row_fields l ≡ none → read_rows at left (l ∷ ls) ≡ refused_at 9 at
unfolding read_rows read_as and_then refused_at named
row_none at left l ls e f = go (same l (text word_names)) e
  where
    go : (b : Bool) → cond b (some l) none ≡ none
        → cond b (done []) (and_then (read_as at left (decimals row_fields l)) (λ r. and_then (read_rows (suc at) (left - 1) ls) (λ rs. done (r ∷ rs)))) ≡ refused_at 9 at
    go true q = absurd (none-ne-some _ (sym q))
    go false q = rw f

-- the rows: enough bytes for one row more than are read
pub rows_cut : {n : ℕ} {ks ls : List (List ℕ)} → Cut n ks ls → (at left : ℕ) → longest_numbers row_fields * suc left ≤ n → read_rows at left ks ≡ read_rows at left ls
unfolding read_rows text
rows_cut (unchanged p) at left h = ap (read_rows at left) p
rows_cut (nothing p k) at left h = absurd (omega arith)
rows_cut (torn {k} {l} {ls} e u) at left h =
    let names = named_bounded word_names tt in
    let numbers = decimals_bounded (row_fields - 1) in
    row_none at left k [] (cut_none names k e) (cut_none numbers k e)
    ∙ sym (row_none at left l ls (long_none names l (omega arith)) (long_none numbers l (omega arith)))
rows_cut (next {l} c k) at left h =
    ap (cond (same l (text word_names)) (done []))
    (and_then_same _ _ _ _ refl (λ r e.
    let form = read_as_done at left (decimals row_fields l) r e in
    and_then_same _ _ _ _ (rows_cut c (suc at) (left - 1) (omega (arith, form.1, (decimals_bounded (row_fields - 1)).short l r form.0))) (λ _ _. refl)))

-- the words: enough bytes for one word more than are read
pub words_cut : {n : ℕ} {ks ls : List (List ℕ)} → Cut n ks ls → (at left : ℕ) → longest_word * suc left ≤ n → read_words at left ks ≡ read_words at left ls
unfolding read_words read_as and_then refused_at
words_cut (unchanged p) at left h = ap (read_words at left) p
words_cut (nothing p k) at left h = absurd (omega arith)
words_cut (torn {k} {l} {ls} e u) at left h = rw (cut_none hex_word_bounded k e, long_none hex_word_bounded l (omega arith))
words_cut (next {l} c k) at left h =
    and_then_same _ _ _ _ refl (λ w e.
    let form = read_as_done at left (hex_word l) w e in
    and_then_same _ _ _ _ (words_cut c (suc at) (left - 1) (omega (arith, form.1, hex_word_bounded.short l w form.0))) (λ _ _. refl))

-- ---- the whole input

-- the longest listing and one word more decide what is read
pub decided : (n : ℕ) → longest_listing + longest_word ≤ n → (input : List ℕ) → read_listing (take n input) ≡ read_listing input
unfolding read_listing text
decided n h input =
    let ks = lines (take n input) in
    let ls = lines input in
    let first = named_bounded incoming_names tt in
    let third = named_bounded row_names tt in
    let words = longest_word * suc max_listing_words in
    let rows = longest_rows max_listing_rows + words in
    let c₀ = cut_lines n input in
    and_then_same _ _ _ _ (line_cut first 1 c₀ (omega arith)) (λ a e₁.
    let c₁ = cut_from 0 1 1 (longest_numbers 2 + len row_names + rows) ks ls refl c₀ (omega (arith, line_bytes first 1 ls a e₁)) in
    and_then_same _ _ _ _ (line_cut (decimals_bounded 1) 2 c₁ (omega arith)) (λ ns e₂.
    let c₂ = cut_from 1 1 2 (len row_names + rows) ks ls refl c₁ (omega (arith, line_bytes (decimals_bounded 1) 2 (drop 1 ls) ns e₂)) in
    and_then_same _ _ _ _ (line_cut third 3 c₂ (omega arith)) (λ b e₃.
    let c₃ = cut_from 2 1 3 rows ks ls refl c₂ (omega (arith, line_bytes third 3 (drop 2 ls) b e₃)) in
    and_then_same _ _ _ _ (rows_cut c₃ 4 max_listing_rows (omega arith)) (λ rs e₄.
    let read = bytes_of_rows (drop 3 ls) 4 max_listing_rows rs e₄ in
    let c₄ = cut_from 3 (suc (length rs)) (4 + length rs) words ks ls (omega arith) c₃ (omega (arith, read.count, read.bytes)) in
    and_then_same _ _ _ _ (words_cut c₄ (5 + length rs) max_listing_words (omega arith)) (λ _ _. refl)))))

-- the program's buffer decides what it writes
pub long_input : DecidedBy input_bytes
unfolding packcheck
long_input input = ap output_text (decided input_bytes (omega arith) input)
