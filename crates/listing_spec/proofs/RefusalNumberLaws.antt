-- Of refusals 1 to 8 the program gives only 1, 4, 5, 6 and 8: no image that was read has the others. Assumes nothing.
use Prim.Native.Nat.{ℕ, zero, suc, ◌+◌, ◌-◌, ◌*◌, ◌%◌, ◌≤◌}
use native.Mathlib.Omega.{arith}
use mathlib.Core.Path.{◌≡◌, refl, sym, ◌∙◌, ap, subst}
use mathlib.Core.Bool.{Bool, true, false, ◌&&◌, ◌||◌, cond, not}
use mathlib.Core.List.{List, [], ◌∷◌, flatten}
use mathlib.Core.Option.{Option, none, some, none-ne-some}
use lib.Dec.{T, eqb, ltb, ltb→lt}
use lib.ListN.{length, get_or, drop, length-append}
use Rattle.base.specs.Lists.{elem, take_while}
use Rattle.base.specs.Bytes.{u32_record}
use Rattle.base.proofs.ByteLaws.{length_u32_record}
use Rattle.base.proofs.BoolLaws.{by_or}
use Rattle.roles_spec.specs.Table.{Row, row_fields, row_bytes, rows}
use Rattle.roles_spec.specs.Roles.{role_bytes}
use Rattle.roles_spec.specs.Refusals.{Refused, refuse, refuse_if, or_else, depth_fits, bad_depth, fields_fit, bad_field, word_total, image_refusal, roles_refusal, too_short, max_rows, max_word_bytes}
use Rattle.roles_spec.proofs.RefusalLaws.{image_kept}
use Rattle.roles_spec.proofs.TableLaws.{length_rows}
use Rattle.validator_spec.specs.Image.{Image}
use Rattle.validator_spec.specs.Check.{check_refusal}
use Rattle.listing_spec.specs.Text.{text, same, lines, is_digit, value_of, is_decimal}
use Rattle.listing_spec.specs.Listing.{separator, cons_number, decimals, hex_word, done, and_then, refused_at, read_as, read_rows, read_words, max_listing_rows, max_listing_words, read_listing, word_names}
use Rattle.listing_spec.specs.Packcheck.{diagnostic_room, role_room}
use Rattle.listing_spec.proofs.FormLaws.{cond_some}
use Rattle.listing_spec.proofs.LongestLaws.{stopped_done, done-≡, and_then_done, read_as_done, bytes_of_rows}

-- ---- the lengths of what was read

-- a line of `count` decimals is read as `count` numbers
pub decimals_count : (count : ℕ) (cs ns : List ℕ) → decimals count cs ≡ some ns → length ns ≡ count
unfolding decimals cons_number
decimals_count zero [] ns e = let z : [] ≡ ns = cc in sym (ap length z)
decimals_count zero (c ∷ cs) ns e = absurd (none-ne-some _ e)
decimals_count (suc left) cs ns e =
    let ds = take_while is_digit cs in
    let rest = drop (length ds) cs in
    let more = decimals left (drop 1 rest) in
    go more (value_of 10 ds) (λ ms q. decimals_count left (drop 1 rest) ms q)
    (cond_some (is_decimal ds && eqb (get_or rest 0 0) (separator left)) (cons_number (value_of 10 ds) more) ns e).1
  where
    go : (o : Option (List ℕ)) (n : ℕ) → ((ms : List ℕ) → o ≡ some ms → length ms ≡ left) → cons_number n o ≡ some ns → length ns ≡ suc left
    go none n more u = absurd (none-ne-some _ u)
    go (some ms) n more u = let z : n ∷ ms ≡ ns = cc in sym (ap length z) ∙ ap suc (more ms refl)

-- the rows that were read have five numbers each
pub row_numbers : (ls : List (List ℕ)) (at left : ℕ) (rs : List (List ℕ)) → read_rows at left ls ≡ done rs → length (flatten rs) ≡ row_fields * length rs
unfolding read_rows flatten refused_at
row_numbers [] at left rs e = stopped_done _ rs e
row_numbers (l ∷ ls) at left rs e = go (same l (text word_names)) (λ ss. row_numbers ls (suc at) (left - 1) ss) e
  where
    go : (b : Bool) → ((ss : List (List ℕ)) → read_rows (suc at) (left - 1) ls ≡ done ss → length (flatten ss) ≡ row_fields * length ss)
        → cond b (done []) (and_then (read_as at left (decimals row_fields l)) (λ r. and_then (read_rows (suc at) (left - 1) ls) (λ ss. done (r ∷ ss)))) ≡ done rs
        → length (flatten rs) ≡ row_fields * length rs
    go true rest q = subst (λ (ts : List (List ℕ)). length (flatten ts) ≡ row_fields * length ts) (done-≡ [] rs q) refl
    go false rest q =
        and_then_done _ _ rs q (λ r e₁ q₁.
        and_then_done _ _ rs q₁ (λ ss e₂ q₂.
        let form = read_as_done at left (decimals row_fields l) r e₁ in
        subst (λ (ts : List (List ℕ)). length (flatten ts) ≡ row_fields * length ts) (done-≡ (r ∷ ss) rs q₂)
        (omega (arith, length-append r (flatten ss), decimals_count row_fields l r form.0, rest ss e₂))))

-- no more words are read than may be
pub word_count : (ls : List (List ℕ)) (at left : ℕ) (ws : List ℕ) → read_words at left ls ≡ done ws → length ws ≤ left
unfolding read_words
word_count [] at left ws e = subst (λ (vs : List ℕ). length vs ≤ left) (done-≡ [] ws e) (omega arith)
word_count (l ∷ ls) at left ws e =
    and_then_done _ _ ws e (λ w e₁ q₁.
    and_then_done _ _ ws q₁ (λ vs e₂ q₂.
    subst (λ (us : List ℕ). length us ≤ left) (done-≡ (w ∷ vs) ws q₂)
    (omega (arith, (read_as_done at left (hex_word l) w e₁).1, word_count ls (suc at) (left - 1) vs e₂))))

-- an image that was read: whole rows, at most 64 of them, and at most 2,048 words
pub record ReadLengths (i : Image) : Type 0 where
  pub whole_rows : length i.table % row_bytes ≡ 0
  pub row_limit : length i.table ≤ row_bytes * max_listing_rows
  pub word_limit : length i.words ≤ 4 * max_listing_words

-- every image that was read has these bounds
pub read_lengths : (input : List ℕ) (i : Image) → read_listing input ≡ done i → ReadLengths i
unfolding read_listing
read_lengths input i e =
    let ls = lines input in
    and_then_done _ _ i e (λ _ e₁ q₁.
    and_then_done _ _ i q₁ (λ ns e₂ q₂.
    and_then_done _ _ i q₂ (λ _ e₃ q₃.
    and_then_done _ _ i q₃ (λ rs e₄ q₄.
    and_then_done _ _ i q₄ (λ ws e₅ q₅.
    let count = (bytes_of_rows (drop 3 ls) 4 max_listing_rows rs e₄).count in
    let numbers = row_numbers (drop 3 ls) 4 max_listing_rows rs e₄ in
    let words = word_count (drop (4 + length rs) ls) (5 + length rs) max_listing_words ws e₅ in
    let table : length (u32_record (flatten rs)) ≡ row_bytes * length rs = omega (arith, length_u32_record (flatten rs), numbers) in
    subst ReadLengths (done-≡ _ i q₅)
    (record { whole_rows = omega arith; row_limit = omega arith; word_limit = omega (arith, length_u32_record ws) }))))))

-- ---- the numbers of a refusal

-- a refusal, where there is one, has one of these numbers
abbrev pub Among : List ℕ → Option Refused → Type 0
Among numbers o = (r : Refused) → o ≡ some r → T (elem r.number numbers)

module _ (numbers : List ℕ) where
  -- two refusals, where the second is given only if the first is not
  pub among_or_else : (a b : Option Refused) → Among numbers a → (a ≡ none → Among numbers b) → Among numbers (or_else a b)
  unfolding or_else
  among_or_else none b first second r e = second refl r e
  among_or_else (some s) b first second r e = first r e

  -- a refusal by a test: the test fails, or the number is one of these
  pub among_refuse_if : (b : Bool) (number figure : ℕ) → (T b → T (elem number numbers)) → Among numbers (refuse_if b number figure)
  unfolding refuse_if refuse
  among_refuse_if true number figure h r e = let z : number ≡ r.number = cc in subst (λ (n : ℕ). T (elem n numbers)) z (h tt)
  among_refuse_if false number figure h r e = absurd (none-ne-some _ e)

  -- a wrong depth is refusal 4
  pub among_bad_depth : T (elem 4 numbers) → (rs : List Row) (least most : ℕ) → Among numbers (bad_depth least most rs)
  unfolding bad_depth
  among_bad_depth h [] least most = λ r e. absurd (none-ne-some _ e)
  among_bad_depth h (s ∷ rs) least most =
      among_or_else _ (bad_depth 1 (suc s.depth) rs) (among_refuse_if (not (depth_fits least most s)) 4 s.row (λ _. h))
      (λ _. among_bad_depth h rs 1 (suc s.depth))

  -- a wrong field is refusal 5
  pub among_bad_field : T (elem 5 numbers) → (rs : List Row) → Among numbers (bad_field rs)
  unfolding bad_field
  among_bad_field h [] = λ r e. absurd (none-ne-some _ e)
  among_bad_field h (s ∷ rs) = among_or_else _ (bad_field rs) (among_refuse_if (not (fields_fit s)) 5 s.row (λ _. h)) (λ _. among_bad_field h rs)

-- ---- of an image that was read

-- the refusals that the program can give, but for 9 and 10
abbrev pub possible : List ℕ
possible = 1 ∷ 4 ∷ 5 ∷ 6 ∷ 8 ∷ []

module _ (i : Image) (lengths : ReadLengths i) where
  -- no part of a row is left over
  not_2 : T (not (eqb (length i.table % row_bytes) 0)) → T (elem 2 possible)
  not_2 t = subst (λ (n : ℕ). T (not (eqb n 0))) lengths.whole_rows t

  -- there are not too many rows, nor too many words
  not_3 : T (ltb max_rows (length (rows i.table)) || ltb max_word_bytes (length i.words)) → T (elem 3 possible)
  not_3 t =
      by_or (ltb max_rows (length (rows i.table))) (ltb max_word_bytes (length i.words))
      (λ u. absurd (omega (arith, ltb→lt max_rows (length (rows i.table)) u, length_rows i.table, lengths.row_limit)))
      (λ u. absurd (omega (arith, ltb→lt max_word_bytes (length i.words) u, lengths.word_limit))) t

  -- the role buffer holds every word
  not_7 : image_refusal i.table i.words ≡ none → T (ltb role_room (role_bytes * word_total (rows i.table))) → T (elem 7 possible)
  not_7 e t =
      absurd (omega (arith, ltb→lt role_room (role_bytes * word_total (rows i.table)) t, (image_kept i.table i.words e).word_count, lengths.word_limit))

  -- refusals 1 to 6
  image_numbers : Among possible (image_refusal i.table i.words)
  unfolding image_refusal
  image_numbers =
      let rs = rows i.table in
      among_or_else possible _ _ (among_refuse_if possible _ 1 0 (λ _. tt)) (λ _.
      among_or_else possible _ _ (among_refuse_if possible _ 2 0 not_2) (λ _.
      among_or_else possible _ _ (among_refuse_if possible _ 3 0 not_3) (λ _.
      among_or_else possible _ _ (among_bad_depth possible tt rs 0 0) (λ _.
      among_or_else possible _ _ (among_bad_field possible tt rs) (λ _.
      among_refuse_if possible _ 6 0 (λ _. tt))))))

  -- refusals 1 to 8
  check_numbers : Among possible (check_refusal i role_room diagnostic_room)
  unfolding check_refusal roles_refusal too_short
  check_numbers =
      among_or_else possible _ _ (among_or_else possible _ _ image_numbers (λ e. among_refuse_if possible _ 7 0 (not_7 e)))
      (λ _. among_refuse_if possible _ 8 _ (λ _. tt))

-- the check call gives the program only 1, 4, 5, 6 and 8
pub refusals : (input : List ℕ) (i : Image) (r : Refused) → read_listing input ≡ done i → check_refusal i role_room diagnostic_room ≡ some r → T (elem r.number possible)
refusals input i r e q = check_numbers i (read_lengths input i e) r q
