-- Laws of texts that are printed one after the other, and of their lengths. Assumes nothing.
use Prim.Native.Nat.{ℕ, zero, suc, ◌+◌, ◌-◌, ◌*◌, ◌/◌, ◌%◌, ◌^◌, ◌≤◌, ◌<◌}
use native.Mathlib.Nat.{add-zero}
use native.Mathlib.Numerals.{add-one}
use native.Mathlib.Omega.{arith}
use mathlib.Core.Path.{◌≡◌, refl, sym, ap, ap₂, ◌∙◌, subst}
use mathlib.Core.Bool.{Bool, cond}
use mathlib.Core.List.{List, [], ◌∷◌, ◌++◌, map, flat_map, flatten, append_assoc, append-nil}
use borrow.Author.Tests.{lt-ltb, le-ltb}
use lib.Dec.{T, ltb, leb, leb→le}
use denote.Ref.{Bor}
use lib.ListN.{length, get_or, take, drop, length-append, get_or-eq_default, get_or-map}
use lib.Seq.{drop-drop}
use borrow.Rule.Slice.PartMut.{put_mid}
use lib.IntN.{ℤ, pos, negsuc}
use Rattle.std.proofs.lemmas.List.{get_or_default}
use Rattle.base.specs.Bytes.{overwrite, u32_from}
use Rattle.base.specs.Lists.{tabulate, every}
use Rattle.base.proofs.ByteLaws.{length_overwrite, overwrite_fits, overwrite_none, overwrite_next}
use Rattle.base.proofs.ListLaws.{length_tabulate, tabulate_next, flat_map_append}
use Rattle.base.proofs.BoolLaws.{t_and, by_cond}
use Rattle.roles_spec.specs.Refusals.{Refused}
use Rattle.validator_spec.specs.Check.{Checked}
use Rattle.validator_spec.specs.Diagnostics.{code_count}
use Rattle.validator_spec.specs.Walk.{Verdict, ValidForParser, Incomplete, Invalid, RowDiagnostic}
use Rattle.listing_spec.specs.Text.{newline, space, text, line, digits, decimal, integer, longest_number}
use Rattle.listing_spec.specs.Packcheck.{code_names, code_name, verdict_name, refusal_text, diagnostic_text, result_text, diagnostic_names, longest_name, verdict_names}
use Rattle.listing.specs.declared.printer.Printer.{Printer}
use Rattle.listing.specs.Terms.{Prints, longest_diagnostic, longest_answer, code_room, signed_room, verdict_room, refusal_room}
use Rattle.listing_spec.specs.Text.{number_room}
use Rattle.validator_spec.specs.Records.{signed, diagnostic_in, diagnostics_in}

-- ---- one after the other

-- nothing is printed
pub prints_none : (p : Printer) → Prints p [] p
prints_none p = record { bytes = sym (overwrite_none p.out.now p.end); ends = sym (add-zero p.end); same = refl }

-- the buffer stays as long as it was
pub prints_length : {old new : Printer} {t : List ℕ} → Prints old t new → length new.out.now ≡ length old.out.now
prints_length {old} {new} {t} p = ap (λ (l : List ℕ). length l) p.bytes ∙ length_overwrite old.out.now old.end t

-- a text and then another
pub prints_next : {old mid new : Printer} {s t : List ℕ} → new.end ≤ length old.out.now → Prints old s mid → Prints mid t new → Prints old (s ++ t) new
prints_next {old} {s = s} {t = t} h p q =
    record {
      bytes = q.bytes ∙ ap₂ (λ (l : List ℕ) (n : ℕ). overwrite l n t) p.bytes p.ends ∙ overwrite_next old.out.now old.end s t (omega (arith, p.ends, q.ends));
      ends = omega (arith, p.ends, q.ends, length-append s t);
      same = q.same ∙ p.same;
    }

-- the same text by another expression
pub prints_as : {old new : Printer} {s t : List ℕ} → s ≡ t → Prints old s new → Prints old t new
prints_as {old} {new} e p = subst (λ (l : List ℕ). Prints old l new) e p

-- a part of a buffer that a text was copied to
pub copied : (old text part : List ℕ) (at size : ℕ) → part ≡ text → size ≡ length text → at + length text ≤ length old → put_mid at size old part ≡ overwrite old at text
copied old text part at size e k h =
    rw (e, k) (ap (λ (l : List ℕ). take at old ++ (text ++ l)) (drop-drop (length text) at old) ∙ sym (append_assoc (take at old) text (drop (at + length text) old)) ∙ sym (overwrite_fits old at text h))

-- ---- digits

length_digits : (most n : ℕ) → length (digits most n) ≤ most
unfolding digits
length_digits zero n = omega arith
length_digits (suc most) n =
    let front = cond (ltb n 10) [] (digits most (n / 10)) in
    let few : length front ≤ most = by_cond (λ (l : List ℕ). length l ≤ most) (ltb n 10) [] (digits most (n / 10)) (λ _. omega arith) (λ _. length_digits most (n / 10)) in
    omega (arith, length-append front ((48 + n % 10) ∷ []))

-- no digits
pub prints_no_digits : (p : Printer) (most n : ℕ) → most ≡ 0 → Prints p (digits most n) p
unfolding digits
prints_no_digits p most n e = rw e (prints_none p)

-- the digit of a number that has one
pub prints_digit : {old new : Printer} (most n : ℕ) → 0 < most → n < 10 → Prints old ((48 + n % 10) ∷ []) new → Prints old (digits most n) new
unfolding digits
prints_digit zero n h l p = absurd (omega arith)
prints_digit (suc most) n h l p = rw (lt-ltb n 10 l) p

-- the last digit of a number that has more
pub prints_last : {old mid new : Printer} (most n : ℕ) → 0 < most → 10 ≤ n → old.end + most ≤ length old.out.now
    → Prints old (digits (most - 1) (n / 10)) mid → Prints mid ((48 + n % 10) ∷ []) new → Prints old (digits most n) new
unfolding digits
prints_last zero n h l room p q = absurd (omega arith)
prints_last (suc most) n h l room p q =
    let e : suc most - 1 ≡ most = omega arith in
    rw (le-ltb n 10 l, ← e) (prints_next (omega (arith, p.ends, q.ends, length_digits (suc most - 1) (n / 10))) p q)

-- where digits end
pub digits_end : {old new : Printer} (most n : ℕ) → Prints old (digits most n) new → new.end ≤ old.end + most
digits_end most n p = omega (arith, p.ends, length_digits most n)

-- ---- numbers

length_decimal : (n : ℕ) → length (decimal n) ≤ 10
unfolding decimal
length_decimal n = length_digits longest_number n

length_integer : (z : ℤ) → length (integer z) ≤ number_room
unfolding integer text
length_integer (pos n) = omega (arith, length_decimal n)
length_integer (negsuc n) = omega (arith, length_decimal (suc n))

-- where a number and a byte end
pub number_end : {old new : Printer} (n b : ℕ) → Prints old (decimal n ++ (b ∷ [])) new → new.end ≤ old.end + number_room
number_end n b p = omega (arith, p.ends, length-append (decimal n) (b ∷ []), length_decimal n)

-- where a signed number and a byte end
pub signed_end : {old new : Printer} (z : ℤ) (b : ℕ) → Prints old (integer z ++ (b ∷ [])) new → new.end ≤ old.end + signed_room
signed_end z b p = omega (arith, p.ends, length-append (integer z) (b ∷ []), length_integer z)

-- the bits of a number that is not negative
pub prints_positive : {old new : Printer} (bits b : ℕ) → bits < 2 ^ 31 → Prints old (decimal bits ++ (b ∷ [])) new → Prints old (integer (signed bits) ++ (b ∷ [])) new
unfolding signed integer
prints_positive bits b h p = rw (lt-ltb bits (2 ^ 31) h) p

-- the bits of a negative number, after its sign
pub prints_negative : {old mid new : Printer} (bits b : ℕ) → 2 ^ 31 ≤ bits → old.end + signed_room ≤ length old.out.now
    → Prints old (45 ∷ []) mid → Prints mid (decimal (0xffff_ffff - bits + 1) ++ (b ∷ [])) new → Prints old (integer (signed bits) ++ (b ∷ [])) new
unfolding signed integer text
prints_negative bits b h room p q =
    rw (le-ltb bits (2 ^ 31) h, ← add-one (0xffff_ffff - bits)) (prints_next (omega (arith, p.ends, number_end _ _ q)) p q)

-- ---- the names of the codes

-- what stands at an index passes a test, where each element of the list and the default past its end pass it
every_get_d : {A : Type 0} (f : A → Bool) (xs : List A) (k : ℕ) (d : A) → T (f d) → T (every f xs) → T (f (get_or xs k d))
every_get_d f [] k d e t = e
every_get_d f (x ∷ xs) zero d e t = (t_and (f x) (every f xs) t).0
every_get_d f (x ∷ xs) (suc k) d e t = every_get_d f xs k d e (t_and (f x) (every f xs) t).1

-- no name is longer
pub length_name : (code : ℕ) → length (text (code_name code)) ≤ longest_name
unfolding code_name code_names text
length_name code = leb→le _ longest_name (every_get_d (λ s. leb (length (text s)) longest_name) code_names (code - 1) "" tt tt)

-- the text that the reference at an index points to
pub now_at : (xs : List (Bor (List ℕ))) (k : ℕ) (d : Bor (List ℕ)) → (get_or xs k d).now ≡ get_or (map (λ x. x.now) xs) k d.now
now_at xs k d = sym (get_or-map (λ (x : Bor (List ℕ)). x.now) xs k d)

-- a code's name stands at its index
pub name_at : (code k : ℕ) (d : List ℕ) → k ≡ code - 1 → k < code_count → get_or (map text code_names) k d ≡ text (code_name code)
unfolding code_name code_names
name_at code k d e below =
    get_or_default (map text code_names) k d (text "") below
    ∙ get_or-map text code_names k ""
    ∙ ap (λ (n : ℕ). text (get_or code_names n "")) e

-- a code past the last has none
pub no_name : (code k : ℕ) → k ≡ code - 1 → code_count ≤ k → [] ≡ text (code_name code)
unfolding code_name code_names text
no_name code k e past = ap text (sym (get_or-eq_default code_names "" {n = code - 1} (omega arith)))

-- where a name and a byte end
pub code_end : {old new : Printer} (code b : ℕ) → Prints old (text (code_name code) ++ (b ∷ [])) new → new.end ≤ old.end + code_room
code_end code b p = omega (arith, p.ends, length-append (text (code_name code)) (b ∷ []), length_name code)

-- ---- lines

-- an item and a space, and then the rest of the line
prints_item : {old mid new : Printer} (x : List ℕ) {rest : List ℕ} → new.end ≤ length old.out.now
    → Prints old (x ++ (space ∷ [])) mid → Prints mid rest new → Prints old (x ++ (space ∷ rest)) new
prints_item x {rest} h p q = prints_as (append_assoc x (space ∷ []) rest) (prints_next h p q)

length_last : (x : List ℕ) → length (line (x ∷ [])) ≡ length x + 1
unfolding line
length_last x = length-append x (newline ∷ [])

length_item : (x y : List ℕ) (ys : List (List ℕ)) → length (line (x ∷ y ∷ ys)) ≡ length x + 1 + length (line (y ∷ ys))
unfolding line
length_item x y ys = omega (arith, length-append x (space ∷ line (y ∷ ys)))

-- ---- refusals

-- a refusal, by its three parts
pub prints_refusal : {old a b new : Printer} (number figure : ℕ) → old.end + refusal_room ≤ length old.out.now
    → Prints old (text "refused ") a → Prints a (decimal number ++ (space ∷ [])) b → Prints b (decimal figure ++ (newline ∷ [])) new
    → Prints old (refusal_text (record { number = number; figure = figure })) new
unfolding refusal_text text line
prints_refusal number figure h p q r =
    let n = number_end _ _ q in
    let m = number_end _ _ r in
    prints_item (text "refused") (omega (arith, p.ends)) p (prints_item (decimal number) (omega (arith, p.ends, prints_length p)) q r)

-- ---- diagnostics

length_diagnostic : (d : RowDiagnostic) → length (diagnostic_text d) ≤ longest_diagnostic
unfolding diagnostic_text
length_diagnostic d =
    let row = decimal d.row in
    let pc = integer d.diagnostic.pc in
    let name = text (code_name d.diagnostic.code) in
    let value = integer d.diagnostic.value in
    omega (
      arith,
      length_item row pc (name ∷ value ∷ []),
      length_item pc name (value ∷ []),
      length_item name value [],
      length_last value,
      length_decimal d.row,
      length_integer d.diagnostic.pc,
      length_name d.diagnostic.code,
      length_integer d.diagnostic.value,
    )

length_diagnostics : (ds : List RowDiagnostic) → length (flat_map diagnostic_text ds) ≤ longest_diagnostic * length ds
unfolding flat_map
length_diagnostics [] = omega arith
length_diagnostics (d ∷ ds) = omega (arith, length-append (diagnostic_text d) (flat_map diagnostic_text ds), length_diagnostic d, length_diagnostics ds)

-- where a diagnostic ends
pub diagnostic_end : {old new : Printer} (d : RowDiagnostic) → Prints old (diagnostic_text d) new → new.end ≤ old.end + longest_diagnostic
diagnostic_end d p = omega (arith, p.ends, length_diagnostic d)

-- where the first of a buffer end
pub diagnostics_end : {old new : Printer} (buffer : List ℕ) (count : ℕ) → Prints old (flat_map diagnostic_text (diagnostics_in buffer count)) new → new.end ≤ old.end + longest_diagnostic * count
unfolding diagnostics_in
diagnostics_end buffer count p =
    omega (arith, p.ends, length_diagnostics (diagnostics_in buffer count), length_tabulate (diagnostic_in buffer) count)

-- diagnostic n, by its four numbers
pub prints_diagnostic : {old a b c new : Printer} (buffer : List ℕ) (n : ℕ) {row pc code value : ℕ} → old.end + longest_diagnostic ≤ length old.out.now
    → row ≡ u32_from buffer (16 * n) → pc ≡ u32_from buffer (16 * n + 4) → code ≡ u32_from buffer (16 * n + 8) → value ≡ u32_from buffer (16 * n + 12)
    → Prints old (decimal row ++ (space ∷ [])) a → Prints a (integer (signed pc) ++ (space ∷ [])) b
    → Prints b (text (code_name code) ++ (space ∷ [])) c → Prints c (integer (signed value) ++ (newline ∷ [])) new
    → Prints old (diagnostic_text (diagnostic_in buffer n)) new
unfolding diagnostic_text diagnostic_in line
prints_diagnostic buffer n {row} {pc} {code} h er ep ec ev p q r s =
    let l = number_end _ _ p in
    let m = signed_end _ _ q in
    let o = code_end _ _ r in
    let e = signed_end _ _ s in
    rw (← er, ← ep, ← ec, ← ev)
    (prints_item (decimal row) (omega arith) p
    (prints_item (integer (signed pc)) (omega (arith, prints_length p)) q
    (prints_item (text (code_name code)) (omega (arith, prints_length p, prints_length q)) r s)))

-- the first n, and the next
pub prints_diagnostics_next : {old mid new : Printer} (buffer : List ℕ) (n : ℕ) → new.end ≤ length old.out.now
    → Prints old (flat_map diagnostic_text (diagnostics_in buffer n)) mid → Prints mid (diagnostic_text (diagnostic_in buffer n)) new
    → Prints old (flat_map diagnostic_text (diagnostics_in buffer (n + 1))) new
unfolding diagnostics_in flat_map
prints_diagnostics_next buffer n h p q =
    let d = diagnostic_in buffer in
    let e : flat_map diagnostic_text (tabulate (n + 1) d) ≡ flat_map diagnostic_text (tabulate n d) ++ diagnostic_text (d n) =
    ap (λ (m : ℕ). flat_map diagnostic_text (tabulate m d)) (add-one n)
    ∙ ap (flat_map diagnostic_text) (tabulate_next d n)
    ∙ flat_map_append diagnostic_text (tabulate n d) (d n ∷ [])
    ∙ ap (λ (l : List ℕ). flat_map diagnostic_text (tabulate n d) ++ l) (append-nil (diagnostic_text (d n))) in
    prints_as (sym e) (prints_next h p q)

-- ---- results

length_verdict : (v : Verdict) → length (text (verdict_name v)) ≤ 14
unfolding verdict_name text
length_verdict ValidForParser = omega arith
length_verdict Incomplete = omega arith
length_verdict Invalid = omega arith

-- where a verdict and a byte end
pub verdict_end : {old new : Printer} (v : Verdict) (b : ℕ) → Prints old (text (verdict_name v) ++ (b ∷ [])) new → new.end ≤ old.end + verdict_room
verdict_end v b p = omega (arith, p.ends, length-append (text (verdict_name v)) (b ∷ []), length_verdict v)

-- the whole result, by its five parts
pub prints_result : {old a b c d new : Printer} (buffer : List ℕ) (count : ℕ) (v : Verdict) → old.end + longest_answer count ≤ length old.out.now
    → Prints old (text diagnostic_names) a → Prints a (flat_map diagnostic_text (diagnostics_in buffer count)) b → Prints b (text verdict_names) c
    → Prints c (text (verdict_name v) ++ (space ∷ [])) d → Prints d (decimal count ++ (newline ∷ [])) new
    → Prints old (result_text (diagnostics_in buffer count) (record { verdict = v; count = count })) new
unfolding result_text line flatten text
prints_result buffer count v h p q r s t =
    let ends = diagnostics_end buffer count q in
    let tells = verdict_end v space s in
    let last = number_end count newline t in
    prints_next (omega (arith, p.ends, r.ends)) p
    (prints_next (omega (arith, p.ends, r.ends, prints_length p)) q
    (prints_next (omega (arith, p.ends, r.ends, prints_length p, prints_length q)) r
    (prints_as (sym (append-nil _))
    (prints_item (text (verdict_name v)) (omega (arith, p.ends, r.ends, prints_length p, prints_length q, prints_length r)) s t))))

-- ---- for the caller

-- no refusal is longer
pub length_refusal : (r : Refused) → length (refusal_text r) ≤ refusal_room
unfolding refusal_text text
length_refusal r =
    let number = decimal r.number in
    let figure = decimal r.figure in
    omega (
      arith,
      length_item (text "refused") number (figure ∷ []),
      length_item number figure [],
      length_last figure,
      length_decimal r.number,
      length_decimal r.figure,
    )

-- no result is longer than its number of diagnostics allows
pub length_result : (ds : List RowDiagnostic) (c : Checked) → length (result_text ds c) ≤ longest_answer (length ds)
unfolding result_text flatten text
length_result ds c =
    let found = flat_map diagnostic_text ds in
    let name = text (verdict_name c.verdict) in
    let last = line (name ∷ decimal c.count ∷ []) in
    omega (
      arith,
      length-append found (text verdict_names ++ (last ++ [])),
      length-append last [],
      length_diagnostics ds,
      length_item name (decimal c.count) [],
      length_last (decimal c.count),
      length_verdict c.verdict,
      length_decimal c.count,
    )
