-- Diagnostics that were written to a buffer as records are read back from it. Assumes nothing.
use Prim.Native.Nat.{ℕ, suc, ◌+◌, ◌-◌, ◌*◌, ◌/◌, ◌^◌, ◌≤◌, ◌<◌}
use native.Mathlib.Nat.{add-zero, zero-add}
use native.Mathlib.Omega.{arith}
use mathlib.Core.Path.{◌≡◌, refl, sym, ap, ◌∙◌}
use mathlib.Core.List.{List, ◌++◌, map, flat_map}
use borrow.Author.Tests.{lt-ltb, le-ltb}
use lib.ListN.{length, get_or, take, drop, length-map, get_or-map}
use lib.IntN.{ℤ, pos, negsuc}
use lib.Seq.{length-take-le, ext_get_or}
use Rattle.base.specs.Lists.{All, tabulate}
use Rattle.base.specs.Bytes.{overwrite, u32_from, i32_bits, i32_record}
use Rattle.base.proofs.AllLaws.{all_at, all_map, all_flat_map, all_imp}
use Rattle.base.proofs.ByteLaws.{u32_from_record}
use Rattle.base.proofs.PartLaws.{next_part, u32_from_part}
use Rattle.base.proofs.ListLaws.{get_d_tabulate, length_tabulate, get_d_flat_map, length_flat_map}
use Rattle.validator_spec.specs.Walk.{RowDiagnostic, diagnostic_fields, diagnostic_bytes}
use Rattle.validator_spec.proofs.RangeLaws.{Signed32, InRange, signed_bits_below, fields_signed}
use Rattle.validator_spec.specs.Records.{signed, diagnostic_in, diagnostics_in}

-- the number that the bits of an i32 are
pub signed_back : (z : ℤ) → Signed32 z → signed (i32_bits z) ≡ z
unfolding signed i32_bits
signed_back (pos n) h = rw (lt-ltb n (2 ^ 31) h)
signed_back (negsuc n) h =
    let e : 2 ^ 31 ≤ 0x1_0000_0000 - suc n = omega arith in
    rw (le-ltb (0x1_0000_0000 - suc n) (2 ^ 31) e) (ap negsuc (omega arith))

four_fields : (d : RowDiagnostic) → length (diagnostic_fields d) ≡ 4
unfolding diagnostic_fields
four_fields d = refl

module _ (old : List ℕ) (ds : List RowDiagnostic) (held : All (InRange (2 ^ 31)) ds) (fits : diagnostic_bytes * length ds ≤ length old) where
  abbrev written : List ℕ
  written = overwrite old 0 (i32_record (flat_map diagnostic_fields ds))

  -- field j of diagnostic i
  field_read : (i j : ℕ) (d : RowDiagnostic) → i < length ds → j < 4 → u32_from written (16 * i + 4 * j) ≡ i32_bits (get_or (diagnostic_fields (get_or ds i d)) j (pos 0))
  unfolding i32_record i32_bits
  field_read i j d h k =
      let fields = flat_map diagnostic_fields ds in
      let before = length (flat_map diagnostic_fields (take i ds)) in
      let ahead : before ≡ 4 * i = length_flat_map diagnostic_fields 4 four_fields (take i ds) ∙ ap (λ (n : ℕ). 4 * n) (length-take-le i ds (omega arith)) in
      let size : length (map i32_bits fields) ≡ 4 * length ds = length-map fields i32_bits ∙ length_flat_map diagnostic_fields 4 four_fields ds in
      let place : 16 * i + 4 * j ≡ 0 + 4 * (before + j) = omega arith in
      ap (u32_from written) place
      ∙ u32_from_record old 0 (map i32_bits fields) (before + j) (all_map (λ n. n < 2 ^ 32) i32_bits (all_imp signed_bits_below (all_flat_map Signed32 diagnostic_fields (all_imp fields_signed held)))) (omega arith) (omega arith)
      ∙ get_or-map i32_bits fields (before + j) (pos 0)
      ∙ ap i32_bits (get_d_flat_map diagnostic_fields ds i j d (pos 0) h (omega (arith, four_fields (get_or ds i d))))

  diagnostic_read : (i : ℕ) (d : RowDiagnostic) → i < length ds → diagnostic_in written i ≡ get_or ds i d
  unfolding diagnostic_in diagnostic_fields i32_bits
  diagnostic_read i d h =
      let r = all_at i d h held in
      let row : u32_from written (16 * i) ≡ (get_or ds i d).row = ap (u32_from written) (omega arith) ∙ field_read i 0 d h (omega arith) in
      let pc : signed (u32_from written (16 * i + 4)) ≡ (get_or ds i d).diagnostic.pc = ap signed (field_read i 1 d h (omega arith)) ∙ signed_back _ r.held.pc in
      let value : signed (u32_from written (16 * i + 12)) ≡ (get_or ds i d).diagnostic.value = ap signed (field_read i 3 d h (omega arith)) ∙ signed_back _ r.held.value in
      rw (row, pc, field_read i 2 d h (omega arith), value)

  -- all of them, where four i32 hold each and they fit
  pub diagnostics_read : diagnostics_in (overwrite old 0 (i32_record (flat_map diagnostic_fields ds))) (length ds) ≡ ds
  unfolding diagnostics_in
  diagnostics_read =
      let d : RowDiagnostic = record { row = 0; diagnostic = record { pc = pos 0; code = 0; value = pos 0 } } in
      let size = length_tabulate (diagnostic_in written) (length ds) in
      ext_get_or d (diagnostics_in written (length ds)) ds size
      (λ i h. get_d_tabulate (diagnostic_in written) (length ds) i d (omega arith) ∙ diagnostic_read i d (omega arith))

-- ---- a part of a buffer

-- a record of a part of a buffer
record_part : (s : List ℕ) (a k i : ℕ) → 16 * (i + 1) ≤ k → diagnostic_in (take k (drop (16 * a) s)) i ≡ diagnostic_in s (a + i)
unfolding diagnostic_in
record_part s a k i h =
    let word : (j : ℕ) → j + 4 ≤ 16 → u32_from (take k (drop (16 * a) s)) (16 * i + j) ≡ u32_from s (16 * (a + i) + j) = λ j l. u32_from_part s (16 * a) k (16 * i + j) (omega arith) ∙ ap (u32_from s) (omega arith) in
    let first : u32_from (take k (drop (16 * a) s)) (16 * i) ≡ u32_from s (16 * (a + i)) = u32_from_part s (16 * a) k (16 * i) (omega arith) ∙ ap (u32_from s) (omega arith) in
    rw (first, word 4 (omega arith), word 8 (omega arith), word 12 (omega arith))

-- sixteen bytes off the front of what is left after i records: they are record i, and the bytes after i + 1 records are left
pub record Cut (s part rest : List ℕ) (i : ℕ) : Type 0 where
  pub within : 16 * (i + 1) ≤ length s
  pub left : rest ≡ drop (16 * (i + 1)) s
  pub value : diagnostic_in part 0 ≡ diagnostic_in s i

pub cut : (s part rest : List ℕ) (i : ℕ) → 16 * i ≤ length s → drop (16 * i) s ≡ part ++ rest → length part ≡ 16 → Cut s part rest i
cut s part rest i h e size =
    let taken = next_part s part rest (16 * i) 16 h e size in
    let after : 16 * i + 16 ≡ 16 * (i + 1) = omega arith in
    record {
      within = omega (arith, taken.within);
      left = taken.rest_is ∙ ap (λ (n : ℕ). drop n s) after;
      value = ap (λ (l : List ℕ). diagnostic_in l 0) taken.part_is ∙ record_part s i 16 0 (omega arith) ∙ ap (diagnostic_in s) (add-zero i);
    }

-- the first n records of a buffer are those of its front
pub records_front : (s : List ℕ) (n : ℕ) → 16 * n ≤ length s → (length (take (16 * n) s) / 16 ≡ n) × (diagnostics_in (take (16 * n) s) n ≡ diagnostics_in s n)
unfolding diagnostics_in
records_front s n h =
    let size = length-take-le (16 * n) s h in
    let d = diagnostic_in s 0 in
    let front = take (16 * n) s in
    let count = length_tabulate (diagnostic_in front) n in (
      omega (arith, size),
      ext_get_or d (tabulate n (diagnostic_in front)) (tabulate n (diagnostic_in s)) (count ∙ sym (length_tabulate (diagnostic_in s) n))
          (λ i l. get_d_tabulate (diagnostic_in front) n i d (omega (arith, count)) ∙ record_part s 0 (16 * n) i (omega (arith, count)) ∙ ap (diagnostic_in s) (zero-add i) ∙ sym (get_d_tabulate (diagnostic_in s) n i d (omega (arith, count)))),
    )
