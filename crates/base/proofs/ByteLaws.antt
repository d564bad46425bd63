-- Laws of numbers in bytes and of overwritten buffers. Assumes nothing.
use Prim.Native.Nat.{ℕ, zero, suc, ◌+◌, ◌*◌, ◌/◌, ◌%◌, ◌≤◌, ◌<◌, ◌^◌}
use native.Mathlib.Nat.{add-zero, zero-add, add_assoc, div-div-eq-div-mul, mod-eq_of_lt, not-suc-le-zero, le_of_suc-le-suc}
use native.Mathlib.Numerals.{add-one}
use native.Mathlib.Omega.{arith}
use mathlib.Core.Path.{◌≡◌, refl, sym, ap, ap₂, ◌∙◌}
use mathlib.Core.Bool.{Bool, true, false, cond}
use mathlib.Core.List.{List, [], ◌∷◌, ◌++◌, append_assoc, append-nil, flat_map, map, map-append}
use borrow.Rule.Slice.PartMut.{put_mid, post_of}
use borrow.Author.Tests.{le-leb, lt-leb, leb-true, leb-false}
use lib.Dec.{leb}
use lib.ListN.{length, get_or, get_or-eq_default, take, drop, drop_of_length-le, length-append, length-map, length-take, length-drop, take-append-drop}
use lib.IntN.{ℤ}
use lib.Seq.{sets, sets-eq, take_at, drop-drop, drop-append-add, get_or-append-add, length-take-le, take-suc, ext_get_or}
use Rattle.base.specs.Lists.{All, all_cons}
use Rattle.base.specs.Bytes.{overwrite, u32_from, u32_bytes, u32_record, u32s, i32_bits, i32_record}
use Rattle.base.proofs.ListLaws.{get_d_tabulate, length_tabulate, flat_map_append}

-- ---- the u32 of a byte list

pub length_u32s : (s : List ℕ) → length (u32s s) ≡ length s / 4
unfolding u32s
length_u32s s = length_tabulate _ (length s / 4)

pub get_d_u32s : (s : List ℕ) (k : ℕ) → k < length s / 4 → get_or (u32s s) k 0 ≡ u32_from s (4 * k)
unfolding u32s
get_d_u32s s k h = get_d_tabulate (λ i. u32_from s (4 * i)) (length s / 4) k 0 h

pub u32_past_end : (s : List ℕ) (k : ℕ) → length s / 4 ≤ k → get_or (u32s s) k 0 ≡ 0
u32_past_end s k h = get_or-eq_default (u32s s) 0 (omega (arith, length_u32s s))

-- bytes past the end count as 0
pub u32_from_past_end : (s : List ℕ) (at : ℕ) → length s ≤ at → u32_from s at ≡ 0
unfolding u32_from
u32_from_past_end s at h =
    let byte : (k : ℕ) → get_or s (at + k) 0 ≡ 0 = λ k. get_or-eq_default s 0 (omega arith) in
    rw (get_or-eq_default s 0 h, byte 1, byte 2, byte 3)

-- ---- lengths

pub length_u32_bytes : (n : ℕ) → length (u32_bytes n) ≡ 4
unfolding u32_bytes
length_u32_bytes n = refl

pub length_u32_record : (ns : List ℕ) → length (u32_record ns) ≡ 4 * length ns
unfolding u32_record flat_map
length_u32_record [] = refl
length_u32_record (n ∷ ns) = length-append (u32_bytes n) (flat_map u32_bytes ns) ∙ omega (arith, length_u32_bytes n, length_u32_record ns)

pub length_i32_record : (zs : List ℤ) → length (i32_record zs) ≡ 4 * length zs
unfolding i32_record
length_i32_record zs = length_u32_record (map i32_bits zs) ∙ ap (λ (n : ℕ). 4 * n) (length-map zs i32_bits)

-- ---- overwriting

-- a write that fits, and one that does not
pub overwrite_fits : (old : List ℕ) (at : ℕ) (new : List ℕ) → at + length new ≤ length old → overwrite old at new ≡ take at old ++ new ++ drop (at + length new) old
unfolding overwrite
overwrite_fits old at new h = simp (le-leb _ _ h)

pub overwrite_unfit : (old : List ℕ) (at : ℕ) (new : List ℕ) → length old < at + length new → overwrite old at new ≡ old
unfolding overwrite
overwrite_unfit old at new h = simp (lt-leb _ _ h)

-- a write to the front of a buffer
pub overwrite_front : (old new : List ℕ) → length new ≤ length old → overwrite old 0 new ≡ new ++ drop (length new) old
overwrite_front old new h = overwrite_fits old 0 new (omega arith) ∙ ap (λ (n : ℕ). new ++ drop n old) (zero-add (length new))

-- a write to all of a buffer
pub overwrite_whole : (old new : List ℕ) → length new ≡ length old → overwrite old 0 new ≡ new
overwrite_whole old new h = overwrite_front old new (omega arith) ∙ ap (λ (l : List ℕ). new ++ l) (drop_of_length-le old {i = length new} (omega arith)) ∙ append-nil new

-- stores one after the other are one write
pub sets_overwrite : (old : List ℕ) (at : ℕ) (new : List ℕ) → at + length new ≤ length old → sets old at new ≡ overwrite old at new
sets_overwrite old at new h = sets-eq new old at h ∙ sym (overwrite_fits old at new h)

-- bytes copied into a part of a buffer are a write
pub put_overwrite : (old new copied : List ℕ) (at k : ℕ) → copied ≡ new → k ≡ length new → at + k ≤ length old → put_mid at k old copied ≡ overwrite old at new
put_overwrite old new copied at k e n h =
    ap₂ (λ (l : List ℕ) (m : ℕ). take at old ++ (l ++ post_of at m old)) e n
    ∙ ap (λ (l : List ℕ). take at old ++ (new ++ l)) (drop-drop (length new) at old)
    ∙ sym (append_assoc (take at old) new (drop (at + length new) old))
    ∙ sym (overwrite_fits old at new (omega arith))

pub length_overwrite : (old : List ℕ) (at : ℕ) (new : List ℕ) → length (overwrite old at new) ≡ length old
unfolding overwrite
length_overwrite old at new = go (leb (at + length new) (length old)) refl
  where
    go : (b : Bool) → leb (at + length new) (length old) ≡ b → length (cond b (take at old ++ new ++ drop (at + length new) old) old) ≡ length old
    go true e =
        let h = leb-true (at + length new) (length old) e in
        simp (length-append, length-take, length-drop) (omega arith)
    go false e = refl

-- nothing written
pub overwrite_none : (old : List ℕ) (at : ℕ) → overwrite old at [] ≡ old
unfolding overwrite
overwrite_none old at = go (leb (at + 0) (length old))
  where
    go : (b : Bool) → cond b (take at old ++ [] ++ drop (at + 0) old) old ≡ old
    go true = simp (append-nil, add-zero) (take-append-drop at old)
    go false = refl

-- a write right after a write is one write of both
module _ (old : List ℕ) (at : ℕ) (new more : List ℕ) (fits : at + length new + length more ≤ length old) where
  front_length : length (take at old ++ new) ≡ at + length new
  front_length = length-append (take at old) new ∙ ap (λ (n : ℕ). n + length new) (length-take-le at old (omega arith))

  tail_kept : drop (at + length new + length more) (take at old ++ new ++ drop (at + length new) old) ≡ drop (at + length new + length more) old
  tail_kept =
      ap (λ (n : ℕ). drop (n + length more) (take at old ++ new ++ drop (at + length new) old)) (sym front_length)
      ∙ drop-append-add (take at old ++ new) (drop (at + length new) old) (length more)
      ∙ drop-drop (length more) (at + length new) old

  next_pieces : take (at + length new) (take at old ++ new ++ drop (at + length new) old) ++ more ++ drop (at + length new + length more) (take at old ++ new ++ drop (at + length new) old) ≡ take at old ++ (new ++ more) ++ drop (at + length (new ++ more)) old
  next_pieces =
      rw (take_at (take at old ++ new) (drop (at + length new) old) (at + length new) front_length, tail_kept, append_assoc (take at old) new more, length-append new more, ← add_assoc)

  pub overwrite_next : overwrite (overwrite old at new) (at + length new) more ≡ overwrite old at (new ++ more)
  overwrite_next =
      ap (λ (l : List ℕ). overwrite l (at + length new) more) (overwrite_fits old at new (omega arith))
      ∙ overwrite_fits (take at old ++ new ++ drop (at + length new) old) (at + length new) more (simp (length-append, length-take, length-drop) (omega arith))
      ∙ next_pieces
      ∙ sym (overwrite_fits old at (new ++ more) (omega (arith, length-append new more)))

-- ---- a record, value by value

pub u32_record_append : (ms ns : List ℕ) → u32_record (ms ++ ns) ≡ u32_record ms ++ u32_record ns
unfolding u32_record
u32_record_append ms ns = flat_map_append u32_bytes ms ns

-- records of values, one value after the other, where f has the fields of one
module _ {A : Type 0} (f : A → List ℤ) where
  pub i32_record_append : (xs ys : List A) → i32_record (flat_map f (xs ++ ys)) ≡ i32_record (flat_map f xs) ++ i32_record (flat_map f ys)
  unfolding i32_record
  i32_record_append xs ys =
      ap (λ l. u32_record (map i32_bits l)) (flat_map_append f xs ys)
      ∙ ap u32_record (map-append i32_bits (flat_map f xs) (flat_map f ys))
      ∙ u32_record_append (map i32_bits (flat_map f xs)) (map i32_bits (flat_map f ys))

  -- a buffer with some records, and more written right after them
  pub i32_record_next : (old m new : List ℕ) (at to : ℕ) (xs ys : List A) → to ≡ at + length (i32_record (flat_map f xs)) → at + length (i32_record (flat_map f xs)) + length (i32_record (flat_map f ys)) ≤ length old
      → m ≡ overwrite old at (i32_record (flat_map f xs)) → new ≡ overwrite m to (i32_record (flat_map f ys)) → new ≡ overwrite old at (i32_record (flat_map f (xs ++ ys)))
  i32_record_next old m new at to xs ys start room e d =
      d
      ∙ ap₂ (λ (l : List ℕ) (n : ℕ). overwrite l n (i32_record (flat_map f ys))) e start
      ∙ overwrite_next old at (i32_record (flat_map f xs)) (i32_record (flat_map f ys)) room
      ∙ ap (overwrite old at) (sym (i32_record_append xs ys))

u32_record_snoc : (ns : List ℕ) (n : ℕ) → u32_record (ns ++ (n ∷ [])) ≡ u32_record ns ++ u32_bytes n
unfolding u32_record flat_map
u32_record_snoc ns n = u32_record_append ns (n ∷ []) ∙ ap (λ (l : List ℕ). u32_record ns ++ l) (append-nil (u32_bytes n))

pub record_one : (n : ℕ) → u32_record (n ∷ []) ≡ u32_bytes n
unfolding u32_record flat_map
record_one n = append-nil (u32_bytes n)

pub record_none : (old : List ℕ) (at : ℕ) → overwrite old at (u32_record []) ≡ old
unfolding u32_record flat_map
record_none old at = overwrite_none old at

-- the buffer with the first i values, and value i written after them, has the first i + 1
pub record_next : (old m m' : List ℕ) (at i : ℕ) (ns : List ℕ) → i < length ns → at + 4 * length ns ≤ length old → m ≡ overwrite old at (u32_record (take i ns)) → m' ≡ overwrite m (at + 4 * i) (u32_bytes (get_or ns i 0)) → m' ≡ overwrite old at (u32_record (take (i + 1) ns))
record_next old m m' at i ns h fits e d =
    let k : length (u32_record (take i ns)) ≡ 4 * i = length_u32_record (take i ns) ∙ ap (λ (n : ℕ). 4 * n) (length-take-le i ns (omega arith)) in
    let s : u32_record (take (i + 1) ns) ≡ u32_record (take i ns) ++ u32_bytes (get_or ns i 0) =
    rw (add-one, take-suc ns i 0) (u32_record_snoc (take i ns) (get_or ns i 0)) in
    d
    ∙ rw (e, ← k, s) (overwrite_next old at (u32_record (take i ns)) (u32_bytes (get_or ns i 0)) (omega (arith, length_u32_bytes (get_or ns i 0))))

-- ---- what was written is read back

-- `omega` relates no two quotients of a number, so each step from one byte to the next is stated
byte_step : (n m : ℕ) → n / 256 ≡ m → n % 256 + m * 256 ≡ n
byte_step n m e = omega arith

u32_from_front : (n : ℕ) (rest : List ℕ) → n < 2 ^ 32 → u32_from (u32_bytes n ++ rest) 0 ≡ n
unfolding u32_from u32_bytes
u32_from_front n rest h =
    let a = byte_step n (n / 256) refl in
    let b = byte_step (n / 256) (n / 65536) (div-div-eq-div-mul n 256 256) in
    let c = byte_step (n / 65536) (n / 16777216) (div-div-eq-div-mul n 65536 256) in
    let d : n / 16777216 % 256 ≡ n / 16777216 = mod-eq_of_lt (omega arith) in
    omega arith

u32_from_append : (xs ys : List ℕ) (at : ℕ) → u32_from (xs ++ ys) (length xs + at) ≡ u32_from ys at
unfolding u32_from
u32_from_append xs ys at = simp (add_assoc, get_or-append-add)

-- value k of a record that was written
u32_from_values : (ns rest : List ℕ) (k : ℕ) → All (λ n. n < 2 ^ 32) ns → k < length ns → u32_from (u32_record ns ++ rest) (4 * k) ≡ get_or ns k 0
unfolding u32_record flat_map
u32_from_values [] rest k b h = absurd (not-suc-le-zero h)
u32_from_values (n ∷ ns) rest zero (all_cons b bs) h = rw append_assoc (u32_from_front n _ b)
u32_from_values (n ∷ ns) rest (suc k) (all_cons b bs) h =
    let e : 4 * suc k ≡ length (u32_bytes n) + 4 * k = omega (arith, length_u32_bytes n) in
    ap₂ u32_from (append_assoc (u32_bytes n) (flat_map u32_bytes ns) rest) e ∙ u32_from_append (u32_bytes n) (u32_record ns ++ rest) (4 * k) ∙ u32_from_values ns rest k bs (le_of_suc-le-suc h)

pub u32_from_record : (old : List ℕ) (at : ℕ) (ns : List ℕ) (k : ℕ) → All (λ n. n < 2 ^ 32) ns → k < length ns → at + 4 * length ns ≤ length old
    → u32_from (overwrite old at (u32_record ns)) (at + 4 * k) ≡ get_or ns k 0
u32_from_record old at ns k b h fits =
    let front = take at old in
    let rest = drop (at + length (u32_record ns)) old in
    let e : at + 4 * k ≡ length front + 4 * k = omega (arith, length-take-le at old (omega arith)) in
    ap₂ u32_from (overwrite_fits old at (u32_record ns) (omega (arith, length_u32_record ns)) ∙ append_assoc front (u32_record ns) rest) e
    ∙ u32_from_append front (u32_record ns ++ rest) (4 * k)
    ∙ u32_from_values ns rest k b h

-- the u32 of a record are its values
pub u32s_record : (ns : List ℕ) → All (λ n. n < 2 ^ 32) ns → u32s (u32_record ns) ≡ ns
u32s_record ns b =
    let count : length (u32_record ns) / 4 ≡ length ns = omega (arith, length_u32_record ns) in
    ext_get_or 0 (u32s (u32_record ns)) ns (length_u32s (u32_record ns) ∙ count)
    (λ k h.
    let there : k < length (u32_record ns) / 4 = omega (arith, length_u32s (u32_record ns)) in
    get_d_u32s (u32_record ns) k there ∙ ap (λ (l : List ℕ). u32_from l (4 * k)) (sym (append-nil (u32_record ns))) ∙ u32_from_values ns [] k b (omega arith))

-- ---- the test before a write

-- where the test fails, nothing is written
pub no_room : (old : List ℕ) (at count : ℕ) (new : List ℕ) (r : Bool) → length new ≡ 4 * count → r ≡ leb (at + 4 * count) (length old) → r ≡ false → old ≡ overwrite old at new
no_room old at count new r k e f =
    let h = leb-false (at + 4 * count) (length old) (sym e ∙ f) in
    sym (overwrite_unfit old at new (omega arith))
