-- A part of a list of bytes: reading it, and pasting it back once it was written to. Assumes nothing.
use Prim.Native.Nat.{ℕ, ◌+◌, ◌*◌, ◌≤◌, ◌<◌}
use native.Mathlib.Nat.{add_assoc, add-zero}
use native.Mathlib.Omega.{arith}
use mathlib.Core.Path.{◌≡◌, sym, ◌∙◌, ap, ap₂}
use mathlib.Core.List.{List, ◌++◌, append_assoc}
use lib.ListN.{length, get_or, take, drop, length-append, length-drop, take-append-drop}
use lib.Seq.{length-take-le, take-append-add, take-append-le, take_at, drop-append-add, drop-append-le, drop-drop, get_or-take, get_or-drop, ext_get_or}
use Rattle.base.specs.Bytes.{u32_from, u32s, overwrite}
use Rattle.base.proofs.ByteLaws.{length_u32s, get_d_u32s, overwrite_fits}

-- ---- reading

pub u32_from_part : (s : List ℕ) (a k i : ℕ) → i + 4 ≤ k → u32_from (take k (drop a s)) i ≡ u32_from s (a + i)
unfolding u32_from
u32_from_part s a k i h =
    let byte : (j : ℕ) → i + j < k → get_or (take k (drop a s)) (i + j) 0 ≡ get_or s (a + i + j) 0 = λ j l. get_or-take k (drop a s) (i + j) 0 l ∙ get_or-drop a s (i + j) 0 ∙ ap (λ (n : ℕ). get_or s n 0) (sym (add_assoc a i j)) in
    let first : get_or (take k (drop a s)) i 0 ≡ get_or s (a + i) 0 = get_or-take k (drop a s) i 0 (omega arith) ∙ get_or-drop a s i 0 in
    rw (first, byte 1 (omega arith), byte 2 (omega arith), byte 3 (omega arith))

-- n u32 from index a on
pub u32s_part : (s : List ℕ) (a n : ℕ) → 4 * (a + n) ≤ length s → u32s (take (4 * n) (drop (4 * a) s)) ≡ take n (drop a (u32s s))
u32s_part s a n h =
    let part = take (4 * n) (drop (4 * a) s) in
    let bytes : length part ≡ 4 * n = length-take-le (4 * n) (drop (4 * a) s) (omega (arith, length-drop (4 * a) s)) in
    let whole : length (take n (drop a (u32s s))) ≡ n = length-take-le n (drop a (u32s s)) (omega (arith, length-drop a (u32s s), length_u32s s)) in
    ext_get_or 0 (u32s part) (take n (drop a (u32s s))) (omega (arith, length_u32s part))
    (λ i l.
    let below : i < n = omega (arith, length_u32s part) in
    let place : 4 * a + 4 * i ≡ 4 * (a + i) = omega arith in
    get_d_u32s part i (omega (arith, length_u32s part))
    ∙ u32_from_part s (4 * a) (4 * n) (4 * i) (omega arith)
    ∙ ap (u32_from s) place
    ∙ sym (get_or-take n (drop a (u32s s)) i 0 below ∙ get_or-drop a (u32s s) i 0 ∙ get_d_u32s s (a + i) (omega arith)))

-- ---- writing

-- what is written to a part of a list stands in the whole list, counted from where the part begins
module _ (front part rest : List ℕ) (i : ℕ) (new : List ℕ) (fits : i + length new ≤ length part) where
  whole_length : length (front ++ (part ++ rest)) ≡ length front + (length part + length rest)
  whole_length = length-append front (part ++ rest) ∙ ap (λ (n : ℕ). length front + n) (length-append part rest)

  pub paste_part : front ++ (overwrite part i new ++ rest) ≡ overwrite (front ++ (part ++ rest)) (length front + i) new
  paste_part =
      let n = length new in
      let whole = front ++ (part ++ rest) in
      let before : take (length front + i) whole ≡ front ++ take i part = take-append-add front (part ++ rest) i ∙ ap (λ (l : List ℕ). front ++ l) (take-append-le i part rest (omega arith)) in
      let after : drop (length front + i + n) whole ≡ drop (i + n) part ++ rest =
      ap (λ (k : ℕ). drop k whole) (add_assoc (length front) i n) ∙ drop-append-add front (part ++ rest) (i + n) ∙ drop-append-le (i + n) part rest fits in
      ap (λ (l : List ℕ). front ++ (l ++ rest)) (overwrite_fits part i new fits)
      ∙ ap (λ (l : List ℕ). front ++ l) (append_assoc (take i part ++ new) (drop (i + n) part) rest)
      ∙ sym (append_assoc front (take i part ++ new) (drop (i + n) part ++ rest))
      ∙ ap (λ (l : List ℕ). l ++ (drop (i + n) part ++ rest)) (sym (append_assoc front (take i part) new))
      ∙ ap₂ (λ (l r : List ℕ). l ++ new ++ r) (sym before) (sym after)
      ∙ sym (overwrite_fits whole (length front + i) new (omega (arith, whole_length)))

-- a list put together from a part and what lies around it
pub by_part : (xs : List ℕ) (a k : ℕ) → take a xs ++ (take k (drop a xs) ++ drop k (drop a xs)) ≡ xs
by_part xs a k = ap (λ (l : List ℕ). take a xs ++ l) (take-append-drop k (drop a xs)) ∙ take-append-drop a xs

module _ (xs : List ℕ) (a k i : ℕ) (new : List ℕ) (fits : i + length new ≤ k) (inside : a + k ≤ length xs) where
  pub paste : take a xs ++ (overwrite (take k (drop a xs)) i new ++ drop k (drop a xs)) ≡ overwrite xs (a + i) new
  paste =
      let part : length (take k (drop a xs)) ≡ k = length-take-le k (drop a xs) (omega (arith, length-drop a xs)) in
      let front : length (take a xs) ≡ a = length-take-le a xs (omega arith) in
      paste_part (take a xs) (take k (drop a xs)) (drop k (drop a xs)) i new (omega arith)
      ∙ ap₂ (λ (l : List ℕ) (n : ℕ). overwrite l (n + i) new) (by_part xs a k) front

-- a list's next part, from a on, and what is left after it
pub record NextPart (s part rest : List ℕ) (a k : ℕ) : Type 0 where
  pub within : a + k ≤ length s
  pub part_is : part ≡ take k (drop a s)
  pub rest_is : rest ≡ drop (a + k) s

pub next_part : (s part rest : List ℕ) (a k : ℕ) → a ≤ length s → drop a s ≡ part ++ rest → length part ≡ k → NextPart s part rest a k
next_part s part rest a k h e size =
    record {
      within = omega (arith, length-drop a s, ap length e, length-append part rest);
      part_is = sym (take_at part rest k size) ∙ ap (take k) (sym e);
      rest_is = sym (drop-append-add part rest 0) ∙ ap (λ (n : ℕ). drop n (part ++ rest)) (add-zero (length part) ∙ size) ∙ ap (drop k) (sym e) ∙ drop-drop k a s;
    }
