-- The digest of one word more. Assumes nothing.
use Rattle.std.proofs.Common.{◌≡◌, ℕ, ◌+◌, ◌*◌, ◌/◌, ◌%◌, ◌^◌, ◌<◌, ◌≤◌, ◌∙◌, List, ◌++◌, length, take, drop, add-one, add-zero, arith, ap, take-suc}
use mathlib.Core.List.{foldl-append}
use Rattle.base.specs.Bytes.{u32_from, u32s}
use Rattle.opcodes.specs.Words.{decoded}
use Rattle.base.proofs.ByteLaws.{get_d_u32s, length_u32s}
use Rattle.base.proofs.PartLaws.{next_part, u32_from_part}
use Rattle.words_digest.specs.Digest.{digest, weight}

pub digest_next : (s : List ℕ) (i : ℕ) → i < length s / 4 → digest (take (i + 1) (u32s s)) ≡ (digest (take i (u32s s)) + weight (decoded (u32_from s (4 * i)))) % 2 ^ 64
unfolding digest
digest_next s i h =
    let below : i < length (u32s s) = omega (arith, length_u32s s) in
    rw (add-one, take-suc (u32s s) i 0, foldl-append, get_d_u32s s i h)

-- four bytes off the front of what is left after i words: they are word i, and the bytes after i + 1 words are left
pub record Cut (s word rest : List ℕ) (i : ℕ) : Type 0 where
  pub within : 4 * (i + 1) ≤ length s
  pub left : rest ≡ drop (4 * (i + 1)) s
  pub value : u32_from word 0 ≡ u32_from s (4 * i)

pub cut : (s word rest : List ℕ) (i : ℕ) → 4 * i ≤ length s → drop (4 * i) s ≡ word ++ rest → length word ≡ 4 → Cut s word rest i
cut s word rest i h e four =
    let taken = next_part s word rest (4 * i) 4 h e four in
    let after : 4 * i + 4 ≡ 4 * (i + 1) = omega arith in
    record {
      within = omega (arith, taken.within);
      left = taken.rest_is ∙ ap (λ (n : ℕ). drop n s) after;
      value = ap (λ (l : List ℕ). u32_from l 0) taken.part_is ∙ u32_from_part s (4 * i) 4 0 (omega arith) ∙ ap (u32_from s) (add-zero (4 * i));
    }
