-- The part of the words that the prototype of one row has. Assumes nothing.
use Rattle.std.proofs.Common.{◌≡◌, ℕ, ◌+◌, ◌-◌, ◌*◌, ◌≤◌, List, length, take, drop, ap, ◌∙◌, arith, length-drop, length-take-le, take-take}
use Rattle.base.specs.Bytes.{u32s}
use Rattle.base.proofs.PartLaws.{u32s_part}
use Rattle.roles_spec.specs.Table.{row_at, proto_of, proto_in}

-- the words from word `first` up to word `next`
abbrev pub part : List ℕ → ℕ → ℕ → List ℕ
part words first next = take (4 * next - 4 * first) (drop (4 * first) words)

module _ (table words : List ℕ) (row first next : ℕ) (stated : first + (row_at table row).words ≡ next) (there : 4 * next ≤ length words) where
  pub part_length : length (part words first next) ≡ 4 * (row_at table row).words
  part_length = length-take-le (4 * next - 4 * first) (drop (4 * first) words) (omega (arith, length-drop (4 * first) words)) ∙ omega arith

  pub part_proto : proto_in table row (u32s (part words first next)) ≡ proto_in table row (drop first (u32s words))
  unfolding proto_in proto_of
  part_proto =
      let n = (row_at table row).words in
      let size : 4 * next - 4 * first ≡ 4 * n = omega arith in
      let same : take n (u32s (part words first next)) ≡ take n (drop first (u32s words)) =
      ap (λ (k : ℕ). take n (u32s (take k (drop (4 * first) words)))) size
      ∙ ap (take n) (u32s_part words first n (omega arith))
      ∙ take-take n n (drop first (u32s words)) (omega arith) in
      rw same
