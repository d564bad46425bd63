-- The roles of all prototypes, one after the other: what was written, and what is left, after each row. Assumes nothing.
use Rattle.std.proofs.Common.{◌≡◌, ℕ, suc, ◌+◌, ◌-◌, ◌*◌, ◌/◌, ◌<◌, ◌≤◌, List, [], ◌∷◌, ◌++◌, length, take, drop, sym, refl, ap, ◌∙◌, ap₂, append-nil, add-zero, add-one, arith, length-take, take_all}
use mathlib.Core.List.{flat_map}
use mathlib.Core.Option.{Option, none}
use Rattle.base.specs.Bytes.{u32s, overwrite}
use Rattle.roles_spec.specs.Table.{Row, row_bytes, field_at, row_at, rows, Proto, proto_of, protos_of, protos, proto_in}
use Rattle.roles_spec.specs.Roles.{Role, roles, role_bytes, records_of}
use Rattle.roles_spec.specs.Refusals.{Refused, word_total, roles_refusal, max_word_bytes, max_rows}
use Rattle.roles_spec.specs.Calls.{filled, roles_after}
use Rattle.base.proofs.ListLaws.{flat_map_append}
use Rattle.base.proofs.ByteLaws.{length_u32s, length_overwrite}
use Rattle.base.proofs.PartLaws.{paste}
use Rattle.roles_spec.proofs.TableLaws.{length_rows, drop_rows, length_protos_of}
use Rattle.roles_spec.proofs.TotalLaws.{words_front, words_next, protos_drop}
use Rattle.roles_spec.proofs.RefusalLaws.{ImageKept, roles_kept}
use Rattle.roles_spec.proofs.RoleBufferLaws.{length_roles, words_before, words_before_total}
use Rattle.roles_spec.proofs.RowPartLaws.{part, part_proto}
use Rattle.roles_spec.proofs.RoleRecordLaws.{length_records, records_none, records_next}
use Rattle.roles.proofs.RolePassLaws.{take_front}

-- a prototype has no more roles than its row states words
roles_most : (table : List ℕ) (row : ℕ) (ws : List ℕ) → length (roles (proto_in table row ws)) ≤ (row_at table row).words
unfolding proto_in proto_of
roles_most table row ws = omega (arith, length_roles (proto_in table row ws), length-take (row_at table row).words ws)

-- ---- the part of one row

module _ (table words : List ℕ) (row first next : ℕ) (stated : first + (row_at table row).words ≡ next) (there : 4 * next ≤ length words) where
  -- the roles written to its part of a buffer
  pub part_written : (out part' : List ℕ) → role_bytes * next ≤ length out
      → part' ≡ overwrite (take (role_bytes * next - role_bytes * first) (drop (role_bytes * first) out)) 0 (records_of (roles (proto_in table row (u32s (part words first next)))))
      → take (role_bytes * first) out ++ (part' ++ drop (role_bytes * next - role_bytes * first) (drop (role_bytes * first) out)) ≡ overwrite out (role_bytes * first) (records_of (roles (proto_in table row (drop first (u32s words)))))
  part_written out part' room e =
      let new = records_of (roles (proto_in table row (u32s (part words first next)))) in
      let size : length new ≤ role_bytes * next - role_bytes * first = omega (arith, length_records (roles (proto_in table row (u32s (part words first next)))), roles_most table row (u32s (part words first next))) in
      ap (λ (l : List ℕ). take (role_bytes * first) out ++ (l ++ drop (role_bytes * next - role_bytes * first) (drop (role_bytes * first) out))) e
      ∙ paste out (role_bytes * first) (role_bytes * next - role_bytes * first) 0 new (omega arith) (omega arith)
      ∙ ap₂ (λ (n : ℕ) (p : Proto). overwrite out n (records_of (roles p))) (add-zero (role_bytes * first)) (part_proto table words row first next stated there)

-- ---- row by row

pub record RoleFill (table words old out : List ℕ) (row first : ℕ) : Type 0 where
  pub within : row ≤ length table / row_bytes
  pub long : length out ≡ length old
  pub before : first ≡ word_total (take row (rows table))
  pub written : out ≡ overwrite old 0 (records_of (flat_map roles (take row (protos table words))))

module _ (table words old : List ℕ) (accepted : roles_refusal table words (length old) ≡ none) where
  kept : ImageKept table words
  kept = (roles_kept table words (length old) accepted).image

  enough : role_bytes * word_total (rows table) ≤ length old
  enough = (roles_kept table words (length old) accepted).fits

  pub fill_begins : RoleFill table words old old 0 0
  unfolding word_total flat_map
  fill_begins = record { within = omega arith; long = refl; before = refl; written = records_none old 0 }

  module _ (out : List ℕ) (row first : ℕ) (v : RoleFill table words old out row first) where
    pub fill_ends : length table / row_bytes ≤ row → out ≡ roles_after table words old
    unfolding roles_after filled protos
    fill_ends h =
        let ps = protos_of (rows table) (u32s words) in
        v.written
        ∙ ap (λ (l : List Proto). overwrite old 0 (records_of (flat_map roles l))) (take_all row ps (omega (arith, length_protos_of (rows table) (u32s words), length_rows table)))
        ∙ sym (ap (λ (o : Option Refused). filled o old (records_of (flat_map roles ps))) accepted)

    module _ (there : row < length table / row_bytes) (n : ℕ) (stated : n ≡ field_at table row 1) where
      pub row_words : (row_at table row).words ≡ n
      unfolding row_at
      row_words = sym stated

      -- the row's words and its part of the buffer are there
      next : first + n ≡ word_total (take (suc row) (rows table))
      next = omega (arith, words_next table row there, row_words, v.before)

      pub rows_there : (row_bytes * row + row_bytes ≤ length table) × (length table / row_bytes ≤ max_rows)
      rows_there = (omega arith, omega (arith, kept.row_limit, length_rows table))

      pub words_there : (4 * (first + n) ≤ max_word_bytes) × (4 * (first + n) ≤ length words) × (role_bytes * (first + n) ≤ length out)
      words_there = (
        omega (arith, next, words_front (rows table) (suc row), kept.word_count, kept.word_limit),
        omega (arith, next, words_front (rows table) (suc row), kept.word_count),
        omega (arith, next, words_front (rows table) (suc row), enough, v.long),
      )

      pub fill_next : (new : List ℕ) → new ≡ overwrite out (role_bytes * first) (records_of (roles (proto_in table row (drop first (u32s words))))) → RoleFill table words old new (row + 1) (first + n)
      unfolding protos protos_of proto_in words_before flat_map
      fill_next new e =
          let ps = protos_of (rows table) (u32s words) in
          let p = proto_in table row (drop first (u32s words)) in
          let rs = flat_map roles (take row ps) in
          let words_left = drop (word_total (take row (rows table))) (u32s words) in
          let front : drop row ps ≡ (p ∷ []) ++ protos_of (drop (suc row) (rows table)) (drop (row_at table row).words words_left) =
          protos_drop (rows table) (u32s words) row
          ∙ ap (λ (l : List Row). protos_of l words_left) (drop_rows table row there)
          ∙ ap (λ (k : ℕ). proto_in table row (drop k (u32s words)) ∷ protos_of (drop (suc row) (rows table)) (drop (row_at table row).words words_left)) (sym v.before) in
          let one : take (row + 1) ps ≡ take row ps ++ (p ∷ []) = take_front ps row (p ∷ []) _ front in
          let more : flat_map roles (take (row + 1) ps) ≡ rs ++ roles p = ap (flat_map roles) one ∙ flat_map_append roles (take row ps) (p ∷ []) ∙ ap (λ (l : List Role). rs ++ l) (append-nil (roles p)) in
          let here : length rs ≡ first = words_before_total (rows table) (u32s words) row (omega (arith, length_u32s words, kept.word_count)) ∙ sym v.before in
          let bounds = words_there in
          let few : length (roles p) ≤ n = omega (arith, roles_most table row (drop first (u32s words)), row_words) in
          let written : new ≡ overwrite old 0 (records_of (rs ++ roles p)) =
          records_next old out new 0 (role_bytes * first) rs (roles p) (omega arith) (omega (arith, bounds.2, v.long)) v.written e in
          record {
            within = omega arith;
            long = ap length written ∙ length_overwrite old 0 _;
            before = next ∙ ap (λ (k : ℕ). word_total (take k (rows table))) (sym (add-one row));
            written = written ∙ ap (λ (l : List Role). overwrite old 0 (records_of l)) (sym more);
          }
