-- What a walk that is ready for its next row knows: that the row's words and roles are there, and what they are. Assumes nothing.
use Rattle.std.proofs.Common.{◌≡◌, ℕ, suc, ◌+◌, ◌-◌, ◌*◌, ◌/◌, ◌<◌, ◌≤◌, List, length, take, drop, sym, ap, ◌∙◌, ap₂, arith, length-take-le, take_all}
use mathlib.Core.Path.{subst⁻¹}
use mathlib.Core.List.{foldl}
use lib.ListN.{length-map}
use Rattle.base.specs.Bytes.{u32s}
use Rattle.base.proofs.ByteLaws.{length_u32s}
use Rattle.roles_spec.specs.Refusals.{max_rows, word_total}
use Rattle.roles_spec.specs.Roles.{role_at, role_bytes, role_in}
use Rattle.roles_spec.specs.Table.{Row, Proto, row_bytes, row_at, rows, children, proto_of, proto_in}
use Rattle.roles.specs.Bounds.{FewWords, ReachWord}
use Rattle.roles_spec.proofs.RowPartLaws.{part_length, part_proto}
use Rattle.roles_spec.proofs.RefusalLaws.{ImageKept, image_kept}
use Rattle.roles_spec.proofs.TableLaws.{length_rows}
use Rattle.roles_spec.proofs.TotalLaws.{words_front, words_next}
use Rattle.validator_spec.specs.Diagnostics.{proto_steps}
use Rattle.validator.specs.Terms.{Describes, Ordered, row_limits}
use Rattle.validator.specs.Steps.{State, Begins, Filled, take_step, own_steps}
use Rattle.validator.specs.declared.rows.RowLimits.{RowLimits}
use Rattle.validator.specs.declared.state.WalkState.{WalkState}

pub record Ready (table words roles : List ℕ) (w : WalkState) : Type 0 where
  pub filled : Filled table words roles
  pub begins : Begins table w

pub ready : (table words roles : List ℕ) (w : WalkState) → Filled table words roles → Begins table w → Ready table words roles w
ready table words roles w f b = record { filled = f; begins = b }

pub few_rows : (table words roles : List ℕ) → Filled table words roles → length table / row_bytes ≤ max_rows
few_rows table words roles f = omega (arith, (image_kept table words f.accepted).row_limit, length_rows table)

pub in_order : (table words roles : List ℕ) → Filled table words roles → Ordered table
in_order table words roles f = record { depths = (image_kept table words f.accepted).depths; few = few_rows table words roles f }

module _ (table words roles : List ℕ) (w : WalkState) (r : Ready table words roles w) (there : w.row < length table / row_bytes) (q : RowLimits) (e : q ≡ row_limits table w.row) where
  -- the row's words end where the next row's begin
  abbrev next : ℕ
  next = w.first + q.words

  stated : w.first + (row_at table w.row).words ≡ next
  unfolding row_limits
  stated = ap (λ (x : RowLimits). w.first + x.words) (sym e)

  pub row_of : q.row ≡ w.row
  unfolding row_limits
  row_of = ap (λ (x : RowLimits). x.row) e

  -- the row's words and their roles are there
  pub room : ReachWord next words roles × FewWords words
  room =
      let kept : ImageKept table words = image_kept table words r.filled.accepted in
      let total : next ≤ word_total (rows table) = omega (arith, words_next table w.row there, words_front (rows table) (suc w.row), r.begins, stated) in
      ((omega (arith, kept.word_count), omega (arith, r.filled.fits)), kept.word_limit)

  -- the parts of the words and of the roles that belong to the row
  abbrev word_part : List ℕ
  word_part = take (4 * next - 4 * w.first) (drop (4 * w.first) words)

  abbrev role_part : List ℕ
  role_part = take (role_bytes * next - role_bytes * w.first) (drop (role_bytes * w.first) roles)

  pub part_size : length word_part ≡ 4 * (row_at table w.row).words
  part_size = part_length table words w.row w.first next stated room.0.0

  own_proto : proto_in table w.row (u32s word_part) ≡ proto_in table w.row (drop w.first (u32s words))
  own_proto = part_proto table words w.row w.first next stated room.0.0

  words_stated : length (u32s word_part) ≡ (row_at table w.row).words
  words_stated = omega (arith, length_u32s word_part, part_size)

  roles_found : (pc : ℕ) → role_in role_part pc ≡ role_at (proto_in table w.row (u32s word_part)) pc
  roles_found pc =
      let size : role_bytes * next - role_bytes * w.first ≡ role_bytes * (row_at table w.row).words = omega (arith, stated) in
      ap₂ (λ (k m : ℕ). role_in (take k (drop (role_bytes * m) roles)) pc) size r.begins
      ∙ r.filled.looked_up w.row there pc
      ∙ ap (λ (m : ℕ). role_at (proto_in table w.row (drop m (u32s words))) pc) (sym r.begins)
      ∙ ap (λ (p : Proto). role_at p pc) (sym own_proto)

  describes : Describes (proto_in table w.row (u32s word_part)) q word_part role_part
  unfolding proto_in proto_of row_limits
  describes =
      let n = (row_at table w.row).words in
      record {
        limits =
            record {
              constants = ap (λ (x : RowLimits). x.constants) (sym e);
              upvalues = ap (λ (x : RowLimits). x.upvalues) (sym e);
              stack = ap (λ (x : RowLimits). x.stack) (sym e);
              children = length-map (children (row_at table w.row).depth (drop (suc w.row) (rows table))) (λ (c : Row). c.upvalues) ∙ ap (λ (x : RowLimits). x.children) (sym e);
            };
        stands = record { words = length-take-le n (u32s word_part) (omega (arith, words_stated)) ∙ ap (λ (x : RowLimits). x.words) (sym e); roles = roles_found };
        code = take_all n (u32s word_part) (omega (arith, words_stated));
      }

  -- by the row that the prototype has
  pub described : Describes (proto_in table q.row (u32s word_part)) q word_part role_part
  described = subst⁻¹ (λ (i : ℕ). Describes (proto_in table i (u32s word_part)) q word_part role_part) row_of describes

  pub same_prototype : q ≡ row_limits table q.row
  same_prototype = e ∙ ap (row_limits table) (sym row_of)

  pub own_row : (out : List ℕ) (z : State) → z ≡ foldl (take_step q.row) (w, out) (proto_steps (proto_in table q.row (u32s word_part))) → z ≡ own_steps table words (w, out)
  unfolding own_steps
  own_row out z f =
      f ∙ ap (λ (i : ℕ). foldl (take_step i) (w, out) (proto_steps (proto_in table i (u32s word_part)))) row_of
      ∙ ap (λ (p : Proto). foldl (take_step w.row) (w, out) (proto_steps p)) own_proto
