-- The check call: its answer and its buffers, once the roles are filled in and the rows are walked. Assumes nothing.
use Rattle.std.proofs.Common.{◌≡◌, ℕ, suc, ◌+◌, ◌-◌, ◌*◌, ◌/◌, ◌<◌, ◌≤◌, false, List, length, get_or, take, drop, sym, refl, ap, ◌∙◌, subst, add-zero, arith, length-drop, length-take-le, get_or-drop, le-ltb, lt-ltb}
use mathlib.Core.List.{flat_map}
use mathlib.Core.Option.{Option, none, some}
use Rattle.std.specs.Prelude.{Result, Ok, Err}
use Rattle.base.specs.Bytes.{u32s, i32_record, u32_record, overwrite}
use Rattle.base.proofs.ByteLaws.{length_u32s, length_overwrite, overwrite_none}
use Rattle.roles_spec.specs.Calls.{answer, refused, accepted, filled, roles_answer, roles_after}
use Rattle.roles_spec.specs.Refusals.{Refused, or_else, refuse, refuse_if, too_short, roles_refusal, word_total}
use Rattle.roles_spec.specs.Roles.{role_at, role_bytes, records_of, roles, role_in}
use Rattle.roles_spec.specs.Table.{Row, Proto, row_bytes, row_at, rows, protos, protos_of, proto_of, proto_in}
use Rattle.roles_spec.proofs.RoleLookupLaws.{role_looked_up}
use Rattle.roles.specs.Terms.{refused_of, answer_of as roles_answer_of}
use Rattle.roles.specs.declared.refusals.Refusal.{Refusal}
use Rattle.roles.specs.declared.refusals.Refusal.TheVariants as refusal
use Rattle.roles_spec.proofs.RefusalLaws.{ImageKept, or_else_none, image_kept, roles_kept}
use Rattle.roles_spec.proofs.TotalLaws.{protos_drop}
use Rattle.roles_spec.proofs.TableLaws.{drop_rows, length_rows}
use Rattle.roles_spec.proofs.TotalLaws.{words_front, words_next}
use Rattle.roles_spec.proofs.AcceptedCallLaws.{accepted_none}
use Rattle.validator_spec.specs.Check.{Checked, checked, check_refusal, check_answer, diagnostics_after}
use Rattle.validator_spec.specs.Image.{Image, diagnostics}
use Rattle.validator_spec.specs.Statements.{Guarantee}
use Rattle.validator_spec.specs.Walk.{diagnostic_limit, max_diagnostics, diagnostic_fields, diagnostic_bytes}
use Rattle.validator_spec.proofs.GuaranteeLaws.{check_guaranteed}
use Rattle.validator_spec.proofs.LimitLaws.{at_most}
use Rattle.validator.specs.Terms.{answer_of, checked_of, concluded, image_of}
use Rattle.validator.specs.Steps.{State, Filled, Walked, step_row, walk_to}
use Rattle.validator.specs.declared.calls.Validation.{Validation}
use Rattle.validator.proofs.ImageWalkLaws.{begun, image_walked, walked_concluded, walked_empty}

-- ---- the roles are filled in

module _ (table words old : List ℕ) (kept : roles_refusal table words (length old) ≡ none) where
  image : ImageKept table words
  image = (roles_kept table words (length old) kept).image

  -- prototype i, from the words of its row on
  proto_at : (i : ℕ) (p : Proto) → i < length table / row_bytes → get_or (protos table words) i p ≡ proto_in table i (drop (word_total (take i (rows table))) (u32s words))
  unfolding protos protos_of proto_in
  proto_at i p h =
      let ws = drop (word_total (take i (rows table))) (u32s words) in
      ap (λ (k : ℕ). get_or (protos_of (rows table) (u32s words)) k p) (sym (add-zero i))
      ∙ sym (get_or-drop i (protos_of (rows table) (u32s words)) 0 p)
      ∙ ap (λ (l : List Proto). get_or l 0 p) (protos_drop (rows table) (u32s words) i ∙ ap (λ (rs : List Row). protos_of rs ws) (drop_rows table i h))

  -- it has all words that its row states
  words_at : (i : ℕ) → i < length table / row_bytes → length (proto_in table i (drop (word_total (take i (rows table))) (u32s words))).code ≡ (row_at table i).words
  unfolding proto_in proto_of
  words_at i h =
      length-take-le (row_at table i).words (drop (word_total (take i (rows table))) (u32s words))
      (omega (arith, length-drop (word_total (take i (rows table))) (u32s words), length_u32s words, image.word_count, words_next table i h, words_front (rows table) (suc i)))

  pub length_filled : length (roles_after table words old) ≡ length old
  unfolding roles_after filled
  length_filled =
      let new = records_of (flat_map roles (protos table words)) in
      ap (λ (o : Option Refused). length (filled o old new)) kept ∙ length_overwrite old 0 new

  roles_at : (i : ℕ) → i < length table / row_bytes → (pc : ℕ)
      → role_in (take (role_bytes * (row_at table i).words) (drop (role_bytes * word_total (take i (rows table))) (roles_after table words old))) pc
      ≡ role_at (proto_in table i (drop (word_total (take i (rows table))) (u32s words))) pc
  roles_at i h pc =
      let q = proto_in table i (drop (word_total (take i (rows table))) (u32s words)) in
      let there : i < length (rows table) = omega (arith, length_rows table) in
      ap (λ (n : ℕ). role_in (take (role_bytes * n) (drop (role_bytes * word_total (take i (rows table))) (roles_after table words old))) pc) (sym (ap (λ (x : Proto). length x.code) (proto_at i q h) ∙ words_at i h))
      ∙ role_looked_up table words old i q kept there pc
      ∙ ap (λ (x : Proto). role_at x pc) (proto_at i q h)

  pub filled_in : Filled table words (roles_after table words old)
  unfolding roles_refusal
  filled_in = record { accepted = (or_else_none _ _ kept).0; fits = omega (arith, (roles_kept table words (length old) kept).fits, length_filled); looked_up = roles_at }

-- ---- the walk begins at row 0

module _ (table words records : List ℕ) (f : Filled table words records) where
  pub some_row : 0 < length table / row_bytes
  some_row = let k = image_kept table words f.accepted in omega (arith, k.some_row, k.whole_rows)

  pub start_begins : 0 ≡ word_total (take 0 (rows table))
  unfolding word_total
  start_begins = refl

  -- and walks the image
  pub walked : (warnings errors stop : ℕ) (old : List ℕ) (s : State) → stop ≡ diagnostic_limit - (warnings + errors)
      → s ≡ walk_to table words (row_at table 0).depth (step_row table words (record { row = 0; first = 0; stop = stop; count = 0; error = false; limit = false }, old)) → Walked (image_of table words warnings errors) old s
  walked warnings errors stop old s e g =
      let i = image_of table words warnings errors in
      let same : s ≡ walk_to table words (row_at table 0).depth (step_row table words (begun (warnings + errors) old)) =
      g ∙ ap (λ (n : ℕ). walk_to table words (row_at table 0).depth (step_row table words (record { row = 0; first = 0; stop = n; count = 0; error = false; limit = false }, old))) e in
      subst (Walked i old) (sym same) (image_walked i old f.accepted)

-- ---- what the walk says of the call

module _ (i : Image) (old : List ℕ) (s : State) (w : Walked i old s) where
  pub judged : (v : Validation) → checked_of v ≡ concluded i.warnings i.errors s.0 → checked_of v ≡ checked i
  judged v e = e ∙ walked_concluded i old s w

  counted : s.0.count ≡ length (diagnostics i)
  unfolding diagnostics
  counted = w.count

  module _ (buffer : List ℕ) where
    -- the diagnostics do not fit into a buffer, or they do
    pub short : length buffer / diagnostic_bytes < s.0.count → too_short (length (diagnostics i)) diagnostic_bytes (length buffer) ≡ some (refused_of (refusal.BufferTooShort s.0.count))
    unfolding too_short refuse_if refuse refused_of
    short h =
        let n = length (diagnostics i) in
        let over : length buffer < n * diagnostic_bytes = omega (arith, counted) in
        rw (lt-ltb (length buffer) (n * diagnostic_bytes) over, counted)

    pub long : s.0.count ≤ length buffer / diagnostic_bytes → diagnostic_bytes * length (diagnostics i) ≤ length buffer
    long h = omega (arith, counted)

    -- there are none
    pub nothing : s.0.count ≡ 0 → buffer ≡ overwrite buffer 0 (i32_record (flat_map diagnostic_fields (diagnostics i)))
    unfolding i32_record u32_record flat_map
    nothing e = rw (walked_empty i old s w e) (sym (overwrite_none buffer 0))

-- all of them fit
all_fit : (n len : ℕ) → diagnostic_bytes * n ≤ len → too_short n diagnostic_bytes len ≡ none
unfolding too_short refuse_if
all_fit n len h = rw (le-ltb len (n * diagnostic_bytes) (omega arith))

-- the answer and the buffer, by the refusal of a short buffer
pub record Answers (i : Image) (buffer : List ℕ) (r : Result Validation Refusal) (new : List ℕ) : Type 0 where
  pub said : answer_of r ≡ answer (too_short (length (diagnostics i)) diagnostic_bytes (length buffer)) (checked i)
  pub left : new ≡ filled (too_short (length (diagnostics i)) diagnostic_bytes (length buffer)) buffer (i32_record (flat_map diagnostic_fields (diagnostics i)))

module _ (i : Image) (buffer : List ℕ) where
  -- refused, and left as it was
  pub refused_short : (n : ℕ) → too_short (length (diagnostics i)) diagnostic_bytes (length buffer) ≡ some (refused_of (refusal.BufferTooShort n)) → Answers i buffer (Err (refusal.BufferTooShort n)) buffer
  unfolding answer_of answer filled
  refused_short n e =
      record {
        said = ap (λ (o : Option Refused). answer o (checked i)) (sym e);
        left = ap (λ (o : Option Refused). filled o buffer (i32_record (flat_map diagnostic_fields (diagnostics i)))) (sym e);
      }

  -- judged, and filled
  pub accepted_long : (v : Validation) (new : List ℕ) → diagnostic_bytes * length (diagnostics i) ≤ length buffer → checked_of v ≡ checked i → new ≡ overwrite buffer 0 (i32_record (flat_map diagnostic_fields (diagnostics i)))
      → Answers i buffer (Ok v) new
  unfolding answer_of answer filled
  accepted_long v new h e f =
      let none = all_fit (length (diagnostics i)) (length buffer) h in
      record {
        said = ap (λ (c : Checked). accepted c) e ∙ ap (λ (o : Option Refused). answer o (checked i)) (sym none);
        left = f ∙ ap (λ (o : Option Refused). filled o buffer (i32_record (flat_map diagnostic_fields (diagnostics i)))) (sym none);
      }

-- ---- the call

module _ (i : Image) (records : List ℕ) (a : Result ℕ Refusal) (roles_judged : roles_answer_of a ≡ roles_answer i.table i.words (length records)) where
  -- the roles call was not refused
  pub not_refused : (n : ℕ) → a ≡ Ok n → roles_refusal i.table i.words (length records) ≡ none
  unfolding roles_answer_of roles_answer
  not_refused n e = accepted_none (roles_refusal i.table i.words (length records)) _ n (sym roles_judged ∙ ap roles_answer_of e)

  -- it was
  was_refused : (r : Refusal) → a ≡ Err r → roles_refusal i.table i.words (length records) ≡ some (refused_of r)
  unfolding roles_answer_of roles_answer answer
  was_refused r e = go (roles_refusal i.table i.words (length records)) (sym roles_judged ∙ ap roles_answer_of e)
    where
      go : (o : Option Refused) → answer o (word_total (rows i.table)) ≡ refused (refused_of r) → o ≡ some (refused_of r)
      go none q = let z : ◌≡◌ {A = ℕ} 0 1 = cc in absurd (omega arith)
      go (some x) q = cc

  pub refused_call : (r : Refusal) (buffer : List ℕ) → a ≡ Err r
      → (answer_of (Err r) ≡ check_answer i (length records) (length buffer)) × (buffer ≡ diagnostics_after i (length records) buffer)
  unfolding answer_of check_answer check_refusal diagnostics_after answer filled or_else
  refused_call r buffer e =
      let o = sym (was_refused r e) in (
        ap (λ (x : Option Refused). answer (or_else x (too_short (length (diagnostics i)) diagnostic_bytes (length buffer))) (checked i)) o,
        ap (λ (x : Option Refused). filled (or_else x (too_short (length (diagnostics i)) diagnostic_bytes (length buffer))) buffer (i32_record (flat_map diagnostic_fields (diagnostics i)))) o,
      )

  -- the answer is that of the walk
  pub answered_call : (n : ℕ) (r : Result Validation Refusal) (buffer new : List ℕ) → a ≡ Ok n → Answers i buffer r new
      → (answer_of r ≡ check_answer i (length records) (length buffer)) × (new ≡ diagnostics_after i (length records) buffer)
  unfolding check_answer check_refusal diagnostics_after or_else
  answered_call n r buffer new e w =
      let o = sym (not_refused n e) in (
        w.said ∙ ap (λ (x : Option Refused). answer (or_else x (too_short (length (diagnostics i)) diagnostic_bytes (length buffer))) (checked i)) o,
        w.left ∙ ap (λ (x : Option Refused). filled (or_else x (too_short (length (diagnostics i)) diagnostic_bytes (length buffer))) buffer (i32_record (flat_map diagnostic_fields (diagnostics i)))) o,
      )

  -- the largest number of diagnostics fits
  pub most_fit : (n len : ℕ) → a ≡ Ok n → max_diagnostics ≤ len / diagnostic_bytes → diagnostic_bytes * length (diagnostics i) ≤ len
  unfolding roles_refusal
  most_fit n len e h = omega (arith, at_most i (or_else_none _ _ (not_refused n e)).0)

-- demand 3, from the answer
pub guaranteed : (i : Image) (role_length len : ℕ) (r : Result Validation Refusal) → answer_of r ≡ check_answer i role_length len → (c : Checked) → answer_of r ≡ accepted c → Guarantee i c
guaranteed i role_length len r e c q = check_guaranteed i role_length len c (sym e ∙ q)
