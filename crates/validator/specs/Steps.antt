-- What the walk's state and the diagnostics buffer are after each step of the code: the terms of inner contracts. The call's own contract cites none of
-- them. Assumes nothing: these are definitions.
use Rattle.std.specs.Prelude.{◌≡◌, ℕ, zero, suc, ◌+◌, ◌-◌, ◌*◌, ◌%◌, ◌^◌, ◌≤◌, Bool, true, cond, not, ◌&&◌, ◌||◌, List, [], ◌∷◌, length, take, drop, Option, Some, None, ◌==◌, nat_le, nat_lt}
use mathlib.Core.List.{foldl}
use Rattle.std.proofs.Math.Option.{none}
use Rattle.base.specs.Bytes.{u32s, u32_record, i32_bits, i32_record, overwrite}
use Rattle.base.specs.Lists.{any}
use Rattle.roles_spec.specs.Table.{row_at, rows, proto_in, row_count}
use Rattle.roles_spec.specs.Roles.{role_at, role_bytes, role_in}
use Rattle.roles_spec.specs.Refusals.{word_total, image_refusal}
use Rattle.roles.specs.Bounds.{HasRow}
use Rattle.validator_spec.specs.Diagnostics.{Diagnostic, Step, proto_steps}
use Rattle.validator_spec.specs.Walk.{RowDiagnostic, diagnostic_fields, diagnostic_bytes, error_in}
use Rattle.validator_spec.specs.Image.{Image, image_walk}
use Rattle.validator.specs.declared.state.WalkState.{WalkState}

-- the state and the buffer
abbrev pub State : Type 0
State = WalkState × List ℕ

-- ---- diagnostics

-- a diagnostic is added, given by the bits of its four fields: counted modulo 2 ^ 32, and written where its record fits
unfoldable pub emitted : ℕ → ℕ → ℕ → ℕ → State → State
emitted row pc code value s = (
  record {
    row = s.0.row;
    first = s.0.first;
    stop = s.0.stop;
    count = (s.0.count + 1) % 2 ^ 32;
    error = s.0.error || not (code == 3);
    limit = s.0.limit;
  },
  overwrite s.1 (diagnostic_bytes * s.0.count) (u32_record (row ∷ pc ∷ code ∷ value ∷ [])),
)

-- a diagnostic is added where there is a value for it
unfoldable pub emitted_if : ℕ → ℕ → ℕ → Option ℕ → State → State
emitted_if row pc code None s = s
emitted_if row pc code (Some value) s = emitted row pc code value s

-- a diagnostic of a row is added
unfoldable pub emit : ℕ → State → Diagnostic → State
emit row s d = emitted row (i32_bits d.pc) d.code (i32_bits d.value) s

-- diagnostics of a row are added, in order
unfoldable pub emit_all : ℕ → List Diagnostic → State → State
emit_all row ds s = foldl (emit row) s ds

-- ---- the limit

-- the walk has ended
abbrev pub ended : WalkState → WalkState
ended w = record { row = w.row; first = w.first; stop = w.stop; count = w.count; error = w.error; limit = true }

-- after the test
unfoldable pub tested_of : WalkState → WalkState
tested_of w = record { row = w.row; first = w.first; stop = w.stop; count = w.count; error = w.error; limit = w.limit || nat_le w.stop w.count }

-- after a step, tested or not
unfoldable pub take_step : ℕ → State → Step → State
take_step row s step = cond (s.0.limit || step.tested && nat_le s.0.stop s.0.count) (ended s.0, s.1) (emit_all row step.adds s)

-- ---- rows

-- on to the next row
unfoldable pub moved_to : ℕ → WalkState → WalkState
moved_to first w = record { row = w.row + 1; first = first; stop = w.stop; count = w.count; error = w.error; limit = w.limit }

-- the next row's own steps
unfoldable pub own_steps : List ℕ → List ℕ → State → State
own_steps table words s = foldl (take_step s.0.row) s (proto_steps (proto_in table s.0.row (drop s.0.first (u32s words))))

-- after a row's own steps: on to the next row, unless the walk has ended
unfoldable pub onward : ℕ → State → State
onward words s = cond s.0.limit s (moved_to (s.0.first + words) s.0, s.1)

-- the next row's own steps, and on to the row after it
unfoldable pub step_row : List ℕ → List ℕ → State → State
step_row table words s = onward (row_at table s.0.row).words (own_steps table words s)

-- n rows at most, while they are deeper than d
unfoldable pub walk_for : List ℕ → List ℕ → ℕ → ℕ → State → State
walk_for table words zero d s = s
walk_for table words (suc n) d s = cond (nat_le (row_at table s.0.row).depth d) s (walk_for table words n d (step_row table words s))

-- the rows from the next one on, while they are deeper than d
unfoldable pub walk_to : List ℕ → List ℕ → ℕ → State → State
walk_to table words d s = walk_for table words (row_count table - s.0.row) d s

-- whether the walk goes on with a row deeper than d
unfoldable pub goes_on : List ℕ → ℕ → WalkState → Bool
goes_on table d w = not w.limit && nat_lt w.row (row_count table) && nat_lt d (row_at table w.row).depth

-- ---- what the code needs

-- no refusal from 1 to 6 meets the image, and a prototype's part of the role buffer has the roles of its words
pub record Filled (table words roles : List ℕ) : Type 0 where
  pub accepted : image_refusal table words ≡ none
  pub fits : role_bytes * word_total (rows table) ≤ length roles
  pub looked_up : (i : ℕ) → HasRow table i → (pc : ℕ)
      → role_in (take (role_bytes * (row_at table i).words) (drop (role_bytes * word_total (take i (rows table))) roles)) pc
      ≡ role_at (proto_in table i (drop (word_total (take i (rows table))) (u32s words))) pc

-- the walk knows where the words of its next row begin
abbrev pub Begins : List ℕ → WalkState → Type 0
Begins table w = w.first ≡ word_total (take w.row (rows table))

-- ---- the end of the walk

-- the buffer with diagnostics written to it, one after another from record k on, each where it fits
unfoldable pub written : ℕ → List RowDiagnostic → List ℕ → List ℕ
written k [] out = out
written k (d ∷ ds) out = written (suc k) ds (overwrite out (diagnostic_bytes * k) (i32_record (diagnostic_fields d)))

-- the state and the buffer are those of the image's walk
pub record Walked (i : Image) (old : List ℕ) (s : State) : Type 0 where
  pub count : s.0.count ≡ length (image_walk i).found
  pub error : s.0.error ≡ any error_in (image_walk i).found
  pub limit : s.0.limit ≡ (image_walk i).ended
  pub buffer : s.1 ≡ written 0 (image_walk i).found old
