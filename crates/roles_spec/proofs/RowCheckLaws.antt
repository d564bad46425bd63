-- The checks of a table row by row: refusals 4 and 5, and the words that the rows state. Assumes nothing.
use Prim.Native.Nat.{ℕ, ◌+◌, ◌/◌, ◌≤◌, ◌<◌}
use native.Mathlib.Numerals.{add-one}
use native.Mathlib.Omega.{arith}
use mathlib.Core.Path.{◌≡◌, sym, ◌∙◌, ap, subst}
use mathlib.Core.Bool.{Bool, true, false, ◌&&◌}
use mathlib.Core.List.{List, []}
use mathlib.Core.Option.{none}
use lib.Dec.{leb, leb→le, T}
use lib.ListN.{length, drop, drop_of_length-le}
use Rattle.roles_spec.specs.Table.{row_bytes, field_at, row_at, rows}
use Rattle.roles_spec.specs.Refusals.{refuse, refuse_if, or_else, depth_fits, bad_depth, fields_fit, bad_field, max_depth}
use Rattle.base.proofs.BoolLaws.{t_and}
use Rattle.roles_spec.proofs.TableLaws.{length_rows, drop_rows}

-- past the last row
pub rows_end : (table : List ℕ) (row : ℕ) → length table / row_bytes ≤ row → drop row (rows table) ≡ []
rows_end table row h = drop_of_length-le (rows table) {i = row} (omega (arith, length_rows table))

-- ---- 4

-- the depths of the rows from this one on are still to be judged
pub record DepthsLeft (table : List ℕ) (least most row : ℕ) : Type 0 where
  pub left : bad_depth 0 0 (rows table) ≡ bad_depth least most (drop row (rows table))
  pub within : row ≤ length table / row_bytes

module _ (table : List ℕ) (least most row : ℕ) (v : DepthsLeft table least most row) where
  pub depths_end : length table / row_bytes ≤ row → bad_depth 0 0 (rows table) ≡ none
  unfolding bad_depth
  depths_end h = v.left ∙ ap (bad_depth least most) (rows_end table row h)

  module _ (there : row < length table / row_bytes) (r : Bool) (fits : r ≡ depth_fits least most (row_at table row)) where
    pub depth_refused : r ≡ false → bad_depth 0 0 (rows table) ≡ refuse 4 row
    unfolding bad_depth or_else refuse_if refuse row_at
    depth_refused f = v.left ∙ ap (bad_depth least most) (drop_rows table row there) ∙ rw (← fits, f)

    pub depth_low : r ≡ true → field_at table row 0 ≤ max_depth
    unfolding depth_fits row_at
    depth_low f = leb→le (field_at table row 0) max_depth (t_and (leb least (field_at table row 0) && leb (field_at table row 0) most) (leb (field_at table row 0) max_depth) (subst T (sym f ∙ fits) tt)).1

    pub depth_next : r ≡ true → (most' : ℕ) → most' ≡ field_at table row 0 + 1 → DepthsLeft table 1 most' (row + 1)
    unfolding bad_depth or_else refuse_if row_at
    depth_next f most' e =
        record {
          left =
              v.left
              ∙ ap (bad_depth least most) (drop_rows table row there)
              ∙ rw (← fits, f, e, add-one (field_at table row 0), add-one row);
          within = omega arith;
        }

-- ---- 5

pub record FieldsLeft (table : List ℕ) (row : ℕ) : Type 0 where
  pub left : bad_field (rows table) ≡ bad_field (drop row (rows table))
  pub within : row ≤ length table / row_bytes

module _ (table : List ℕ) (row : ℕ) (v : FieldsLeft table row) where
  pub fields_end : length table / row_bytes ≤ row → bad_field (rows table) ≡ none
  unfolding bad_field
  fields_end h = v.left ∙ ap bad_field (rows_end table row h)

  module _ (there : row < length table / row_bytes) (r : Bool) (fits : r ≡ fields_fit (row_at table row)) where
    pub field_refused : r ≡ false → bad_field (rows table) ≡ refuse 5 row
    unfolding bad_field or_else refuse_if refuse row_at
    field_refused f = v.left ∙ ap bad_field (drop_rows table row there) ∙ rw (← fits, f)

    pub field_next : r ≡ true → FieldsLeft table (row + 1)
    unfolding bad_field or_else refuse_if
    field_next f = record { left = v.left ∙ ap bad_field (drop_rows table row there) ∙ rw (← fits, f, add-one); within = omega arith }
