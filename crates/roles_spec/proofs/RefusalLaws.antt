-- What an image that is not refused keeps. Assumes nothing.
use Prim.Native.Nat.{ℕ, suc, ◌*◌, ◌%◌, ◌≤◌, ◌<◌}
use native.Mathlib.Omega.{arith}
use mathlib.Core.Path.{◌≡◌, refl, sym, subst}
use mathlib.Core.Bool.{Bool, true, false, ◌&&◌, not}
use mathlib.Core.List.{List, [], ◌∷◌}
use mathlib.Core.Option.{Option, none, some}
use lib.Dec.{T, eqb, ltb, leb, leb→le, eqb→eq}
use lib.ListN.{length}
use borrow.Author.Tests.{eqb-false, ltb-false, not-false}
use Rattle.base.specs.Lists.{All, all_nil, all_cons}
use Rattle.roles_spec.specs.Table.{Row, row_bytes, rows}
use Rattle.roles_spec.specs.Refusals.{Refused, refuse, refuse_if, or_else, depth_fits, bad_depth, fields_fit, bad_field, word_total, image_refusal, roles_refusal, max_constants, max_depth, max_rows, max_upvalues, max_word_bytes, max_stack}
use Rattle.roles_spec.specs.Roles.{role_bytes}
use Rattle.base.proofs.BoolLaws.{t_and, or_false}

-- where neither of two refusals applies, and where one does not
pub or_else_none : (a b : Option Refused) → or_else a b ≡ none → (a ≡ none) × (b ≡ none)
unfolding or_else
or_else_none none b e = (refl, e)
or_else_none (some r) b e = let z : ◌≡◌ {A = ℕ} 0 1 = cc in absurd (omega arith)

pub refuse_if_none : (b : Bool) (number figure : ℕ) → refuse_if b number figure ≡ none → b ≡ false
unfolding refuse_if refuse
refuse_if_none true number figure e = let z : ◌≡◌ {A = ℕ} 0 1 = cc in absurd (omega arith)
refuse_if_none false number figure e = refl

-- a test that must pass, and three of them
refuse_unless : (b : Bool) (number figure : ℕ) → refuse_if (not b) number figure ≡ none → T b
refuse_unless b number figure e = subst T (sym (not-false b (refuse_if_none (not b) number figure e))) tt

three : (a b c : Bool) → T (a && b && c) → T a × T b × T c
three a b c t = let ab = t_and (a && b) c t in let p = t_and a b ab.0 in (p.0, p.1, ab.1)

-- ---- 4: a row's depth, and that of the rows after it

pub record DepthKept (least most : ℕ) (r : Row) (rs : List Row) : Type 0 where
  pub low : least ≤ r.depth
  pub high : r.depth ≤ most
  pub limit : r.depth ≤ max_depth
  pub later : bad_depth 1 (suc r.depth) rs ≡ none

pub depth_kept : (least most : ℕ) (r : Row) (rs : List Row) → bad_depth least most (r ∷ rs) ≡ none → DepthKept least most r rs
unfolding bad_depth depth_fits
depth_kept least most r rs e =
    let n = or_else_none _ (bad_depth 1 (suc r.depth) rs) e in
    let t = three (leb least r.depth) (leb r.depth most) (leb r.depth max_depth) (refuse_unless (depth_fits least most r) 4 r.row n.0) in
    record { low = leb→le _ _ t.0; high = leb→le _ _ t.1; limit = leb→le _ _ t.2; later = n.1 }

-- ---- 5: every row's fields

pub record FieldsKept (r : Row) : Type 0 where
  pub constants : r.constants ≤ max_constants
  pub upvalues : r.upvalues ≤ max_upvalues
  pub stack : r.stack ≤ max_stack

pub fields_kept : (rs : List Row) → bad_field rs ≡ none → All FieldsKept rs
unfolding bad_field fields_fit
fields_kept [] e = all_nil
fields_kept (r ∷ rs) e =
    let n = or_else_none _ (bad_field rs) e in
    let t = three (leb r.constants max_constants) (leb r.upvalues max_upvalues) (leb r.stack max_stack) (refuse_unless (fields_fit r) 5 r.row n.0) in
    all_cons (record { constants = leb→le _ _ t.0; upvalues = leb→le _ _ t.1; stack = leb→le _ _ t.2 }) (fields_kept rs n.1)

-- ---- 1 to 6

pub record ImageKept (table words : List ℕ) : Type 0 where
  pub some_row : 0 < length table
  pub whole_rows : length table % row_bytes ≡ 0
  pub row_limit : length (rows table) ≤ max_rows
  pub word_limit : length words ≤ max_word_bytes
  pub depths : bad_depth 0 0 (rows table) ≡ none
  pub fields : All FieldsKept (rows table)
  pub word_count : length words ≡ 4 * word_total (rows table)

pub image_kept : (table words : List ℕ) → image_refusal table words ≡ none → ImageKept table words
unfolding image_refusal
image_kept table words e =
    let rs = rows table in
    let n1 = or_else_none _ _ e in
    let n2 = or_else_none _ _ n1.1 in
    let n3 = or_else_none _ _ n2.1 in
    let n4 = or_else_none _ _ n3.1 in
    let n5 = or_else_none _ _ n4.1 in
    let full = or_false (ltb max_rows (length rs)) (ltb max_word_bytes (length words)) (refuse_if_none _ 3 0 n3.0) in
    let there : length table ≡ 0 → ⊥ = eqb-false (length table) 0 (refuse_if_none _ 1 0 n1.0) in
    record {
      some_row = omega arith;
      whole_rows = eqb→eq _ 0 (refuse_unless (eqb (length table % row_bytes) 0) 2 0 n2.0);
      row_limit = ltb-false _ _ full.0;
      word_limit = ltb-false _ _ full.1;
      depths = n4.0;
      fields = fields_kept rs n5.0;
      word_count = eqb→eq _ _ (refuse_unless (eqb (length words) (4 * word_total rs)) 6 0 n5.1);
    }

-- ---- 1 to 7

pub record RolesKept (table words : List ℕ) (room : ℕ) : Type 0 where
  pub image : ImageKept table words
  pub fits : role_bytes * word_total (rows table) ≤ room

pub roles_kept : (table words : List ℕ) (room : ℕ) → roles_refusal table words room ≡ none → RolesKept table words room
unfolding roles_refusal
roles_kept table words room e =
    let n = or_else_none (image_refusal table words) _ e in
    record { image = image_kept table words n.0; fits = ltb-false _ _ (refuse_if_none _ 7 0 n.1) }
