-- The children of a row, one later row after the other, and where a child that is found stands. Assumes nothing.
use Prim.Native.Nat.{ℕ, zero, suc, ◌+◌, ◌/◌, ◌≤◌, ◌<◌}
use native.Mathlib.Nat.{not-suc-le-zero, le_of_suc-le-suc, zero-add, suc-add}
use native.Mathlib.Omega.{arith}
use mathlib.Core.Path.{◌≡◌, refl, sym, ◌∙◌, ap}
use mathlib.Core.Bool.{Bool, true, false}
use mathlib.Core.List.{List, [], ◌∷◌}
use mathlib.Core.Option.{Option, none, some}
use lib.Dec.{eqb, ltb}
use lib.ListN.{length, get_or, drop, get_elem?, length-drop, get_or-eq_default}
use borrow.Author.Tests.{ltb-true, ltb-false, eqb-true, eqb-false}
use Rattle.base.specs.Lists.{take_while}
use Rattle.roles_spec.specs.Table.{Row, row_bytes, field_at, row_at, rows, below, children, child_at, child_of_row, proto_in}
use Rattle.base.proofs.ListLaws.{select_most, take_while_most}
use Rattle.roles_spec.proofs.TableLaws.{length_rows, drop_rows, child_end, child_found, child_next, child_deeper, child_upvalues, child_missing}

-- ---- one row more

pub element_past_end : {A : Type 0} (xs : List A) (k : ℕ) → length xs ≤ k → get_elem? xs k ≡ none
element_past_end [] k h = refl
element_past_end (x ∷ xs) zero h = absurd (not-suc-le-zero h)
element_past_end (x ∷ xs) (suc k) h = element_past_end xs k (le_of_suc-le-suc h)

-- there are no more children than rows
child_few : (d : ℕ) (later : List Row) (k : ℕ) → length later ≤ k → child_at d later k ≡ none
unfolding child_at children below
child_few d later k h =
    let f : Row → Bool = λ r. eqb r.depth (suc d) in
    let g : Row → Bool = λ r. ltb d r.depth in
    element_past_end (children d later) k (omega (arith, select_most f (take_while g later), take_while_most g later))

-- the rows left are no more than k
pub too_few : (table : List ℕ) (at d k : ℕ) → length table / row_bytes ≤ at + k → child_at d (drop at (rows table)) k ≡ none
too_few table at d k h = child_few d (drop at (rows table)) k (omega (arith, length-drop at (rows table), length_rows table))

module _ (table : List ℕ) (at d : ℕ) (there : at < length table / row_bytes) where
  from : (k : ℕ) (o : Option Row) → child_at d (row_at table at ∷ drop (suc at) (rows table)) k ≡ o → child_at d (drop at (rows table)) k ≡ o
  from k o e = ap (λ (rs : List Row). child_at d rs k) (drop_rows table at there) ∙ e

  pub row_end : (k : ℕ) → (row_at table at).depth ≤ d → child_at d (drop at (rows table)) k ≡ none
  row_end k h = from k none (child_end d (row_at table at) _ k h)

  pub row_found : (row_at table at).depth ≡ suc d → child_at d (drop at (rows table)) 0 ≡ some (row_at table at)
  row_found h = from 0 _ (child_found d (row_at table at) _ h)

  pub row_next : (k : ℕ) → (row_at table at).depth ≡ suc d → child_at d (drop at (rows table)) (suc k) ≡ child_at d (drop (suc at) (rows table)) k
  row_next k h = from (suc k) _ (child_next d (row_at table at) _ k h)

  pub row_deeper : (k : ℕ) → suc d < (row_at table at).depth → child_at d (drop at (rows table)) k ≡ child_at d (drop (suc at) (rows table)) k
  row_deeper k h = from k _ (child_deeper d (row_at table at) _ k h)

-- ---- a child that was found

pub record Found (table : List ℕ) (d at k : ℕ) (c : Row) : Type 0 where
  pub there : c.row < length table / row_bytes
  pub after : at ≤ c.row
  pub same : c ≡ row_at table c.row
  pub resumes : (j : ℕ) → child_at d (drop at (rows table)) (k + j) ≡ child_at d (drop c.row (rows table)) j

-- by the number of rows left
pub found : (n : ℕ) (table : List ℕ) (d at k : ℕ) (c : Row) → length table / row_bytes ≤ n + at → child_at d (drop at (rows table)) k ≡ some c → Found table d at k c
unfolding row_at
found zero table d at k c h e =
    let z : ◌≡◌ {A = ℕ} 0 1 = let none : child_at d (drop at (rows table)) k ≡ none = too_few table at d k (omega arith) in cc in
    absurd (omega arith)
found (suc n) table d at k c h e = by_row (ltb at (length table / row_bytes)) (ltb (row_at table at).depth (suc d)) (eqb (row_at table at).depth (suc d)) k refl refl refl e (λ j f. found n table d (suc at) j c (omega arith) f)
  where
    by_row : (b less same : Bool) (k : ℕ) → ltb at (length table / row_bytes) ≡ b → ltb (row_at table at).depth (suc d) ≡ less → eqb (row_at table at).depth (suc d) ≡ same
        → child_at d (drop at (rows table)) k ≡ some c → ((j : ℕ) → child_at d (drop (suc at) (rows table)) j ≡ some c → Found table d (suc at) j c) → Found table d at k c
    by_row false less same k t l s e rest =
        let gone : child_at d (drop at (rows table)) k ≡ none = too_few table at d k (omega (arith, ltb-false at (length table / row_bytes) t)) in
        let z : ◌≡◌ {A = ℕ} 0 1 = cc in
        absurd (omega arith)
    by_row true true same k t l s e rest =
        let gone : child_at d (drop at (rows table)) k ≡ none = row_end table at d (ltb-true at _ t) k (omega (arith, ltb-true (row_at table at).depth (suc d) l)) in
        let z : ◌≡◌ {A = ℕ} 0 1 = cc in
        absurd (omega arith)
    by_row true false true zero t l s e rest =
        let there = ltb-true at _ t in
        let first : some (row_at table at) ≡ some c = sym (row_found table at d there (eqb-true _ _ s)) ∙ e in
        let same : row_at table at ≡ c = cc in
        let number : at ≡ c.row = ap (λ (r : Row). r.row) same in
        record {
          there = omega arith;
          after = omega arith;
          same = sym same ∙ ap (row_at table) number;
          resumes = λ j. ap (λ (i : ℕ). child_at d (drop at (rows table)) i) (zero-add j) ∙ ap (λ (i : ℕ). child_at d (drop i (rows table)) j) number;
        }
    by_row true false true (suc k) t l s e rest =
        let there = ltb-true at _ t in
        let deep = eqb-true (row_at table at).depth (suc d) s in
        let later = rest k (sym (row_next table at d there k deep) ∙ e) in
        record {
          there = later.there;
          after = omega (arith, later.after);
          same = later.same;
          resumes = λ j. ap (λ (i : ℕ). child_at d (drop at (rows table)) i) (suc-add k j) ∙ row_next table at d there (k + j) deep ∙ later.resumes j;
        }
    by_row true false false k t l s e rest =
        let there = ltb-true at _ t in
        let deep : suc d < (row_at table at).depth = omega (arith, ltb-false (row_at table at).depth (suc d) l, eqb-false (row_at table at).depth (suc d) s) in
        let later = rest k (sym (row_deeper table at d there k deep) ∙ e) in
        record {
          there = later.there;
          after = omega (arith, later.after);
          same = later.same;
          resumes = λ j. row_deeper table at d there (k + j) deep ∙ later.resumes j;
        }

-- ---- the children of the prototype in a row

module _ (table : List ℕ) (parent : ℕ) where
  -- child k stands in row r, and the prototype has its upvalues
  pub record ChildIn (k r : ℕ) : Type 0 where
    pub there : r < length table / row_bytes
    pub upvalues : get_or (proto_in table parent []).children k 0 ≡ field_at table r 3

  pub child_in : (k r : ℕ) (c : Row) → child_of_row table parent k ≡ some c → c.row ≡ r → ChildIn k r
  unfolding child_of_row proto_in row_at
  child_in k r c e number =
      let v = found (length table / row_bytes) table (row_at table parent).depth (suc parent) k c (omega arith) e in
      record {
        there = omega (arith, v.there);
        upvalues = child_upvalues (row_at table parent) (drop (suc parent) (rows table)) [] k c e ∙ ap (λ (x : Row). x.upvalues) v.same ∙ ap (λ (n : ℕ). field_at table n 3) number;
      }

  -- a missing child has no upvalues
  pub no_upvalues : (k : ℕ) → child_of_row table parent k ≡ none → get_or (proto_in table parent []).children k 0 ≡ 0
  unfolding child_of_row proto_in
  no_upvalues k e = get_or-eq_default (proto_in table parent []).children 0 (child_missing (row_at table parent) (drop (suc parent) (rows table)) [] k e)
