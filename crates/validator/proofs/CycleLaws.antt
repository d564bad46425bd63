-- The two functions that call each other, in the code's terms: a row with the rows below it, and the rows deeper than a given depth. Assumes nothing.
use Rattle.std.proofs.Common.{◌≡◌, ℕ, ◌+◌, ◌/◌, ◌<◌, ◌≤◌, true, false, List, length, drop, sym, ap, ◌∙◌, subst, ap₂, arith}
use Rattle.base.specs.Bytes.{u32s}
use Rattle.roles_spec.specs.Table.{row_bytes, row_at, proto_in}
use Rattle.validator_spec.specs.Diagnostics.{proto_steps}
use Rattle.validator.specs.Terms.{row_limits}
use Rattle.validator.specs.Steps.{State, Begins, tested_of, moved_to, own_steps, step_row, walk_to}
use Rattle.validator.specs.declared.rows.RowLimits.{RowLimits}
use Rattle.validator.specs.declared.state.WalkState.{WalkState}
use Rattle.validator.proofs.NextRowLaws.{Ready}
use Rattle.validator.proofs.RowStepLaws.{More, steps_row, step_begins, step_going, part_walked, tested_ended, child_rest, child_ended, child_moves, child_begins}

-- ---- a row, and then the rows below it

module _ (table words roles : List ℕ) (w : WalkState) (ready : Ready table words roles w) (there : w.row < length table / row_bytes) (out : List ℕ) (y : State) (own : y ≡ own_steps table words (w, out)) where
  pub same_row : y.0.row ≡ w.row
  unfolding own_steps
  same_row = ap (λ (x : State). x.0.row) own ∙ steps_row w.row (w, out) (proto_steps (proto_in table w.row (drop w.first (u32s words))))

  module _ (going : y.0.limit ≡ false) (q : RowLimits) (e : q ≡ row_limits table w.row) (m : WalkState) (moved : m ≡ moved_to (w.first + q.words) y.0) where
    on : ◌≡◌ {A = State} (m, y.1) (moved_to (w.first + (row_at table w.row).words) y.0, y.1)
    unfolding row_limits
    on = ap (λ (x : WalkState). (x, y.1)) (moved ∙ ap (λ (x : RowLimits). moved_to (w.first + x.words) y.0) e)

    pub next_row : m.row ≡ w.row + 1
    unfolding moved_to
    next_row = ap (λ (x : WalkState). x.row) moved ∙ ap (λ (n : ℕ). n + 1) same_row

    pub next_begins : Begins table m
    next_begins = subst (λ (x : State). Begins table x.0) (step_going table words (w, out) y own going ∙ sym on) (step_begins table words (w, out) there ready.begins)

    pub below_walked : (z : State) → z ≡ walk_to table words q.depth (m, y.1) → z ≡ walk_to table words (row_at table w.row).depth (step_row table words (w, out))
    unfolding row_limits
    below_walked z f =
        part_walked table words (row_at table w.row).depth (w, out) y own going z
        (f ∙ ap₂ (λ (d : ℕ) (x : State). walk_to table words d x) (ap (λ (x : RowLimits). x.depth) e) on)

-- ---- the rows that are deeper, one after another

-- from here the walk leads to where it leads from its first state
pub record ChildPass (table words : List ℕ) (d : ℕ) (s₀ s : State) : Type 0 where
  pub leads : walk_to table words d s ≡ walk_to table words d s₀
  pub begins : Begins table s.0
  pub later : s₀.0.row ≤ s.0.row
  pub within : s.0.row ≤ length table / row_bytes
  pub long : length s.1 ≡ length s₀.1

module _ (table words : List ℕ) (d : ℕ) (s₀ s : State) (pass : ChildPass table words d s₀ s) (m : More table d s.0) (t : WalkState) (e : t ≡ tested_of s.0) where
  pub tested_row : t.row ≡ s.0.row
  unfolding tested_of
  tested_row = ap (λ (x : WalkState). x.row) e

  pub tested_begins : Begins table t
  unfolding tested_of
  tested_begins = subst (λ (x : WalkState). Begins table x) (sym e) pass.begins

  pub stopped : t.limit ≡ true → ◌≡◌ {A = State} (t, s.1) (walk_to table words d s₀)
  stopped l = ap (λ (x : WalkState). (x, s.1)) e ∙ tested_ended table words d s m (sym (ap (λ (x : WalkState). x.limit) e) ∙ l) ∙ pass.leads

  module _ (y : State) (walked : y ≡ walk_to table words (row_at table t.row).depth (step_row table words (t, s.1))) where
    part : y ≡ walk_to table words (row_at table s.0.row).depth (step_row table words (tested_of s.0, s.1))
    unfolding tested_of
    part = walked ∙ ap (λ (x : WalkState). walk_to table words (row_at table x.row).depth (step_row table words (x, s.1))) e

    pub child_stopped : y.0.limit ≡ true → y ≡ walk_to table words d s₀
    child_stopped l = child_ended table words d s m y part l ∙ pass.leads

    pub rows_fall : y.0.limit ≡ false → (s.0.row < y.0.row) × (y.0.row ≤ length table / row_bytes)
    rows_fall l = child_moves table words d s m y part l

    pub child_passed : y.0.limit ≡ false → length y.1 ≡ length s.1 → ChildPass table words d s₀ y
    child_passed l size =
        record {
          leads = child_rest table words d s m y part ∙ pass.leads;
          begins = child_begins table words d s m y part pass.begins;
          later = omega (arith, pass.later, (rows_fall l).0);
          within = (rows_fall l).1;
          long = size ∙ pass.long;
        }
