-- The walk's state and the buffer from row to row: what a step keeps, the next row, the rows that are deeper, and where words begin. Assumes nothing.
use Rattle.std.proofs.Common.{◌≡◌, ℕ, zero, suc, ◌+◌, ◌-◌, ◌/◌, ◌<◌, ◌≤◌, Bool, true, false, cond, not, ◌&&◌, ◌||◌, ltb, leb, List, [], ◌∷◌, length, take, drop, sym, refl, ap, ◌∙◌, arith, ltb-false, ltb-true, le-leb}
use mathlib.Core.Path.{subst⁻¹}
use mathlib.Core.List.{foldl}
use lib.Dec.{nleb→lt}
use borrow.Author.Tests.{lt-leb}
use Rattle.base.specs.Bytes.{u32s}
use Rattle.roles_spec.specs.Table.{row_bytes, row_at, rows, proto_in}
use Rattle.roles_spec.specs.Refusals.{word_total}
use Rattle.validator_spec.specs.Diagnostics.{Diagnostic, Step, tested_step, proto_steps}
use Rattle.base.proofs.BoolLaws.{true≢false, or_false, by_cond}
use Rattle.roles_spec.proofs.TotalLaws.{words_next}
use Rattle.validator_spec.proofs.TreeLaws.{Begins as TestFirst, begins, proto_begins}
use Rattle.validator.specs.declared.state.WalkState.{WalkState}
use Rattle.validator.specs.Steps.{State, Begins, emitted, emit, emit_all, ended, tested_of, take_step, moved_to, own_steps, onward, step_row, walk_for, walk_to, goes_on}

-- a test passes or fails
either : {P : Type 0} (b : Bool) → (b ≡ true → P) → (b ≡ false → P) → P
either true f g = f refl
either false f g = g refl

or_twice : (a b : Bool) → (a || b) || b ≡ a || b
or_twice true b = refl
or_twice false true = refl
or_twice false false = refl

same : (b : Bool) (s : State) → cond b s s ≡ s
same true s = refl
same false s = refl

-- ---- what steps keep: the row and its first word

pub record Kept (s t : State) : Type 0 where
  pub row : t.0.row ≡ s.0.row
  pub first : t.0.first ≡ s.0.first

kept_fold : {A : Type 0} (f : State → A → State) → ((s : State) (x : A) → Kept s (f s x)) → (s : State) (xs : List A) → Kept s (foldl f s xs)
kept_fold f k s [] = record { row = refl; first = refl }
kept_fold f k s (x ∷ xs) =
    let a = k s x in
    let b = kept_fold f k (f s x) xs in
    record { row = b.row ∙ a.row; first = b.first ∙ a.first }

module _ (row : ℕ) where
  emit_keeps : (s : State) (d : Diagnostic) → Kept s (emit row s d)
  unfolding emit emitted
  emit_keeps s d = record { row = refl; first = refl }

  pub emit_all_keeps : (ds : List Diagnostic) (s : State) → Kept s (emit_all row ds s)
  unfolding emit_all
  emit_all_keeps ds s = kept_fold (emit row) emit_keeps s ds

  pub take_step_keeps : (s : State) (step : Step) → Kept s (take_step row s step)
  unfolding take_step
  take_step_keeps s step =
      by_cond (Kept s) (s.0.limit || step.tested && leb s.0.stop s.0.count) (ended s.0, s.1) (emit_all row step.adds s)
      (λ t. record { row = refl; first = refl })
      (λ t. emit_all_keeps step.adds s)

  steps_keep : (s : State) (steps : List Step) → Kept s (foldl (take_step row) s steps)
  steps_keep s steps = kept_fold (take_step row) take_step_keeps s steps

  pub steps_row : (s : State) (steps : List Step) → (foldl (take_step row) s steps).0.row ≡ s.0.row
  steps_row s steps = (steps_keep s steps).row

  -- ---- the limit

  -- once ended, a walk stays as it is
  pub take_step_ended : (s : State) (step : Step) → s.0.limit ≡ true → take_step row s step ≡ s
  unfolding take_step
  take_step_ended s step e = rw e

  pub steps_ended : (s : State) (steps : List Step) → s.0.limit ≡ true → foldl (take_step row) s steps ≡ s
  steps_ended s [] e = refl
  steps_ended s (step ∷ steps) e = ap (λ (u : State). foldl (take_step row) u steps) (take_step_ended s step e) ∙ steps_ended s steps e

  -- a test alone
  pub tested_step_taken : (s : State) → take_step row s (tested_step []) ≡ (tested_of s.0, s.1)
  unfolding take_step tested_step tested_of emit_all
  tested_step_taken s = go (s.0.limit || leb s.0.stop s.0.count) (λ e. (or_false s.0.limit _ e).0)
    where
      limited : Bool → State
      limited b = (record { row = s.0.row; first = s.0.first; stop = s.0.stop; count = s.0.count; error = s.0.error; limit = b }, s.1)

      go : (b : Bool) → (b ≡ false → s.0.limit ≡ false) → cond b (limited true) s ≡ limited b
      go true f = refl
      go false f = ap limited (f refl)

  -- made twice in a row, as before a child and at the start of its row, it is one test
  test_twice : (s : State) → take_step row (tested_of s.0, s.1) (tested_step []) ≡ take_step row s (tested_step [])
  unfolding tested_of
  test_twice s = tested_step_taken (tested_of s.0, s.1) ∙ rw (or_twice s.0.limit (leb s.0.stop s.0.count)) (sym (tested_step_taken s))

  steps_tested : (s : State) {steps : List Step} → TestFirst steps → foldl (take_step row) (tested_of s.0, s.1) steps ≡ foldl (take_step row) s steps
  steps_tested s (begins rest) = ap (λ (u : State). foldl (take_step row) u rest) (test_twice s)

-- ---- after a row's own steps

-- the walk has ended, or goes on with the next row
module _ (n : ℕ) (s : State) where
  onward_ended : s.0.limit ≡ true → onward n s ≡ s
  unfolding onward
  onward_ended e = ap (λ (b : Bool). cond b s (moved_to (s.0.first + n) s.0, s.1)) e

  onward_going : s.0.limit ≡ false → onward n s ≡ (moved_to (s.0.first + n) s.0, s.1)
  unfolding onward
  onward_going e = ap (λ (b : Bool). cond b s (moved_to (s.0.first + n) s.0, s.1)) e

-- at most n rows further
record Moved (s t : State) (n : ℕ) : Type 0 where
  low : s.0.row ≤ t.0.row
  high : t.0.row ≤ s.0.row + n

module _ (table words : List ℕ) where
  -- ---- the next row

  abbrev steps_at : State → List Step
  steps_at s = proto_steps (proto_in table s.0.row (drop s.0.first (u32s words)))

  own_keeps : (s : State) → Kept s (own_steps table words s)
  unfolding own_steps
  own_keeps s = steps_keep s.0.row s (steps_at s)

  -- a test before it is the one at its start
  pub test_before : (s : State) → own_steps table words (tested_of s.0, s.1) ≡ own_steps table words s
  unfolding own_steps tested_of
  test_before s = steps_tested s.0.row s (proto_begins _)

  pub step_tested : (s : State) → step_row table words (tested_of s.0, s.1) ≡ step_row table words s
  unfolding step_row tested_of
  step_tested s = ap (onward (row_at table s.0.row).words) (test_before s)

  -- the row's own steps leave y: the walk has ended, or goes on with the row after it
  module _ (s y : State) (own : y ≡ own_steps table words s) where
    pub step_ended : y.0.limit ≡ true → step_row table words s ≡ y
    unfolding step_row
    step_ended e = ap (onward _) (sym own) ∙ onward_ended _ y e

    pub step_going : y.0.limit ≡ false → step_row table words s ≡ (moved_to (s.0.first + (row_at table s.0.row).words) y.0, y.1)
    unfolding step_row
    step_going e =
        ap (onward _) (sym own)
        ∙ onward_going _ y e
        ∙ ap (λ (n : ℕ). (moved_to (n + (row_at table s.0.row).words) y.0, y.1)) (ap (λ (u : State). u.0.first) own ∙ (own_keeps s).first)

  pub step_limited : (s : State) → s.0.limit ≡ true → step_row table words s ≡ s
  unfolding own_steps
  step_limited s e =
      let q : own_steps table words s ≡ s = steps_ended s.0.row s (steps_at s) e in
      step_ended s _ refl (ap (λ (u : State). u.0.limit) q ∙ e) ∙ q

  going_row : (s : State) → (own_steps table words s).0.limit ≡ false → (step_row table words s).0.row ≡ s.0.row + 1
  unfolding moved_to
  going_row s e = ap (λ (u : State). u.0.row) (step_going s _ refl e) ∙ ap (λ (n : ℕ). n + 1) (own_keeps s).row

  pub step_next : (s : State) → (step_row table words s).0.limit ≡ false → (step_row table words s).0.row ≡ s.0.row + 1
  step_next s h =
      either (own_steps table words s).0.limit
      (λ e. true≢false (sym e ∙ ap (λ (u : State). u.0.limit) (sym (step_ended s _ refl e)) ∙ h))
      (going_row s)

  step_most : (s : State) → (step_row table words s).0.row ≤ s.0.row + 1
  step_most s =
      either (own_steps table words s).0.limit
      (λ e. omega (arith, ap (λ (u : State). u.0.row) (step_ended s _ refl e), (own_keeps s).row))
      (λ e. omega (arith, going_row s e))

  -- ---- rows, while they are deeper

  pub walk_limited : (n d : ℕ) (s : State) → s.0.limit ≡ true → walk_for table words n d s ≡ s
  unfolding walk_for
  walk_limited zero d s e = refl
  walk_limited (suc n) d s e = rw (step_limited s e, walk_limited n d s e) (same (leb (row_at table s.0.row).depth d) s)

  -- the first of the rows was passed
  first_passed : (n d : ℕ) (s : State) → (walk_for table words n d (step_row table words s)).0.limit ≡ false → (step_row table words s).0.row ≡ s.0.row + 1
  first_passed n d s h =
      either (step_row table words s).0.limit
      (λ l. true≢false (sym l ∙ ap (λ (u : State). u.0.limit) (sym (walk_limited n d (step_row table words s) l)) ∙ h))
      (step_next s)

  moved : (n d : ℕ) (s : State) → (walk_for table words n d s).0.limit ≡ false → Moved s (walk_for table words n d s) n
  unfolding walk_for
  moved zero d s h = record { low = omega arith; high = omega arith }
  moved (suc n) d s h = go (leb (row_at table s.0.row).depth d) h (moved n d (step_row table words s))
    where
      next : State
      next = step_row table words s

      go : (b : Bool) → (cond b s (walk_for table words n d next)).0.limit ≡ false → ((walk_for table words n d next).0.limit ≡ false → Moved next (walk_for table words n d next) n)
          → Moved s (cond b s (walk_for table words n d next)) (suc n)
      go true h f = record { low = omega arith; high = omega arith }
      go false h f =
          let m = f h in
          let e : next.0.row ≡ s.0.row + 1 = first_passed n d s h in
          record { low = omega (arith, m.low); high = omega (arith, m.high) }

  -- ---- the first word of the next row

  pub step_begins : (s : State) → s.0.row < length table / row_bytes → Begins table s.0 → Begins table (step_row table words s).0
  unfolding moved_to
  step_begins s h b =
      let k = own_keeps s in
      let same_row : suc s.0.row ≡ (own_steps table words s).0.row + 1 = omega (arith, k.row) in
      either (own_steps table words s).0.limit
      (λ e. subst⁻¹ (λ (u : State). Begins table u.0) (step_ended s _ refl e) (k.first ∙ b ∙ ap (λ (n : ℕ). word_total (take n (rows table))) (sym k.row)))
      (λ e. subst⁻¹ (λ (u : State). Begins table u.0) (step_going s _ refl e)
      (ap (λ (n : ℕ). n + (row_at table s.0.row).words) b ∙ sym (words_next table s.0.row h) ∙ ap (λ (n : ℕ). word_total (take n (rows table))) same_row))

  pub walk_begins : (n d : ℕ) (s : State) → s.0.row + n ≤ length table / row_bytes → Begins table s.0 → Begins table (walk_for table words n d s).0
  unfolding walk_for
  walk_begins zero d s h b = b
  walk_begins (suc n) d s h b =
      by_cond (λ (u : State). Begins table u.0) (leb (row_at table s.0.row).depth d) s (walk_for table words n d (step_row table words s)) (λ t. b)
      (λ t. walk_begins n d (step_row table words s) (omega (arith, step_most s)) (step_begins s (omega arith) b))

  pub walk_to_begins : (d : ℕ) (s : State) → s.0.row ≤ length table / row_bytes → Begins table s.0 → Begins table (walk_to table words d s).0
  unfolding walk_to
  walk_to_begins d s h b = walk_begins (length table / row_bytes - s.0.row) d s (omega arith) b

  -- ---- the rows that are deeper, to the last

  -- there is none: the walk has ended, there is no next row, or it is not deeper
  pub stays : (d : ℕ) (s : State) → s.0.limit ≡ true → s ≡ walk_to table words d s
  unfolding walk_to
  stays d s l = sym (walk_limited (length table / row_bytes - s.0.row) d s l)

  pub walk_none : (d : ℕ) (s : State) → length table / row_bytes ≤ s.0.row → s ≡ walk_to table words d s
  unfolding walk_to walk_for
  walk_none d s h = let e : length table / row_bytes - s.0.row ≡ 0 = omega arith in sym (ap (λ (n : ℕ). walk_for table words n d s) e)

  pub walk_up : (d : ℕ) (s : State) → (row_at table s.0.row).depth ≤ d → s ≡ walk_to table words d s
  unfolding walk_to walk_for
  walk_up d s h = go (length table / row_bytes - s.0.row)
    where
      go : (n : ℕ) → s ≡ walk_for table words n d s
      go zero = refl
      go (suc n) = sym (ap (λ (b : Bool). cond b s (walk_for table words n d (step_row table words s))) (le-leb (row_at table s.0.row).depth d h))

  -- the first deeper row, and then the others
  walk_next : (d : ℕ) (s : State) → s.0.row < length table / row_bytes → d < (row_at table s.0.row).depth
      → walk_to table words d s ≡ walk_to table words d (step_row table words s)
  unfolding walk_to walk_for
  walk_next d s more h =
      let next = step_row table words s in
      let n = length table / row_bytes - (s.0.row + 1) in
      let one_more : length table / row_bytes - s.0.row ≡ suc n = omega arith in
      ap (λ (m : ℕ). walk_for table words m d s) one_more
      ∙ ap (λ (b : Bool). cond b s (walk_for table words n d next)) (lt-leb (row_at table s.0.row).depth d h)
      ∙ either next.0.limit
      (λ l. walk_limited n d next l ∙ stays d next l)
      (λ l. ap (λ (r : ℕ). walk_for table words (length table / row_bytes - r) d next) (sym (step_next s l)))

  -- first the rows deeper than d', and then the rows deeper than d
  split : (d d' : ℕ) → d ≤ d' → (n : ℕ) (s : State) → length table / row_bytes - s.0.row ≡ n → walk_to table words d s ≡ walk_to table words d (walk_for table words n d' s)
  unfolding walk_for
  split d d' le zero s e = refl
  split d d' le (suc n) s e =
      let next = step_row table words s in
      by_cond (λ (u : State). walk_to table words d s ≡ walk_to table words d u) (leb (row_at table s.0.row).depth d') s (walk_for table words n d' next) (λ t. refl)
      (λ t.
      walk_next d s (omega arith) (omega (arith, nleb→lt (row_at table s.0.row).depth d' t))
      ∙ either next.0.limit
      (λ l. ap (walk_to table words d) (sym (walk_limited n d' next l)))
      (λ l. split d d' le n next (omega (arith, step_next s l))))

  pub walk_split : (d d' : ℕ) (s : State) → d ≤ d' → walk_to table words d s ≡ walk_to table words d (walk_to table words d' s)
  unfolding walk_to
  walk_split d d' s le = split d d' le (length table / row_bytes - s.0.row) s refl

  -- ---- a row with those below it, and then the rest

  module _ (s : State) (there : s.0.row < length table / row_bytes) where
    pub part_moves : (e : ℕ) (y : State) → y ≡ walk_to table words e (step_row table words s) → y.0.limit ≡ false → (s.0.row < y.0.row) × (y.0.row ≤ length table / row_bytes)
    unfolding walk_to
    part_moves e y q l =
        let next = step_row table words s in
        let n = length table / row_bytes - next.0.row in
        let going : (walk_for table words n e next).0.limit ≡ false = ap (λ (u : State). u.0.limit) (sym q) ∙ l in
        let row : y.0.row ≡ (walk_for table words n e next).0.row = ap (λ (u : State). u.0.row) q in
        let m = moved n e next going in
        (omega (arith, m.low, first_passed n e s going), omega (arith, m.high, first_passed n e s going))

    pub part_begins : (e : ℕ) (y : State) → y ≡ walk_to table words e (step_row table words s) → Begins table s.0 → Begins table y.0
    part_begins e y q b =
        subst⁻¹ (λ (u : State). Begins table u.0) q (walk_to_begins e (step_row table words s) (omega (arith, step_most s)) (step_begins s there b))

    module _ (d : ℕ) (deeper : d < (row_at table s.0.row).depth) where
      pub walk_to_row : walk_to table words d s ≡ walk_to table words d (walk_to table words (row_at table s.0.row).depth (step_row table words s))
      walk_to_row = walk_next d s there deeper ∙ walk_split d (row_at table s.0.row).depth (step_row table words s) (omega arith)

      module _ (y : State) (part : y ≡ walk_to table words (row_at table s.0.row).depth (step_row table words s)) where
        pub rest : walk_to table words d y ≡ walk_to table words d s
        rest = ap (walk_to table words d) part ∙ sym walk_to_row

        pub ended_walk : y.0.limit ≡ true → y ≡ walk_to table words d s
        ended_walk l = stays d y l ∙ rest

  -- ---- `validate_proto`: its own steps leave y

  module _ (d : ℕ) (s y : State) (own : y ≡ own_steps table words s) where
    pub part_ended : y.0.limit ≡ true → y ≡ walk_to table words d (step_row table words s)
    part_ended l = stays d y l ∙ ap (walk_to table words d) (sym (step_ended s y own l))

    pub part_walked : y.0.limit ≡ false → (z : State) → z ≡ walk_to table words d (moved_to (s.0.first + (row_at table s.0.row).words) y.0, y.1)
        → z ≡ walk_to table words d (step_row table words s)
    part_walked l z e = e ∙ ap (walk_to table words d) (sym (step_going s y own l))

-- ---- whether the walk goes on

pub record More (table : List ℕ) (d : ℕ) (w : WalkState) : Type 0 where
  pub going : w.limit ≡ false
  pub there : w.row < length table / row_bytes
  pub deeper : d < (row_at table w.row).depth

pub more : (table : List ℕ) (d : ℕ) (w : WalkState) → goes_on table d w ≡ true → More table d w
unfolding goes_on
more table d w = go w.limit (ltb w.row (length table / row_bytes)) (ltb d (row_at table w.row).depth) refl refl refl
  where
    go : (l n t : Bool) → w.limit ≡ l → ltb w.row (length table / row_bytes) ≡ n → ltb d (row_at table w.row).depth ≡ t → not l && n && t ≡ true → More table d w
    go true n t e f g h = true≢false (sym h)
    go false false t e f g h = true≢false (sym h)
    go false true false e f g h = true≢false (sym h)
    go false true true e f g h = record { going = e; there = ltb-true _ _ f; deeper = ltb-true _ _ g }

pub no_more : (table words : List ℕ) (d : ℕ) (s : State) → goes_on table d s.0 ≡ false → s ≡ walk_to table words d s
unfolding goes_on
no_more table words d s = go s.0.limit (ltb s.0.row (length table / row_bytes)) (ltb d (row_at table s.0.row).depth) refl refl refl
  where
    go : (l n t : Bool) → s.0.limit ≡ l → ltb s.0.row (length table / row_bytes) ≡ n → ltb d (row_at table s.0.row).depth ≡ t → not l && n && t ≡ false
        → s ≡ walk_to table words d s
    go true n t e f g h = stays table words d s e
    go false false t e f g h = walk_none table words d s (ltb-false _ _ f)
    go false true false e f g h = walk_up table words d s (ltb-false _ _ g)
    go false true true e f g h = true≢false h

-- ---- `validate_children`: a test, and then the next row with those below it

module _ (table words : List ℕ) (d : ℕ) (s : State) (m : More table d s.0) where
  pub tested_ended : (tested_of s.0).limit ≡ true → (tested_of s.0, s.1) ≡ walk_to table words d s
  tested_ended l =
      ended_walk table words s m.there d m.deeper (tested_of s.0, s.1)
      (stays table words _ (tested_of s.0, s.1) l ∙ ap (walk_to table words _) (sym (step_limited table words (tested_of s.0, s.1) l) ∙ step_tested table words s))
      l

  module _ (y : State) (part : y ≡ walk_to table words (row_at table s.0.row).depth (step_row table words (tested_of s.0, s.1))) where
    untested : y ≡ walk_to table words (row_at table s.0.row).depth (step_row table words s)
    untested = part ∙ ap (walk_to table words _) (step_tested table words s)

    pub child_rest : walk_to table words d y ≡ walk_to table words d s
    child_rest = rest table words s m.there d m.deeper y untested

    pub child_ended : y.0.limit ≡ true → y ≡ walk_to table words d s
    child_ended l = ended_walk table words s m.there d m.deeper y untested l

    pub child_moves : y.0.limit ≡ false → (s.0.row < y.0.row) × (y.0.row ≤ length table / row_bytes)
    child_moves l = part_moves table words s m.there _ y untested l

    pub child_begins : Begins table s.0 → Begins table y.0
    child_begins b = part_begins table words s m.there _ y untested b
