-- The walk of the code's steps, over a state and a buffer, is the image's walk. Assumes nothing.
use Rattle.std.proofs.Common.{◌≡◌, ℕ, zero, suc, ◌+◌, ◌-◌, ◌*◌, ◌/◌, ◌^◌, ◌<◌, ◌≤◌, Bool, true, false, cond, ◌&&◌, ◌||◌, leb, ◌⊎◌, List, [], ◌∷◌, ◌++◌, map, length, take, drop, sym, refl, ap, ◌∙◌, subst, ap₂, inl, inr, ⊎_elim, append_assoc, append-nil, mod-eq_of_lt, zero-add, arith, length-append, drop_of_length-le, drop-drop, le-leb, leb-false, leb-true}
use mathlib.Core.Path.{subst⁻¹}
use mathlib.Core.List.{flat_map, foldl}
use mathlib.Core.Option.{none}
use borrow.Author.Tests.{lt-leb}
use Rattle.base.specs.Bytes.{u32s, u32_record, i32_bits, i32_record, overwrite}
use Rattle.base.specs.Lists.{All, all_nil, all_cons, any}
use Rattle.roles_spec.specs.Table.{Row, row_bytes, row_at, rows, protos_of, protos, proto_in}
use Rattle.roles_spec.specs.Refusals.{word_total, bad_depth, image_refusal}
use Rattle.validator_spec.specs.Diagnostics.{Diagnostic, is_error, Step, proto_steps}
use Rattle.validator_spec.specs.Walk.{RowDiagnostic, in_row, diagnostic_limit, Walk, start, count_n, advance, walk_row, walk_from, walk, limit_reached, has_errors, diagnostic_fields, diagnostic_bytes, error_in}
use Rattle.validator_spec.specs.Image.{Image, image_protos, image_walk, diagnostics, verdict}
use Rattle.validator_spec.specs.Check.{checked}
use Rattle.validator.specs.Steps.{State, emitted, emit, emit_all, ended, take_step, moved_to, own_steps, onward, step_row, walk_for, walk_to, written, Walked}
use Rattle.validator.specs.Terms.{concluded}
use Rattle.base.proofs.BoolLaws.{or_false, by_cond}
use Rattle.base.proofs.AllLaws.{all_head, all_tail}
use Rattle.roles_spec.proofs.TableLaws.{length_rows, drop_rows}
use Rattle.roles_spec.proofs.TotalLaws.{words_next}
use Rattle.roles_spec.proofs.RefusalLaws.{depth_kept, image_kept}
use Rattle.validator_spec.proofs.TreeLaws.{advance_ended}
use Rattle.validator_spec.proofs.LimitLaws.{at_most}
use Rattle.validator.proofs.RowStepLaws.{walk_limited}
use Rattle.validator.proofs.DiagnosticBufferLaws.{written_append, written_fits}

-- the state and the buffer match a walk of the definitions, in row `row` whose words begin at `first`
pub record Matches (incoming row first : ℕ) (old : List ℕ) (v : Walk) (s : State) : Type 0 where
  pub row_is : s.0.row ≡ row
  pub first_is : s.0.first ≡ first
  pub stop : s.0.stop ≡ diagnostic_limit - incoming
  pub count : s.0.count ≡ length v.found
  pub error : s.0.error ≡ any error_in v.found
  pub limit : s.0.limit ≡ v.ended
  pub buffer : s.1 ≡ written 0 v.found old

-- ---- a diagnostic

any_next : {A : Type 0} (f : A → Bool) (xs : List A) (x : A) → any f (xs ++ (x ∷ [])) ≡ any f xs || f x
any_next f [] x = go (f x)
  where
    go : (b : Bool) → (b || false) ≡ b
    go true = refl
    go false = refl
any_next f (y ∷ ys) x = go (f y) (any_next f ys x)
  where
    go : (b : Bool) → any f (ys ++ (x ∷ [])) ≡ any f ys || f x → (b || any f (ys ++ (x ∷ []))) ≡ (b || any f ys || f x)
    go true e = refl
    go false e = e

-- the record of a diagnostic
record_fields : (row : ℕ) (d : Diagnostic) → u32_record (row ∷ i32_bits d.pc ∷ d.code ∷ i32_bits d.value ∷ []) ≡ i32_record (diagnostic_fields (in_row row d))
unfolding i32_record diagnostic_fields i32_bits
record_fields row d = refl

module _ (incoming row first : ℕ) (old : List ℕ) where
  -- one diagnostic of the row, and several
  pub emit_matches : (v : Walk) (s : State) (d : Diagnostic) → Matches incoming row first old v s → suc (length v.found) < 2 ^ 32
      → Matches incoming row first old (record { found = v.found ++ (in_row row d ∷ []); ended = v.ended }) (emit row s d)
  unfolding emit emitted written
  emit_matches v s d m few =
      record {
        row_is = m.row_is;
        first_is = m.first_is;
        stop = m.stop;
        count = mod-eq_of_lt (omega (arith, m.count)) ∙ omega (arith, m.count, length-append v.found (in_row row d ∷ []));
        error = ap (λ (b : Bool). b || is_error d) m.error ∙ sym (any_next error_in v.found (in_row row d));
        limit = m.limit;
        buffer =
            ap₂ (λ (l : List ℕ) (n : ℕ). overwrite l (diagnostic_bytes * n) (u32_record (row ∷ i32_bits d.pc ∷ d.code ∷ i32_bits d.value ∷ []))) m.buffer (m.count ∙ sym (zero-add (length v.found)))
            ∙ ap (overwrite (written 0 v.found old) (diagnostic_bytes * (0 + length v.found))) (record_fields row d)
            ∙ sym (written_append 0 v.found (in_row row d ∷ []) old);
      }

  pub emit_all_matches : (ds : List Diagnostic) (v : Walk) (s : State) → Matches incoming row first old v s → length (v.found ++ map (in_row row) ds) < 2 ^ 32
      → Matches incoming row first old (record { found = v.found ++ map (in_row row) ds; ended = v.ended }) (emit_all row ds s)
  unfolding emit_all
  emit_all_matches [] v s m few = subst⁻¹ (λ (l : List RowDiagnostic). Matches incoming row first old (record { found = l; ended = v.ended }) s) (append-nil v.found) m
  emit_all_matches (d ∷ ds) v s m few =
      let e = append_assoc v.found (in_row row d ∷ []) (map (in_row row) ds) in
      subst (λ (l : List RowDiagnostic). Matches incoming row first old (record { found = l; ended = v.ended }) (emit_all row ds (emit row s d))) e
      (emit_all_matches ds _ (emit row s d)
      (emit_matches v s d m (omega (arith, length-append v.found (map (in_row row) (d ∷ ds)))))
      (subst⁻¹ (λ (l : List RowDiagnostic). length l < 2 ^ 32) e few))

-- ---- a step

-- the test of N, by the count alone
stop_test : (incoming n : ℕ) → leb (diagnostic_limit - incoming) n ≡ leb diagnostic_limit (incoming + n)
stop_test incoming n = go (leb diagnostic_limit (incoming + n)) refl
  where
    go : (b : Bool) → leb diagnostic_limit (incoming + n) ≡ b → leb (diagnostic_limit - incoming) n ≡ b
    go true e = let h = leb-true diagnostic_limit (incoming + n) e in le-leb (diagnostic_limit - incoming) n (omega arith)
    go false e = let h = leb-false diagnostic_limit (incoming + n) e in lt-leb (diagnostic_limit - incoming) n (omega arith)

module _ (incoming row first : ℕ) (old : List ℕ) where
  -- the step either ends the walk in both or adds the same to both
  pub take_step_matches : (v : Walk) (s : State) (step : Step) → Matches incoming row first old v s → length (advance incoming row v step).found < 2 ^ 32
      → Matches incoming row first old (advance incoming row v step) (take_step row s step)
  unfolding advance take_step
  take_step_matches v s step m few =
      let same : (s.0.limit || step.tested && leb s.0.stop s.0.count) ≡ (v.ended || step.tested && leb diagnostic_limit (count_n incoming v)) =
      ap₂ (λ (a b : Bool). a || step.tested && b) m.limit (ap₂ leb m.stop m.count ∙ stop_test incoming (length v.found)) in
      subst⁻¹ (λ (b : Bool). Matches incoming row first old (advance incoming row v step) (cond b (ended s.0, s.1) (emit_all row step.adds s))) same
      (go (v.ended || step.tested && leb diagnostic_limit (count_n incoming v)) refl few)
    where
      more : Bool → Walk
      more b = record { found = v.found ++ map (in_row row) step.adds; ended = b }

      go : (b : Bool) → (v.ended || step.tested && leb diagnostic_limit (count_n incoming v)) ≡ b
          → length (cond b (record { found = v.found; ended = true }) (more false)).found < 2 ^ 32
          → Matches incoming row first old (cond b (record { found = v.found; ended = true }) (more false)) (cond b (ended s.0, s.1) (emit_all row step.adds s))
      go true e few =
          record { row_is = m.row_is; first_is = m.first_is; stop = m.stop; count = m.count; error = m.error; limit = refl; buffer = m.buffer }
      go false e few =
          subst (λ (b : Bool). Matches incoming row first old (more b) (emit_all row step.adds s)) (or_false v.ended _ e).0
          (emit_all_matches incoming row first old step.adds v s m few)

-- ---- what was found stays

step_grows : (incoming row : ℕ) (v : Walk) (step : Step) → length v.found ≤ length (advance incoming row v step).found
unfolding advance
step_grows incoming row v step =
    by_cond (λ (u : Walk). length v.found ≤ length u.found) (v.ended || step.tested && leb diagnostic_limit (count_n incoming v)) _ _ (λ _. omega arith)
    (λ _. omega (arith, length-append v.found (map (in_row row) step.adds)))

steps_grow : (incoming row : ℕ) (v : Walk) (steps : List Step) → length v.found ≤ length (foldl (advance incoming row) v steps).found
steps_grow incoming row v [] = omega arith
steps_grow incoming row v (step ∷ steps) = omega (arith, step_grows incoming row v step, steps_grow incoming row (advance incoming row v step) steps)

rows_grow : (incoming row : ℕ) (v : Walk) (all : List (List Step)) → length v.found ≤ length (walk_from incoming row v all).found
unfolding walk_from walk_row
rows_grow incoming row v [] = omega arith
rows_grow incoming row v (steps ∷ all) = omega (arith, steps_grow incoming row v steps, rows_grow incoming (suc row) (walk_row incoming row v steps) all)

-- the steps of a row
pub steps_match : (incoming row first : ℕ) (old : List ℕ) (steps : List Step) (v : Walk) (s : State) → Matches incoming row first old v s → length (walk_row incoming row v steps).found < 2 ^ 32
    → Matches incoming row first old (walk_row incoming row v steps) (foldl (take_step row) s steps)
unfolding walk_row
steps_match incoming row first old [] v s m few = m
steps_match incoming row first old (step ∷ steps) v s m few =
    let next = advance incoming row v step in
    steps_match incoming row first old steps next (take_step row s step)
    (take_step_matches incoming row first old v s step m (omega (arith, steps_grow incoming row next steps))) few

-- ---- once ended, nothing changes

foldl_stays : {A B : Type 0} (f : B → A → B) (z : B) → ((x : A) → f z x ≡ z) → (xs : List A) → foldl f z xs ≡ z
foldl_stays f z h [] = refl
foldl_stays f z h (x ∷ xs) = ap (λ y. foldl f y xs) (h x) ∙ foldl_stays f z h xs

rows_ended : (incoming row : ℕ) (v : Walk) (all : List (List Step)) → v.ended ≡ true → walk_from incoming row v all ≡ v
unfolding walk_from walk_row
rows_ended incoming row v [] e = refl
rows_ended incoming row v (steps ∷ all) e =
    ap (λ (u : Walk). walk_from incoming (suc row) u all) (foldl_stays (advance incoming row) v (λ step. advance_ended incoming row v step e) steps)
    ∙ rows_ended incoming (suc row) v all e

-- ---- rows

-- all rows after row 0 are deeper than it
deep : (most : ℕ) (rs : List Row) → bad_depth 1 most rs ≡ none → All (λ (r : Row). 0 < r.depth) rs
deep most [] e = all_nil
deep most (r ∷ rs) e = let k = depth_kept 1 most r rs e in all_cons k.low (deep (suc r.depth) rs k.later)

module _ (i : Image) (old : List ℕ) where
  abbrev incoming : ℕ
  incoming = i.warnings + i.errors

  -- the words of row k begin here
  abbrev first_of : ℕ → ℕ
  first_of k = word_total (take k (rows i.table))

  -- the steps of row k, and those of the rows from it on
  abbrev own : ℕ → List Step
  own k = proto_steps (proto_in i.table k (drop (first_of k) (u32s i.words)))

  abbrev later : ℕ → List (List Step)
  later k = map proto_steps (protos_of (drop k (rows i.table)) (drop (first_of k) (u32s i.words)))

  later_next : (k : ℕ) → k < length i.table / row_bytes → later k ≡ own k ∷ later (suc k)
  unfolding protos_of proto_in
  later_next k h =
      let r = row_at i.table k in
      let rest = drop (suc k) (rows i.table) in
      let words = drop (first_of k) (u32s i.words) in
      ap (λ (rs : List Row). map proto_steps (protos_of rs words)) (drop_rows i.table k h)
      ∙ ap (λ (l : List ℕ). own k ∷ map proto_steps (protos_of rest l)) (drop-drop r.words (first_of k) (u32s i.words) ∙ ap (λ (n : ℕ). drop n (u32s i.words)) (sym (words_next i.table k h)))

  later_none : (k : ℕ) → length i.table / row_bytes ≤ k → later k ≡ []
  unfolding protos_of
  later_none k h =
      ap (λ (rs : List Row). map proto_steps (protos_of rs (drop (first_of k) (u32s i.words)))) (drop_of_length-le (rows i.table) {i = k} (omega (arith, length_rows i.table)))

  -- the walk is at row k
  record Arrives (k : ℕ) (v : Walk) (s : State) : Type 0 where
    matches : Matches incoming k (first_of k) old v s
    rest : walk_from incoming k v (later k) ≡ image_walk i

  -- or has ended
  record Done (s : State) : Type 0 where
    limit : s.0.limit ≡ true
    walked : Walked i old s

  -- with no row left
  all_walked : (row first : ℕ) (v : Walk) (s : State) → Matches incoming row first old v s → v ≡ image_walk i → Walked i old s
  all_walked row first v s m e =
      let n = subst (λ (u : Walk). Matches incoming row first old u s) e m in
      record { count = n.count; error = n.error; limit = n.limit; buffer = n.buffer }

  -- one row less is left after its steps
  rest_next : (k : ℕ) (v : Walk) (s : State) → k < length i.table / row_bytes → Arrives k v s → walk_from incoming (suc k) (walk_row incoming k v (own k)) (later (suc k)) ≡ image_walk i
  unfolding walk_from
  rest_next k v s h a = ap (walk_from incoming k v) (sym (later_next k h)) ∙ a.rest

  -- an ended walk goes no further
  done_walked : (n d : ℕ) (s : State) → Done s → Walked i old (walk_for i.table i.words n d s)
  done_walked n d s e = subst⁻¹ (Walked i old) (walk_limited i.table i.words n d s e.limit) e.walked

  module _ (accepted : image_refusal i.table i.words ≡ none) where
    -- row k's own steps: what they find is among all that is found, so the count fits
    own_match : (k : ℕ) (v : Walk) (s : State) → k < length i.table / row_bytes → Arrives k v s → Matches incoming k (first_of k) old (walk_row incoming k v (own k)) (own_steps i.table i.words s)
    unfolding own_steps diagnostics
    own_match k v s h a =
        let m = a.matches in
        let v' = walk_row incoming k v (own k) in
        let few : length v'.found < 2 ^ 32 =
        omega (arith, rows_grow incoming (suc k) v' (later (suc k)), ap (λ (u : Walk). length u.found) (rest_next k v s h a), at_most i accepted) in
        let same : own_steps i.table i.words s ≡ foldl (take_step k) s (own k) =
        ap₂ (λ (r f : ℕ). foldl (take_step r) s (proto_steps (proto_in i.table r (drop f (u32s i.words))))) m.row_is m.first_is in
        subst⁻¹ (Matches incoming k (first_of k) old v') same (steps_match incoming k (first_of k) old (own k) v s m few)

    -- and on to the next row, unless they ended the walk
    row_walked : (k : ℕ) (v : Walk) (s : State) → k < length i.table / row_bytes → Arrives k v s
        → Done (step_row i.table i.words s) ⊎ Arrives (suc k) (walk_row incoming k v (own k)) (step_row i.table i.words s)
    unfolding step_row onward moved_to
    row_walked k v s h a = go (own_steps i.table i.words s).0.limit refl
      where
        t : State
        t = own_steps i.table i.words s

        v' : Walk
        v' = walk_row incoming k v (own k)

        m : Matches incoming k (first_of k) old v' t
        m = own_match k v s h a

        next : Bool → State
        next b = cond b t (moved_to (t.0.first + (row_at i.table s.0.row).words) t.0, t.1)

        go : (b : Bool) → t.0.limit ≡ b → Done (next b) ⊎ Arrives (suc k) v' (next b)
        go true e =
            inl (record { limit = e; walked = all_walked k (first_of k) v' t m (sym (rows_ended incoming (suc k) v' (later (suc k)) (sym m.limit ∙ e)) ∙ rest_next k v s h a) })
        go false e =
            inr (
            record {
              matches = record {
                row_is = omega (arith, m.row_is);
                first_is = ap₂ (λ (f r : ℕ). f + (row_at i.table r).words) m.first_is a.matches.row_is ∙ sym (words_next i.table k h);
                stop = m.stop;
                count = m.count;
                error = m.error;
                limit = m.limit;
                buffer = m.buffer;
              };
              rest = rest_next k v s h a;
            }
            )

    -- the rows from k on
    rows_walked : (n k : ℕ) (v : Walk) (s : State) → k + n ≡ length i.table / row_bytes → All (λ (r : Row). 0 < r.depth) (drop k (rows i.table)) → Arrives k v s
        → Walked i old (walk_for i.table i.words n 0 s)
    unfolding walk_for walk_from
    rows_walked zero k v s e d a = all_walked k (first_of k) v s a.matches (ap (walk_from incoming k v) (sym (later_none k (omega arith))) ∙ a.rest)
    rows_walked (suc n) k v s e d a =
        let h : k < length i.table / row_bytes = omega arith in
        let ds = subst (All (λ (r : Row). 0 < r.depth)) (drop_rows i.table k h) d in
        let test : leb (row_at i.table s.0.row).depth 0 ≡ false =
        ap (λ (r : ℕ). leb (row_at i.table r).depth 0) a.matches.row_is ∙ lt-leb (row_at i.table k).depth 0 (all_head ds) in
        let s' = step_row i.table i.words s in
        subst⁻¹ (λ (b : Bool). Walked i old (cond b s (walk_for i.table i.words n 0 s'))) test
        (⊎_elim (done_walked n 0 s') (λ b. rows_walked n (suc k) (walk_row incoming k v (own k)) s' (omega arith) (all_tail ds) b) (row_walked k v s h a))

-- the state before row 0, and the buffer
abbrev pub begun : ℕ → List ℕ → State
begun incoming old = (record { row = 0; first = 0; stop = diagnostic_limit - incoming; count = 0; error = false; limit = false }, old)

start_arrives : (i : Image) (old : List ℕ) → Arrives i old 0 start (begun (i.warnings + i.errors) old)
unfolding written word_total image_walk image_protos protos walk
start_arrives i old =
    record { matches = record { row_is = refl; first_is = refl; stop = refl; count = refl; error = refl; limit = refl; buffer = refl }; rest = refl }

-- row 0, and then all others, since they are deeper
pub image_walked : (i : Image) (old : List ℕ) → image_refusal i.table i.words ≡ none
    → Walked i old (walk_to i.table i.words (row_at i.table 0).depth (step_row i.table i.words (begun (i.warnings + i.errors) old)))
unfolding walk_to
image_walked i old accepted =
    let table = i.table in
    let kept = image_kept table i.words accepted in
    let h : 0 < length table / row_bytes = omega (arith, kept.some_row, kept.whole_rows) in
    let depths = depth_kept 0 0 (row_at table 0) (drop 1 (rows table)) (ap (bad_depth 0 0) (sym (drop_rows table 0 h)) ∙ kept.depths) in
    let zero-depth : (row_at table 0).depth ≡ 0 = omega (arith, depths.high) in
    let s = step_row table i.words (begun (i.warnings + i.errors) old) in
    subst⁻¹ (λ (d : ℕ). Walked i old (walk_for table i.words (length table / row_bytes - s.0.row) d s)) zero-depth
    (⊎_elim (done_walked i old _ 0 s)
    (λ a. rows_walked i old accepted _ 1 _ s (omega (arith, a.matches.row_is)) (deep _ (drop 1 (rows table)) depths.later) a)
    (row_walked i old accepted 0 start (begun (i.warnings + i.errors) old) h (start_arrives i old)))

-- ---- the end of the call

module _ (i : Image) (old : List ℕ) (s : State) (w : Walked i old s) where
  -- all records fit, or not even one
  pub walked_fits : diagnostic_bytes * length (diagnostics i) ≤ length old → s.1 ≡ overwrite old 0 (i32_record (flat_map diagnostic_fields (diagnostics i)))
  unfolding diagnostics
  walked_fits h = w.buffer ∙ written_fits (image_walk i).found old h

  pub walked_concluded : concluded i.warnings i.errors s.0 ≡ checked i
  unfolding concluded checked verdict has_errors limit_reached diagnostics
  walked_concluded = rw (w.count, w.error, w.limit)

  pub walked_empty : s.0.count ≡ 0 → diagnostics i ≡ []
  unfolding diagnostics
  walked_empty e = no_length (image_walk i).found (sym w.count ∙ e)
    where
      no_length : (ds : List RowDiagnostic) → length ds ≡ 0 → ds ≡ []
      no_length [] e = refl
      no_length (d ∷ ds) e = absurd (omega arith)
