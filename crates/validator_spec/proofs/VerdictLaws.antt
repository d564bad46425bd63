-- The walk and the verdict against the rules. Assumes nothing.
use Prim.Native.Nat.{ℕ, zero, suc, ◌+◌, ◌≤◌, ◌<◌}
use native.Mathlib.Nat.{add-zero, zero-add, add-suc, suc-add, not-suc-le-zero, le_of_suc-le-suc}
use native.Mathlib.Omega.{arith}
use mathlib.Core.Path.{◌≡◌, refl, sym, ◌∙◌, ap, subst, subst⁻¹}
use mathlib.Core.Logic.{◌↔◌, ◌⊎◌, inl, inr, ⊎_elim}
use mathlib.Core.Bool.{Bool, true, false, not, ◌&&◌, ◌||◌, cond, and-false, or-true}
use mathlib.Core.List.{List, [], ◌∷◌, ◌++◌, map, flat_map, flatten, foldl, append-nil}
use lib.Dec.{T, eqb, leb, ltb, ltb→lt}
use lib.ListN.{length, length-append, length-map}
use lib.IntN.{pos, negsuc}
use borrow.Author.Tests.{lt-leb, lt-ltb, le-ltb, eqb-false, ne_eqb}
use Rattle.base.specs.Lists.{All, all_nil, all_cons, only, up_from, select, keep_if, any, Some, here, there}
use Rattle.roles_spec.specs.Table.{Proto}
use Rattle.validator_spec.specs.Diagnostics.{Diagnostic, truncation_at, has_large_stack, stack_diagnostics, diagnostics_at, Step, tested_step, untested_step, proto_steps}
use Rattle.validator_spec.specs.Rules.{WellFormed}
use Rattle.validator_spec.specs.Walk.{RowDiagnostic, in_row, diagnostic_limit, Walk, start, count_n, advance, walk_row, walk_from, walk, Verdict, ValidForParser, Incomplete, Invalid, limit_reached, has_errors, verdict_of, error_in}
use Rattle.validator_spec.specs.Image.{Image, image_protos, image_walk, diagnostics, verdict}
use Rattle.validator_spec.specs.Statements.{large_stacks, IsError}
use Rattle.base.proofs.AllLaws.{all_append, all_left, all_right, all_head, all_tail, flatten_all, map_all, all_map, flat_map_all, flat_map_none, up_to_all, all_of, all_imp}
use Rattle.base.proofs.BoolLaws.{true≢false, or_false, by_or}
use Rattle.validator_spec.proofs.RuleDiagnosticLaws.{Warns, clean_well_formed, no_truncation, no_diagnostics}

abbrev RowWarns : RowDiagnostic → Type 0
RowWarns d = Warns d.diagnostic

-- ---- what a walk that was not ended and found no error has seen

record Clean (v : Walk) : Type 0 where
  going : v.ended ≡ false
  warns : All RowWarns v.found

abbrev CleanStep : Step → Type 0
CleanStep s = All Warns s.adds

advance_clean : (incoming row : ℕ) (v : Walk) (s : Step) → Clean (advance incoming row v s) → Clean v × CleanStep s
unfolding advance
advance_clean incoming row v s = go (v.ended || s.tested && leb diagnostic_limit (count_n incoming v)) refl
  where
    go : (b : Bool) → (v.ended || s.tested && leb diagnostic_limit (count_n incoming v)) ≡ b
        → Clean (cond b (record { found = v.found; ended = true }) (record { found = v.found ++ map (in_row row) s.adds; ended = false })) → Clean v × CleanStep s
    go true e c = true≢false c.going
    go false e c =
        (record { going = (or_false v.ended _ e).0; warns = all_left v.found _ c.warns }, map_all RowWarns (in_row row) s.adds (all_right v.found c.warns))

steps_clean : (incoming row : ℕ) (v : Walk) (ss : List Step) → Clean (foldl (advance incoming row) v ss) → Clean v × All CleanStep ss
steps_clean incoming row v [] c = (c, all_nil)
steps_clean incoming row v (s ∷ ss) c =
    let h = steps_clean incoming row (advance incoming row v s) ss c in
    let k = advance_clean incoming row v s h.0 in
    (k.0, all_cons k.1 h.1)

proto_clean : (p : Proto) → All CleanStep (proto_steps p) → WellFormed p
unfolding proto_steps tested_step
proto_clean p h =
    let pcs = up_from 0 (length p.code) in
    let steps = all_tail (flatten_all _ h) in
    clean_well_formed p
    (up_to_all (λ pc. All Warns (truncation_at p pc)) (length p.code)
    (flat_map_all Warns (truncation_at p) pcs (all_imp (λ d w. all_head w) (map_all CleanStep (λ d. tested_step (d ∷ [])) (flat_map (truncation_at p) pcs) (all_head steps)))))
    (up_to_all (λ pc. All Warns (diagnostics_at p pc)) (length p.code) (map_all CleanStep (λ pc. tested_step (diagnostics_at p pc)) pcs (all_head (all_tail (all_tail steps)))))

walk_clean : (incoming row : ℕ) (v : Walk) (all : List (List Step)) → Clean (walk_from incoming row v all) → Clean v × All (All CleanStep) all
unfolding walk_from walk_row
walk_clean incoming row v [] c = (c, all_nil)
walk_clean incoming row v (ss ∷ rest) c =
    let h = walk_clean incoming (suc row) (walk_row incoming row v ss) rest c in
    let k = steps_clean incoming row v ss h.0 in
    (k.0, all_cons k.1 h.1)

-- ---- the diagnostics of a word are one step

some_right : {A : Type 0} {P : A → Type 0} (xs : List A) {ys : List A} → Some P ys → Some P (xs ++ ys)
some_right [] s = s
some_right (x ∷ xs) s = there (some_right xs s)

some_left : {A : Type 0} {P : A → Type 0} {xs : List A} (ys : List A) → Some P xs → Some P (xs ++ ys)
some_left ys (here h) = here h
some_left ys (there s) = there (some_left ys s)

some_up_from : {A : Type 0} (f : ℕ → A) (i n k : ℕ) → k < n → Some (λ x. x ≡ f (i + k)) (map f (up_from i n))
some_up_from f i zero k h = absurd (not-suc-le-zero h)
some_up_from f i (suc n) zero h = here (ap f (sym (add-zero i)))
some_up_from f i (suc n) (suc k) h =
    subst (λ (m : ℕ). Some (λ x. x ≡ f m) (map f (up_from i (suc n)))) (suc-add i k ∙ sym (add-suc i k)) (there (some_up_from f (suc i) n k (le_of_suc-le-suc h)))

pub word_is_one_step : (p : Proto) (pc : ℕ) → pc < length p.code → Some (λ s. s ≡ tested_step (diagnostics_at p pc)) (proto_steps p)
unfolding proto_steps flatten
word_is_one_step p pc h =
    let pcs = up_from 0 (length p.code) in
    let word : ℕ → Step = λ at. tested_step (diagnostics_at p at) in
    let found : Some (λ s. s ≡ word pc) (map word pcs) = subst (λ (m : ℕ). Some (λ s. s ≡ word m) (map word pcs)) (zero-add pc) (some_up_from word 0 (length p.code) pc h) in
    there (some_right (map (λ d. tested_step (d ∷ [])) (flat_map (truncation_at p) pcs)) (there (some_left [] found)))

-- ---- a walk over well-formed prototypes

-- a step below the limit
pub advance_going : (incoming row : ℕ) (v : Walk) (s : Step) → v.ended ≡ false → count_n incoming v < diagnostic_limit
    → advance incoming row v s ≡ record { found = v.found ++ map (in_row row) s.adds; ended = false }
unfolding advance
advance_going incoming row v s e h = simp (e, lt-leb diagnostic_limit _ h, and-false)

pub advance_none : (incoming row : ℕ) (v : Walk) (s : Step) → v.ended ≡ false → count_n incoming v < diagnostic_limit → s.adds ≡ [] → advance incoming row v s ≡ v
advance_none incoming row v s e h q =
    advance_going incoming row v s e h ∙ rw (q, append-nil) (λ i. record { found = v.found; ended = sym e i })

-- steps that add nothing change nothing below the limit
quiet : (incoming row : ℕ) (v : Walk) (ss : List Step) → v.ended ≡ false → count_n incoming v < diagnostic_limit → All (λ s. s.adds ≡ []) ss
    → foldl (advance incoming row) v ss ≡ v
quiet incoming row v [] e h q = refl
quiet incoming row v (s ∷ ss) e h (all_cons q qs) =
    ap (λ (u : Walk). foldl (advance incoming row) u ss) (advance_none incoming row v s e h q) ∙ quiet incoming row v ss e h qs

large_cons : (p : Proto) (ps : List Proto) → large_stacks (p ∷ ps) ≡ length (stack_diagnostics p) + large_stacks ps
unfolding large_stacks stack_diagnostics only
large_cons p ps = go (has_large_stack p) (record { pc = negsuc 0; code = 3; value = pos p.stack }) (select has_large_stack ps)
  where
    go : (b : Bool) (d : Diagnostic) (qs : List Proto) → length (keep_if b p qs) ≡ length (only b d) + length qs
    go true d qs = omega arith
    go false d qs = omega arith

stack_warns : (p : Proto) → All Warns (stack_diagnostics p)
unfolding stack_diagnostics only
stack_warns p = go (has_large_stack p)
  where
    go : (b : Bool) → All Warns (only b (record { pc = negsuc 0; code = 3; value = pos p.stack }))
    go true = all_cons tt all_nil
    go false = all_nil

-- the walk after a well-formed prototype
abbrev after : ℕ → Walk → Proto → Walk
after row v p = record { found = v.found ++ map (in_row row) (stack_diagnostics p); ended = false }

length_after : (row : ℕ) (v : Walk) (p : Proto) → length (after row v p).found ≡ length v.found + length (stack_diagnostics p)
length_after row v p = simp (length-append, length-map)

well_formed_steps : (p : Proto) → WellFormed p → proto_steps p ≡ tested_step [] ∷ untested_step (stack_diagnostics p) ∷ map (λ pc. tested_step (diagnostics_at p pc)) (up_from 0 (length p.code))
unfolding proto_steps flatten
well_formed_steps p k =
    let whole : flat_map (truncation_at p) (up_from 0 (length p.code)) ≡ [] = flat_map_none (truncation_at p) (all_of (no_truncation p k) _) in
    rw (whole, append-nil)

proto_kept : (incoming row : ℕ) (v : Walk) (p : Proto) → WellFormed p → v.ended ≡ false → count_n incoming v + length (stack_diagnostics p) < diagnostic_limit
    → walk_row incoming row v (proto_steps p) ≡ after row v p
unfolding walk_row tested_step untested_step
proto_kept incoming row v p k e h =
    let pcs = up_from 0 (length p.code) in
    let words : List Step = map (λ pc. tested_step (diagnostics_at p pc)) pcs in
    ap (λ (ss : List Step). foldl (advance incoming row) v ss) (well_formed_steps p k)
    ∙ ap (λ (u : Walk). foldl (advance incoming row) u (untested_step (stack_diagnostics p) ∷ words)) (advance_none incoming row v (tested_step []) e (omega arith) refl)
    ∙ ap (λ (u : Walk). foldl (advance incoming row) u words) (advance_going incoming row v (untested_step (stack_diagnostics p)) e (omega arith))
    ∙ quiet incoming row (after row v p) words refl (omega (arith, length_after row v p))
    (all_map (λ s. s.adds ≡ []) (λ pc. tested_step (diagnostics_at p pc)) (all_of (no_diagnostics p k) pcs))

-- a clean walk below the limit
record Good (incoming : ℕ) (v : Walk) : Type 0 where
  clean : Clean v
  below : count_n incoming v < diagnostic_limit

walk_kept : (incoming row : ℕ) (v : Walk) (ps : List Proto) → All WellFormed ps → Clean v → count_n incoming v + large_stacks ps < diagnostic_limit
    → Good incoming (walk_from incoming row v (map proto_steps ps))
unfolding walk_from
walk_kept incoming row v [] all_nil c h = record { clean = c; below = omega arith }
walk_kept incoming row v (p ∷ ps) (all_cons k ks) c h =
    subst⁻¹ (λ (u : Walk). Good incoming (walk_from incoming (suc row) u (map proto_steps ps))) (proto_kept incoming row v p k c.going (omega (arith, large_cons p ps)))
    (walk_kept incoming (suc row) (after row v p) ps ks
    (record { going = refl; warns = all_append c.warns (all_map RowWarns (in_row row) (stack_warns p)) })
    (omega (arith, large_cons p ps, length_after row v p)))

-- ---- the verdict

no_error : (ds : List RowDiagnostic) → any error_in ds ≡ false → All RowWarns ds
no_error [] e = all_nil
no_error (d ∷ ds) e = go (error_in d) refl (no_error ds) e
  where
    go : (b : Bool) → error_in d ≡ b → (any error_in ds ≡ false → All RowWarns ds) → (b || any error_in ds) ≡ false → All RowWarns (d ∷ ds)
    go true q f e = true≢false e
    go false q f e = all_cons {x = d} (rw q tt) (f e)

error_none : {ds : List RowDiagnostic} → All RowWarns ds → any error_in ds ≡ false
error_none all_nil = refl
error_none (all_cons {x} {xs} h t) = go (error_in x) h (error_none t)
  where
    go : (b : Bool) → T (not b) → any error_in xs ≡ false → (b || any error_in xs) ≡ false
    go true h e = absurd h
    go false h e = e

abbrev IsValid : Verdict → Type 0
IsValid ValidForParser = Unit {0}
IsValid Incomplete = ⊥
IsValid Invalid = ⊥

valid_tests : (e l : Bool) → verdict_of e l ≡ ValidForParser → (e ≡ false) × (l ≡ false)
unfolding verdict_of
valid_tests true l q = absurd (subst⁻¹ IsValid q tt)
valid_tests false true q = absurd (subst⁻¹ IsValid q tt)
valid_tests false false q = (refl, refl)

-- ValidForParser, whatever came in: every prototype is well formed
pub valid_well_formed : (i : Image) → verdict i ≡ ValidForParser → All WellFormed (image_protos i)
unfolding verdict has_errors limit_reached image_walk walk
valid_well_formed i e =
    let v = image_walk i in
    let ps = image_protos i in
    let t = valid_tests (has_errors i.errors v) (limit_reached (i.warnings + i.errors) v) e in
    let c : Clean v = record { going = (or_false v.ended _ t.1).0; warns = no_error v.found (or_false (ltb 0 i.errors) _ t.0).1 } in
    all_imp proto_clean (map_all (All CleanStep) proto_steps ps (walk_clean (i.warnings + i.errors) 0 start (map proto_steps ps) c).1)

-- the other way round: with no incoming error, and incoming warnings and large stacks together below the limit
pub well_formed_valid : (i : Image) → i.errors ≡ 0 → i.warnings + large_stacks (image_protos i) < diagnostic_limit → All WellFormed (image_protos i) → verdict i ≡ ValidForParser
unfolding verdict verdict_of has_errors limit_reached image_walk walk
well_formed_valid i none h k =
    let incoming = i.warnings + i.errors in
    let g = walk_kept incoming 0 start (image_protos i) k (record { going = refl; warns = all_nil }) (omega arith) in
    let below : count_n incoming (image_walk i) ≤ diagnostic_limit = omega (arith, g.below) in
    let e : ltb 0 i.errors ≡ false = le-ltb 0 i.errors (omega arith) in
    rw (e, error_none g.clean.warns, g.clean.going, le-ltb diagnostic_limit _ below)

abbrev IsInvalid : Verdict → Type 0
IsInvalid ValidForParser = ⊥
IsInvalid Incomplete = ⊥
IsInvalid Invalid = Unit {0}

invalid_tests : (e l : Bool) → verdict_of e l ≡ Invalid → T e
unfolding verdict_of
invalid_tests true l q = tt
invalid_tests false true q = subst⁻¹ IsInvalid q tt
invalid_tests false false q = subst⁻¹ IsInvalid q tt

some_error : (ds : List RowDiagnostic) → T (any error_in ds) → Some IsError ds
some_error [] t = absurd t
some_error (d ∷ ds) t = go (eqb d.diagnostic.code 3) refl (some_error ds) t
  where
    go : (b : Bool) → eqb d.diagnostic.code 3 ≡ b → (T (any error_in ds) → Some IsError ds) → T (not b || any error_in ds) → Some IsError (d ∷ ds)
    go true q f t = there (f t)
    go false q f t = here (eqb-false _ 3 q)

error_some : {ds : List RowDiagnostic} → Some IsError ds → any error_in ds ≡ true
error_some (here {x} {xs} e) = rw (ne_eqb x.diagnostic.code 3 e)
error_some (there {x} {xs} s) = rw (error_some s) (or-true (error_in x))

-- Invalid: errors that came in, or one among the diagnostics
pub invalid_iff : (i : Image) → (verdict i ≡ Invalid) ↔ ((0 < i.errors) ⊎ Some IsError (diagnostics i))
unfolding verdict verdict_of has_errors diagnostics
invalid_iff i =
    let v = image_walk i in (
      λ e. by_or (ltb 0 i.errors) (any error_in v.found) (λ t. inl (ltb→lt 0 i.errors t)) (λ t. inr (some_error v.found t)) (invalid_tests (has_errors i.errors v) _ e),
      ⊎_elim (λ h. rw (lt-ltb 0 i.errors h)) (λ s. rw (error_some s, or-true)),
    )
