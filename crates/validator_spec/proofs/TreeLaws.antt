-- The walk row by row is the walk by prototypes and their children, as luad's `validate_proto` goes: a prototype's own steps, then each child with a test
-- of N before it. Assumes nothing.
use Prim.Native.Nat.{ℕ, zero, suc, ◌+◌, ◌-◌, ◌≤◌, ◌<◌}
use native.Mathlib.Nat.{add-zero, add-suc, suc-add}
use native.Mathlib.Omega.{arith}
use mathlib.Core.Path.{◌≡◌, refl, sym, ◌∙◌, ap, subst}
use mathlib.Core.Bool.{Bool, true, false, ◌||◌}
use mathlib.Core.List.{List, [], ◌∷◌, ◌++◌, map, foldl, flatten}
use mathlib.Core.Option.{none}
use lib.Dec.{leb, ltb}
use lib.ListN.{length, take, drop, get_or, drop_of_length-le, length-append, length-map, length-drop}
use lib.Seq.{take-add, take-length, length-take-le, drop-cons, drop-drop, drop-nil}
use borrow.Author.Tests.{leb-false, ltb-true, ltb-false}
use Rattle.base.specs.Lists.{All, go_on_if}
use Rattle.base.specs.Bytes.{u32s}
use Rattle.roles_spec.specs.Table.{Row, row_at, rows, below, children, Proto, protos_of, protos}
use Rattle.roles_spec.specs.Refusals.{bad_depth, image_refusal}
use Rattle.validator_spec.specs.Diagnostics.{Step, tested_step, proto_steps}
use Rattle.validator_spec.specs.Walk.{Walk, diagnostic_limit, count_n, start, advance, walk_row, walk_from, walk}
use Rattle.validator_spec.specs.Image.{Image, image_protos, image_walk}
use Rattle.validator_spec.specs.Statements.{walk_proto, walk_by_children}
use Rattle.base.proofs.BoolLaws.{or_false}
use Rattle.base.proofs.AllLaws.{all_at, all_of, all_map}
use Rattle.roles_spec.proofs.TableLaws.{length_rows, drop_rows, below_end, below_next, below_split, children_end, children_found, children_deeper, length_protos_of}
use Rattle.roles_spec.proofs.RefusalLaws.{DepthKept, depth_kept, image_kept}
use Rattle.validator_spec.proofs.VerdictLaws.{advance_none}

-- ---- tests of N

-- once ended, a walk stays as it is
pub advance_ended : (incoming row : ℕ) (v : Walk) (s : Step) → v.ended ≡ true → advance incoming row v s ≡ v
unfolding advance
advance_ended incoming row v s e = rw e

-- a test made twice in a row, as before a child and at the start of its row, is one test
pub test_twice : (incoming row : ℕ) (v : Walk) → advance incoming row (advance incoming row v (tested_step [])) (tested_step []) ≡ advance incoming row v (tested_step [])
unfolding advance tested_step
test_twice incoming row v = go (v.ended || leb diagnostic_limit (count_n incoming v)) refl
  where
    go : (b : Bool) → (v.ended || leb diagnostic_limit (count_n incoming v)) ≡ b
        → advance incoming row (advance incoming row v (tested_step [])) (tested_step []) ≡ advance incoming row v (tested_step [])
    go true e = advance_ended incoming row (advance incoming row v (tested_step [])) (tested_step []) (rw e)
    go false e =
        let t = or_false v.ended _ e in
        ap (λ (u : Walk). advance incoming row u (tested_step [])) (advance_none incoming row v (tested_step []) t.0 (leb-false diagnostic_limit _ t.1) refl)

-- steps that begin with a test
pub data Begins : List Step → Type 0 where
  begins : (rest : List Step) → Begins (tested_step [] ∷ rest)

pub proto_begins : (p : Proto) → Begins (proto_steps p)
unfolding proto_steps flatten
proto_begins p = begins _

test_before : (incoming row : ℕ) (v : Walk) {steps : List Step} → Begins steps → walk_row incoming row (advance incoming row v (tested_step [])) steps ≡ walk_row incoming row v steps
unfolding walk_row
test_before incoming row v (begins rest) = ap (λ (u : Walk). foldl (advance incoming row) u rest) (test_twice incoming row v)

-- ---- rows one after the other

pub walk_append : (incoming row : ℕ) (v : Walk) (some rest : List (List Step))
    → walk_from incoming row v (some ++ rest) ≡ walk_from incoming (row + length some) (walk_from incoming row v some) rest
unfolding walk_from
walk_append incoming row v [] rest = ap (λ (n : ℕ). walk_from incoming n v rest) (sym (add-zero row))
walk_append incoming row v (ss ∷ some) rest =
    walk_append incoming (suc row) (walk_row incoming row v ss) some rest
    ∙ ap (λ (n : ℕ). walk_from incoming n (walk_from incoming (suc row) (walk_row incoming row v ss) some) rest) (suc-add row (length some) ∙ sym (add-suc row (length some)))

-- n rows and m rows more
pub walk_split : (incoming row : ℕ) (v : Walk) (n m : ℕ) (all : List (List Step)) → n ≤ length all
    → walk_from incoming row v (take (n + m) all) ≡ walk_from incoming (row + n) (walk_from incoming row v (take n all)) (take m (drop n all))
walk_split incoming row v n m all h =
    ap (walk_from incoming row v) (take-add n m all)
    ∙ walk_append incoming row v (take n all) (take m (drop n all))
    ∙ ap (λ (k : ℕ). walk_from incoming (row + k) (walk_from incoming row v (take n all)) (take m (drop n all))) (length-take-le n all h)

-- ---- rows of which each is at most one deeper than the one before

data Deepens : ℕ → List Row → Type 0 where
  no_more : {most : ℕ} → Deepens most []
  deepens : {most : ℕ} {r : Row} {rs : List Row} → r.depth ≤ most → Deepens (suc r.depth) rs → Deepens most (r ∷ rs)

deepens_kept : (least most : ℕ) (rs : List Row) → bad_depth least most rs ≡ none → Deepens most rs
deepens_kept least most [] e = no_more
deepens_kept least most (r ∷ rs) e =
    let k = depth_kept least most r rs e in
    deepens k.high (deepens_kept 1 (suc r.depth) rs k.later)

deepens_next : {most : ℕ} {r : Row} {rs : List Row} → Deepens most (r ∷ rs) → (r.depth ≤ most) × Deepens (suc r.depth) rs
deepens_next (deepens h t) = (h, t)

-- past the rows below depth d, the next is of depth d or less
past_below : (d : ℕ) {most : ℕ} {rs : List Row} → Deepens most rs → Deepens d (drop (length (below d rs)) rs)
unfolding below
past_below d no_more = no_more
past_below d (deepens {most} {r} {rs} h t) = go (ltb d r.depth) refl (past_below d t)
  where
    go : (b : Bool) → ltb d r.depth ≡ b → Deepens d (drop (length (below d rs)) rs) → Deepens d (drop (length (go_on_if b r (below d rs))) (r ∷ rs))
    go true e k = k
    go false e k = deepens (ltb-false d r.depth e) t

-- and no child of a row of depth d is among the rows below depth d + 1
children_past : (d : ℕ) (rs : List Row) → children d rs ≡ children d (drop (length (below (suc d) rs)) rs)
children_past d [] = ap (λ (l : List Row). children d l) (sym (drop-nil (length (below (suc d) []))))
children_past d (r ∷ rs) = go (ltb (suc d) r.depth) refl (children_past d rs)
  where
    go : (b : Bool) → ltb (suc d) r.depth ≡ b → children d rs ≡ children d (drop (length (below (suc d) rs)) rs) → children d (r ∷ rs) ≡ children d (drop (length (below (suc d) (r ∷ rs))) (r ∷ rs))
    go true e h =
        let deep = ltb-true (suc d) r.depth e in
        children_deeper d r rs deep ∙ h ∙ ap (λ (l : List Row). children d (drop (length l) (r ∷ rs))) (sym (below_next (suc d) r rs deep))
    go false e h = ap (λ (l : List Row). children d (drop (length l) (r ∷ rs))) (sym (below_end (suc d) r rs (ltb-false (suc d) r.depth e)))

no_rows : (d : ℕ) → below d [] ≡ []
unfolding below
no_rows d = refl

no_children : (d : ℕ) → children d [] ≡ []
unfolding children below
no_children d = refl

-- where each is at least 1 deep, all are below depth 0
below_all : (most : ℕ) (rs : List Row) → bad_depth 1 most rs ≡ none → below 0 rs ≡ rs
below_all most [] e = no_rows 0
below_all most (r ∷ rs) e =
    let k = depth_kept 1 most r rs e in
    below_next 0 r rs k.low ∙ ap (λ (l : List Row). r ∷ l) (below_all (suc r.depth) rs k.later)

below_most : (d : ℕ) (rs : List Row) → length (below d rs) ≤ length rs
unfolding below
below_most d [] = omega arith
below_most d (r ∷ rs) = go (ltb d r.depth) (below_most d rs)
  where
    go : (b : Bool) → length (below d rs) ≤ length rs → length (go_on_if b r (below d rs)) ≤ suc (length rs)
    go true h = omega arith
    go false h = omega arith

-- ---- by prototypes and their children: of a table, and the steps of each of its rows

module _ (incoming : ℕ) (table : List ℕ) (all : List (List Step)) (same : length all ≡ length (rows table)) (tested : All Begins all) where
  abbrev rs : List Row
  rs = rows table

  -- a child, after the test before it
  child : ℕ → Walk → Row → Walk
  child fuel u c = walk_proto incoming rs all fuel c (advance incoming c.row u (tested_step []))

  -- its own steps, and its children
  proto_unfolds : (fuel k : ℕ) (v : Walk)
      → walk_proto incoming rs all (suc fuel) (row_at table k) v ≡ foldl (child fuel) (walk_row incoming k v (get_or all k [])) (children (row_at table k).depth (drop (suc k) rs))
  unfolding walk_proto row_at child
  proto_unfolds fuel k v = refl

  -- as the rows below it are walked, one after the other, so are the children of a row of depth d, when the rows after it begin at row k
  ByRows : ℕ → ℕ → ℕ → Walk → Type 0
  ByRows fuel d k u = foldl (child fuel) u (children d (drop k rs)) ≡ walk_from incoming k u (take (length (below d (drop k rs))) (drop k all))

  -- no child, and no row below
  none_left : (fuel d k : ℕ) (u : Walk) → children d (drop k rs) ≡ [] → below d (drop k rs) ≡ [] → ByRows fuel d k u
  unfolding ByRows walk_from
  none_left fuel d k u c b = ap (foldl (child fuel) u) c ∙ ap (λ (l : List Row). walk_from incoming k u (take (length l) (drop k all))) (sym b)

  no_row : (fuel d k : ℕ) (u : Walk) → length rs ≤ k → ByRows fuel d k u
  no_row fuel d k u h =
      let e : drop k rs ≡ [] = drop_of_length-le rs h in
      none_left fuel d k u (ap (children d) e ∙ no_children d) (ap (below d) e ∙ no_rows d)

  -- the rows past row k and those below it
  past : ℕ → ℕ
  past k = suc k + length (below (row_at table k).depth (drop (suc k) rs))

  -- row k is a child: its own steps, its children and then the rest
  next_child : (fuel d k : ℕ) (u : Walk) → k < length rs → (row_at table k).depth ≡ suc d
      → ((v : Walk) → ByRows fuel (row_at table k).depth (suc k) v) → ((v : Walk) → ByRows (suc fuel) d (past k) v) → ByRows (suc fuel) d k u
  unfolding ByRows walk_from child row_at past
  next_child fuel d k u h deep its rest =
      ap (foldl (child (suc fuel)) u) kids
      ∙ ap (λ (v : Walk). foldl (child (suc fuel)) v (children d (drop (suc k + n) rs))) first
      ∙ rest _
      ∙ ap (λ (l : List (List Step)). walk_from incoming (suc k + n) (walk_from incoming (suc k) own (take n more)) (take m l)) (sym (drop-drop n (suc k) all))
      ∙ sym (walk_split incoming (suc k) own n m more (omega (arith, below_most r.depth later, length-drop (suc k) rs, length-drop (suc k) all)))
      ∙ ap (λ (j : ℕ). walk_from incoming k u (take j (steps ∷ more))) (sym count)
      ∙ ap (λ (l : List (List Step)). walk_from incoming k u (take (length (below d (drop k rs))) l)) (sym (drop-cons all k [] there))
    where
      r : Row
      r = row_at table k

      later : List Row
      later = drop (suc k) rs

      n : ℕ
      n = length (below r.depth later)

      m : ℕ
      m = length (below d (drop (suc k + n) rs))

      steps : List Step
      steps = get_or all k []

      more : List (List Step)
      more = drop (suc k) all

      own : Walk
      own = walk_row incoming k u steps

      there : k < length all
      there = omega arith

      row : drop k rs ≡ r ∷ later
      row = drop_rows table k (omega (arith, length_rows table))

      kids : children d (drop k rs) ≡ r ∷ children d (drop (suc k + n) rs)
      kids =
          ap (children d) row
          ∙ children_found d r later deep
          ∙ ap (λ (l : List Row). r ∷ l)
          (children_past d later ∙ ap (λ (x : ℕ). children d (drop (length (below x later)) later)) (sym deep) ∙ ap (children d) (drop-drop n (suc k) rs))

      count : length (below d (drop k rs)) ≡ suc (n + m)
      count =
          ap (λ (l : List Row). length (below d l)) row
          ∙ ap length (below_split d r later (omega arith))
          ∙ ap suc (length-append (below r.depth later) (below d (drop n later)) ∙ ap (λ (l : List Row). n + length (below d l)) (drop-drop n (suc k) rs))

      first : child (suc fuel) u r ≡ walk_from incoming (suc k) own (take n more)
      first =
          proto_unfolds fuel k (advance incoming k u (tested_step []))
          ∙ its _
          ∙ ap (λ (v : Walk). walk_from incoming (suc k) v (take n more)) (test_before incoming k u (all_at k [] there tested))

  -- row k is at most one deeper than depth d: so it is a child, or no child is left
  at_row : (fuel d k : ℕ) (u : Walk) → k < length rs → Deepens (suc d) (drop k rs)
      → ((v : Walk) → Deepens (suc (row_at table k).depth) (drop (suc k) rs) → ByRows fuel (row_at table k).depth (suc k) v)
      → ((v : Walk) → Deepens (suc d) (drop (past k) rs) → ByRows (suc fuel) d (past k) v)
      → ByRows (suc fuel) d k u
  unfolding past
  at_row fuel d k u h t its rest = go (ltb d r.depth) refl
    where
      r : Row
      r = row_at table k

      later : List Row
      later = drop (suc k) rs

      row : drop k rs ≡ r ∷ later
      row = drop_rows table k (omega (arith, length_rows table))

      next : (r.depth ≤ suc d) × Deepens (suc r.depth) later
      next = deepens_next (subst (Deepens (suc d)) row t)

      go : (b : Bool) → ltb d r.depth ≡ b → ByRows (suc fuel) d k u
      go false e =
          let end = ltb-false d r.depth e in
          none_left (suc fuel) d k u (ap (children d) row ∙ children_end d r later end) (ap (below d) row ∙ below_end d r later end)
      go true e =
          let lt = ltb-true d r.depth e in
          let deep : r.depth ≡ suc d = omega (arith, next.0) in
          next_child fuel d k u h deep (λ v. its v next.1)
          (λ v. rest v (subst (Deepens (suc d)) (drop-drop (length (below r.depth later)) (suc k) rs) (subst (λ (x : ℕ). Deepens x (drop (length (below r.depth later)) later)) deep (past_below r.depth next.1))))

  past_next : (k : ℕ) → suc k ≤ past k
  unfolding past
  past_next k = omega arith

  -- m is at least the number of rows from k on, and so is the fuel
  siblings : (fuel : ℕ) → ((d k : ℕ) (v : Walk) → length rs ≤ k + fuel → Deepens (suc d) (drop k rs) → ByRows fuel d k v)
      → (m d k : ℕ) (u : Walk) → length rs ≤ k + m → length rs ≤ k + suc fuel → Deepens (suc d) (drop k rs) → ByRows (suc fuel) d k u
  siblings fuel its zero d k u h f t = no_row (suc fuel) d k u (omega arith)
  siblings fuel its (suc m) d k u h f t = go (ltb k (length rs)) refl (siblings fuel its m d (past k))
    where
      go : (b : Bool) → ltb k (length rs) ≡ b
          → ((v : Walk) → length rs ≤ past k + m → length rs ≤ past k + suc fuel → Deepens (suc d) (drop (past k) rs) → ByRows (suc fuel) d (past k) v)
          → ByRows (suc fuel) d k u
      go false e rest = no_row (suc fuel) d k u (ltb-false k (length rs) e)
      go true e rest =
          at_row fuel d k u (ltb-true k (length rs) e) t
          (λ v. its (row_at table k).depth (suc k) v (omega arith))
          (λ v. rest v (omega (arith, past_next k)) (omega (arith, past_next k)))

  by_rows : (fuel d k : ℕ) (u : Walk) → length rs ≤ k + fuel → Deepens (suc d) (drop k rs) → ByRows fuel d k u
  by_rows zero d k u f t = no_row zero d k u (omega arith)
  by_rows (suc fuel) d k u f t = siblings fuel (by_rows fuel) (suc fuel) d k u f f t

  -- Row 0 has depth 0 and all later rows are below it: so the walk is its own steps and then its children
  walk_is_by_children : bad_depth 0 0 rs ≡ none → (fuel : ℕ) → length rs ≡ suc fuel → walk incoming all ≡ walk_proto incoming rs all (suc fuel) (row_at table 0) start
  unfolding walk walk_from ByRows
  walk_is_by_children e fuel l =
      sym (
      proto_unfolds fuel 0 start
      ∙ by_rows fuel r.depth 1 own (omega arith) (deepens_kept 1 (suc r.depth) later k.later)
      ∙ ap (λ (n : ℕ). walk_from incoming 1 own (take n (drop 1 all))) (ap length deep ∙ count)
      ∙ ap (walk_from incoming 1 own) (take-length (drop 1 all))
      ∙ ap (walk_from incoming 0 start) (sym (drop-cons all 0 [] (omega arith)))
      )
    where
      r : Row
      r = row_at table 0

      later : List Row
      later = drop 1 rs

      own : Walk
      own = walk_row incoming 0 start (get_or all 0 [])

      k : DepthKept 0 0 r later
      k = depth_kept 0 0 r later (subst (λ (l : List Row). bad_depth 0 0 l ≡ none) (drop_rows table 0 (omega (arith, length_rows table))) e)

      deep : below r.depth later ≡ later
      deep = let first : r.depth ≡ 0 = omega (arith, k.high) in ap (λ (d : ℕ). below d later) first ∙ below_all (suc r.depth) later k.later

      count : length later ≡ length (drop 1 all)
      count = omega (arith, length-drop 1 rs, length-drop 1 all)

-- the walk over an accepted image
pub image_by_children : (i : Image) → image_refusal i.table i.words ≡ none → image_walk i ≡ walk_by_children i
unfolding image_walk image_protos protos walk_by_children
image_by_children i a =
    let kept = image_kept i.table i.words a in
    let ps = protos_of (rows i.table) (u32s i.words) in
    let count : length (rows i.table) ≡ suc (length (rows i.table) - 1) = omega (arith, length_rows i.table, kept.some_row, kept.whole_rows) in
    walk_is_by_children (i.warnings + i.errors) i.table (map proto_steps ps) (length-map ps proto_steps ∙ length_protos_of (rows i.table) (u32s i.words)) (all_map Begins proto_steps (all_of proto_begins ps)) kept.depths (length (rows i.table) - 1) count
    ∙ ap (λ (fuel : ℕ). walk_proto (i.warnings + i.errors) (rows i.table) (map proto_steps ps) fuel (row_at i.table 0) start) (sym count)
