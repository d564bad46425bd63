-- The children of each row, counted from the last row to the first, and a prototype by its fields. Assumes nothing.
use Rattle.std.proofs.Common.{◌≡◌, ℕ, zero, suc, ◌+◌, ◌/◌, ◌<◌, ◌≤◌, Bool, true, false, eqb, ltb, List, ◌∷◌, length, get_or, drop, set, replicate, sym, refl, ap, ◌∙◌, add-one, arith, length-drop, length-set, drop_of_length-le, get_or-set_other, get_or-set_same, ltb-false, ltb-true, eqb-true}
use mathlib.Core.Option.{none}
use lib.ListN.{length-replicate, get_or-replicate}
use borrow.Author.Tests.{eqb-false}
use Rattle.roles_spec.specs.Refusals.{bad_depth, max_depth, max_rows}
use Rattle.roles_spec.specs.Table.{Row, row_bytes, field_at, row_at, rows, below, children}
use Rattle.base.specs.Lists.{take_while}
use Rattle.base.proofs.ListLaws.{select_most, take_while_most}
use Rattle.roles_spec.proofs.RefusalLaws.{depth_kept}
use Rattle.roles_spec.proofs.TableLaws.{length_rows, drop_rows, children_end, children_found, children_deeper}
use Rattle.validator.specs.Terms.{depths, child_count, Ordered, Counted, row_limits}

-- how many children of a row of this depth stand in the rows from i on
abbrev from : List ℕ → ℕ → ℕ → ℕ
from table depth i = length (children depth (drop i (rows table)))

-- no more than there are rows
from_few : (table : List ℕ) (depth i : ℕ) → from table depth i ≤ length table / row_bytes
unfolding children below
from_few table depth i =
    let later = drop i (rows table) in
    let f : Row → Bool = λ r. eqb r.depth (suc depth) in
    let g : Row → Bool = λ r. ltb depth r.depth in
    omega (arith, select_most f (take_while g later), take_while_most g later, length-drop i (rows table), length_rows table)

-- past the last row
from_end : (table : List ℕ) (depth i : ℕ) → length table / row_bytes ≤ i → from table depth i ≡ 0
unfolding children below
from_end table depth i h = ap (λ (l : List Row). length (children depth l)) (drop_of_length-le (rows table) {i = i} (omega (arith, length_rows table)))

-- ---- depths

pub record RowDepth (table : List ℕ) (i : ℕ) : Type 0 where
  pub limit : (row_at table i).depth ≤ max_depth
  pub later : bad_depth 1 (suc (row_at table i).depth) (drop (suc i) (rows table)) ≡ none

-- a row's depth, and that of the next
row_depth : (table : List ℕ) → bad_depth 0 0 (rows table) ≡ none → (i : ℕ) → i < length table / row_bytes → RowDepth table i
row_depth table e zero there =
    let k = depth_kept 0 0 (row_at table 0) (drop 1 (rows table)) (sym (ap (bad_depth 0 0) (drop_rows table 0 there)) ∙ e) in
    record { limit = k.limit; later = k.later }
row_depth table e (suc i) there =
    let before = row_depth table e i (omega arith) in
    let most = suc (row_at table i).depth in
    let k = depth_kept 1 most (row_at table (suc i)) (drop (suc (suc i)) (rows table)) (sym (ap (bad_depth 1 most) (drop_rows table (suc i) there)) ∙ before.later) in
    record { limit = k.limit; later = k.later }

next_depth : (table : List ℕ) (i : ℕ) → RowDepth table i → suc i < length table / row_bytes → (row_at table (suc i)).depth ≤ suc (row_at table i).depth
next_depth table i v there =
    let most = suc (row_at table i).depth in
    (depth_kept 1 most (row_at table (suc i)) (drop (suc (suc i)) (rows table)) (sym (ap (bad_depth 1 most) (drop_rows table (suc i) there)) ∙ v.later)).high

-- ---- a row more

module _ (table : List ℕ) (depth at : ℕ) (there : at < length table / row_bytes) where
  split : from table depth at ≡ length (children depth (row_at table at ∷ drop (suc at) (rows table)))
  split = ap (λ (l : List Row). length (children depth l)) (drop_rows table at there)

  none_left : (row_at table at).depth ≤ depth → from table depth at ≡ 0
  none_left h = split ∙ ap length (children_end depth (row_at table at) (drop (suc at) (rows table)) h)

  one_child : (row_at table at).depth ≡ suc depth → from table depth at ≡ suc (from table depth (suc at))
  one_child h = split ∙ ap length (children_found depth (row_at table at) (drop (suc at) (rows table)) h)

  deeper : suc depth < (row_at table at).depth → from table depth at ≡ from table depth (suc at)
  deeper h = split ∙ ap length (children_deeper depth (row_at table at) (drop (suc at) (rows table)) h)

-- ---- the pass

pub counts_begin : (table counts pending : List ℕ) (row : ℕ) → row ≡ length table / row_bytes → length table / row_bytes ≤ length counts → pending ≡ replicate depths 0 → Counted table row counts pending
counts_begin table counts pending row e room zeros =
    let none : (i : ℕ) → i < depths → get_or pending i 0 ≡ 0 = λ i l. ap (λ (xs : List ℕ). get_or xs i 0) zeros ∙ get_or-replicate {A = ℕ} depths i 0 0 l in
    record {
      room = room;
      deep = ap length zeros ∙ length-replicate {A = ℕ} depths 0;
      counted = λ i l m. absurd (omega arith);
      opened = λ d l. none (suc d) (omega arith) ∙ sym (from_end table d row (omega arith));
      roots = omega (arith, none 0 (omega arith));
    }

module _ (table counts pending : List ℕ) (row : ℕ) (ordered : Ordered table) (there : row < length table / row_bytes) (v : Counted table (row + 1) counts pending) (d : ℕ) (e : d ≡ field_at table row 0) where
  here : (row_at table row).depth ≡ d
  unfolding row_at
  here = sym e

  shallow : d ≤ max_depth
  shallow = omega (arith, here, (row_depth table ordered.depths row there).limit)

  -- the number of pending rows that are one deeper
  abbrev found : ℕ
  found = get_or pending (d + 1) 0

  -- the number of pending rows of its depth, without the row itself
  abbrev same : ℕ
  same = get_or (set pending (d + 1) 0) d 0

  same_as : same ≡ get_or pending d 0
  same_as = get_or-set_other pending (d + 1) d 0 0 (λ f. omega arith)

  -- the pending rows of a depth, from the next row on
  later : (n : ℕ) → n < max_depth + 1 → get_or pending (suc n) 0 ≡ from table n (suc row)
  later n l = v.opened n l ∙ ap (from table n) (add-one row)

  few : (n : ℕ) → n ≤ max_depth → get_or pending n 0 ≤ max_rows
  few zero l = omega (arith, v.roots, ordered.few)
  few (suc n) l = omega (arith, later n (omega arith), from_few table n (suc row), ordered.few)

  pub one_fits : same ≤ max_rows
  one_fits = omega (arith, same_as, few d shallow)

  pub deep_enough : d + 1 < length pending
  deep_enough = omega (arith, v.deep, shallow)

  -- none is left of those that are deeper than the children
  none_deeper : (n : ℕ) → d < n → from table n (suc row) ≡ 0
  none_deeper n l = go (ltb (suc row) (length table / row_bytes)) refl
    where
      go : (b : Bool) → ltb (suc row) (length table / row_bytes) ≡ b → from table n (suc row) ≡ 0
      go true t =
          let next = ltb-true (suc row) (length table / row_bytes) t in
          none_left table n (suc row) next (omega (arith, here, next_depth table row (row_depth table ordered.depths row there) next))
      go false t = from_end table n (suc row) (ltb-false (suc row) (length table / row_bytes) t)

  -- the row takes its children from the pending rows, and becomes one of its own depth
  taken : (n : ℕ) → n < max_depth + 1 → get_or (set (set pending (d + 1) 0) d (same + 1)) (suc n) 0 ≡ from table n row
  taken n l = go (eqb (suc n) d) (eqb n d) (ltb n d) refl refl refl
    where
      go : (a b c : Bool) → eqb (suc n) d ≡ a → eqb n d ≡ b → ltb n d ≡ c → get_or (set (set pending (d + 1) 0) d (same + 1)) (suc n) 0 ≡ from table n row
      go true b c x y z =
          let own : suc n ≡ d = eqb-true (suc n) d x in
          ap (λ (i : ℕ). get_or (set (set pending (d + 1) 0) d (same + 1)) i 0) own
          ∙ get_or-set_same (set pending (d + 1) 0) d (same + 1) 0 (omega (arith, deep_enough, length-set pending (d + 1) 0))
          ∙ ap (λ (k : ℕ). k + 1) (same_as ∙ ap (λ (i : ℕ). get_or pending i 0) (sym own) ∙ later n l)
          ∙ add-one (from table n (suc row))
          ∙ sym (one_child table n row there (here ∙ sym own))
      go false true c x y z =
          let own : n ≡ d = eqb-true n d y in
          let next : suc n ≡ d + 1 = omega arith in
          get_or-set_other (set pending (d + 1) 0) d (suc n) (same + 1) 0 (λ f. omega arith)
          ∙ ap (λ (i : ℕ). get_or (set pending (d + 1) 0) i 0) next
          ∙ get_or-set_same pending (d + 1) 0 0 deep_enough
          ∙ sym (none_left table n row there (omega (arith, here)))
      go false false c x y z =
          let other : suc n ≡ d → ⊥ = eqb-false (suc n) d x in
          let apart : n ≡ d → ⊥ = eqb-false n d y in
          get_or-set_other (set pending (d + 1) 0) d (suc n) (same + 1) 0 (λ f. other (omega arith))
          ∙ get_or-set_other pending (d + 1) (suc n) 0 0 (λ f. apart (omega arith))
          ∙ later n l
          ∙ rest c z other apart
        where
          rest : (c : Bool) → ltb n d ≡ c → (suc n ≡ d → ⊥) → (n ≡ d → ⊥) → from table n (suc row) ≡ from table n row
          rest true z f g = sym (deeper table n row there (omega (arith, here, ltb-true n d z, f)))
          rest false z f g = none_deeper n (omega (arith, ltb-false n d z, g)) ∙ sym (none_left table n row there (omega (arith, here, ltb-false n d z)))

  pub row_counted : Counted table row (set counts row found) (set (set pending (d + 1) 0) d (same + 1))
  row_counted =
      record {
        room = omega (arith, v.room, length-set counts row found);
        deep = length-set (set pending (d + 1) 0) d (same + 1) ∙ length-set pending (d + 1) 0 ∙ v.deep;
        counted = λ i l m. by_row i (eqb i row) refl l m;
        opened = taken;
        roots = first_depth d refl;
      }
    where
      by_row : (i : ℕ) (b : Bool) → eqb i row ≡ b → row ≤ i → i < length table / row_bytes → get_or (set counts row found) i 0 ≡ child_count table i
      by_row i true t l m =
          let own : i ≡ row = eqb-true i row t in
          ap (λ (j : ℕ). get_or (set counts row found) j 0) own
          ∙ get_or-set_same counts row found 0 (omega (arith, v.room))
          ∙ ap (λ (j : ℕ). get_or pending j 0) (add-one d)
          ∙ later d (omega (arith, shallow))
          ∙ ap (λ (n : ℕ). from table n (suc row)) (sym here)
          ∙ ap (child_count table) (sym own)
      by_row i false t l m =
          let other : i ≡ row → ⊥ = eqb-false i row t in
          get_or-set_other counts row i found 0 (λ f. other (omega arith)) ∙ v.counted i (omega (arith, other)) m

      first_depth : (n : ℕ) → n ≡ d → get_or (set (set pending (d + 1) 0) d (same + 1)) 0 0 + row ≤ length table / row_bytes
      first_depth zero f =
          let own : get_or (set (set pending (d + 1) 0) d (same + 1)) 0 0 ≡ same + 1 =
          ap (λ (i : ℕ). get_or (set (set pending (d + 1) 0) d (same + 1)) i 0) f ∙ get_or-set_same (set pending (d + 1) 0) d (same + 1) 0 (omega (arith, deep_enough, length-set pending (d + 1) 0)) in
          let before : same ≡ get_or pending 0 0 = same_as ∙ ap (λ (i : ℕ). get_or pending i 0) (sym f) in
          omega (arith, own, before, v.roots)
      first_depth (suc n) f =
          let before : get_or (set (set pending (d + 1) 0) d (same + 1)) 0 0 ≡ get_or pending 0 0 =
          get_or-set_other (set pending (d + 1) 0) d 0 (same + 1) 0 (λ g. omega arith) ∙ get_or-set_other pending (d + 1) 0 0 0 (λ g. omega arith) in
          omega (arith, before, v.roots)

-- ---- a prototype by its fields, as they were read

pub prototype_is : (table : List ℕ) (i depth words constants upvalues stack children : ℕ) → depth ≡ field_at table i 0 → words ≡ field_at table i 1 → constants ≡ field_at table i 2 → upvalues ≡ field_at table i 3
    → stack ≡ field_at table i 4 → children ≡ child_count table i
    → record { row = i; depth = depth; words = words; constants = constants; upvalues = upvalues; stack = stack; children = children } ≡ row_limits table i
unfolding row_limits row_at
prototype_is table i depth words constants upvalues stack children d w c u s n = rw (n, d, w, c, u, s)
