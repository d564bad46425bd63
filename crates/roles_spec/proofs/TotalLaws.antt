-- Sums of a field over rows: the words and the binding records of the rows before one. Assumes nothing.
use Prim.Native.Nat.{ℕ, zero, suc, ◌+◌, ◌*◌, ◌/◌, ◌≤◌, ◌<◌}
use native.Mathlib.Nat.{mul-suc}
use native.Mathlib.Omega.{arith}
use mathlib.Core.Path.{◌≡◌, refl, ◌∙◌, ap}
use mathlib.Core.List.{List, [], ◌∷◌, ◌++◌, map, map-append}
use lib.ListN.{length, get_or, take, drop}
use lib.Seq.{drop-drop}
use Rattle.base.specs.Lists.{All, all_nil, all_cons, total}
use Rattle.roles_spec.specs.Table.{Row, row_bytes, row_at, rows, protos_of}
use Rattle.roles_spec.specs.Refusals.{word_total}
use Rattle.roles_spec.specs.Bindings.{binding_total, first_binding}
use Rattle.roles_spec.proofs.TableLaws.{length_rows, get_d_rows}

pub total_append : (ms ns : List ℕ) → total (ms ++ ns) ≡ total ms + total ns
total_append [] ns = omega arith
total_append (m ∷ ms) ns = omega (arith, total_append ms ns)

-- ---- a field of rows

module _ (get : Row → ℕ) where
  abbrev sum : List Row → ℕ
  sum rs = total (map get rs)

  -- the sum over the first rows is no more than over all
  sum_front : (rs : List Row) (k : ℕ) → sum (take k rs) ≤ sum rs
  sum_front rs zero = omega arith
  sum_front [] (suc k) = omega arith
  sum_front (r ∷ rs) (suc k) = omega (arith, sum_front rs k)

  -- one row more
  sum_next : (rs : List Row) (k : ℕ) (d : Row) → k < length rs → sum (take (suc k) rs) ≡ sum (take k rs) + get (get_or rs k d)
  sum_next [] k d h = absurd (omega arith)
  sum_next (r ∷ rs) zero d h = omega arith
  sum_next (r ∷ rs) (suc k) d h = omega (arith, sum_next rs k d (omega arith))

  -- one row of a table more
  sum_row : (table : List ℕ) (row : ℕ) → row < length table / row_bytes → sum (take (suc row) (rows table)) ≡ sum (take row (rows table)) + get (row_at table row)
  sum_row table row there =
      sum_next (rows table) row (row_at table row) (omega (arith, length_rows table))
      ∙ ap (λ (r : Row). sum (take row (rows table)) + get r) (get_d_rows table row (row_at table row) there)

  pub sum_append : (rs ss : List Row) → sum (rs ++ ss) ≡ sum rs + sum ss
  sum_append rs ss = ap total (map-append get rs ss) ∙ total_append (map get rs) (map get ss)

  sum_most : (limit : ℕ) {rs : List Row} → All (λ (r : Row). get r ≤ limit) rs → sum rs ≤ limit * length rs
  sum_most limit all_nil = omega arith
  sum_most limit (all_cons {x = r} {xs = rs} h hs) = omega (arith, sum_most limit hs, mul-suc limit (length rs))

-- ---- words

pub words_front : (rs : List Row) (k : ℕ) → word_total (take k rs) ≤ word_total rs
unfolding word_total
words_front = sum_front (λ r. r.words)

pub words_next : (table : List ℕ) (row : ℕ) → row < length table / row_bytes → word_total (take (suc row) (rows table)) ≡ word_total (take row (rows table)) + (row_at table row).words
unfolding word_total
words_next = sum_row (λ r. r.words)

-- ---- the prototypes from one on

pub protos_drop : (rs : List Row) (ws : List ℕ) (k : ℕ) → drop k (protos_of rs ws) ≡ protos_of (drop k rs) (drop (word_total (take k rs)) ws)
unfolding protos_of word_total
protos_drop rs ws zero = refl
protos_drop [] ws (suc k) = refl
protos_drop (r ∷ rs) ws (suc k) = protos_drop rs (drop r.words ws) k ∙ ap (protos_of (drop k rs)) (drop-drop (word_total (take k rs)) r.words ws)

-- ---- binding records

pub records_front : (rs : List Row) (k : ℕ) → first_binding rs k ≤ binding_total rs
unfolding first_binding binding_total
records_front = sum_front (λ r. r.upvalues)

pub records_next : (table : List ℕ) (row : ℕ) → row < length table / row_bytes → first_binding (rows table) (suc row) ≡ first_binding (rows table) row + (row_at table row).upvalues
unfolding first_binding binding_total
records_next = sum_row (λ r. r.upvalues)

pub records_most : (limit : ℕ) {rs : List Row} → All (λ (r : Row). r.upvalues ≤ limit) rs → binding_total rs ≤ limit * length rs
unfolding binding_total
records_most limit h = sum_most (λ r. r.upvalues) limit h
