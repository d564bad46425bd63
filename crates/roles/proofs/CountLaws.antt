-- Sums as the code counts them: a field of all rows, and the binding records of the rows between two. Assumes nothing.
use Rattle.std.proofs.Common.{◌≡◌, ℕ, zero, suc, ◌+◌, ◌-◌, ◌*◌, ◌/◌, ◌%◌, ◌^◌, ◌<◌, ◌≤◌, List, [], ◌∷◌, map, length, take, drop, sym, refl, ap, ◌∙◌, ap₂, arith, drop-drop, take-add}
use Rattle.base.specs.Lists.{up_from, tabulate, total}
use Rattle.roles_spec.specs.Table.{Row, row_bytes, field_at, row_at, rows}
use Rattle.roles_spec.specs.Refusals.{word_total}
use Rattle.roles_spec.specs.Bindings.{binding_total, first_binding}
use Rattle.roles.specs.Terms.{field_total, records_between}
use Rattle.base.proofs.ListLaws.{tabulate_next}
use Rattle.roles_spec.proofs.TableLaws.{drop_rows}
use Rattle.roles_spec.proofs.TotalLaws.{total_append, sum_append}

-- ---- a field of all rows

module _ (get : Row → ℕ) where
  -- the sum of a field over the rows is the sum over their bytes
  sum_values : (f : ℕ → Row) (g : ℕ → ℕ) → ((i : ℕ) → get (f i) ≡ g i) → (i n : ℕ) → total (map get (map f (up_from i n))) ≡ total (map g (up_from i n))
  sum_values f g e i zero = refl
  sum_values f g e i (suc n) = ap₂ (λ (a b : ℕ). a + b) (e i) (sum_values f g e (suc i) n)

  sum_fields : (table : List ℕ) (k : ℕ) → ((i : ℕ) → get (row_at table i) ≡ field_at table i k) → total (map get (rows table)) ≡ field_total table k
  unfolding rows field_total
  sum_fields table k e = sum_values (row_at table) (λ i. field_at table i k) e 0 (length table / row_bytes)

pub word_fields : (table : List ℕ) → word_total (rows table) ≡ field_total table 1
unfolding word_total row_at
word_fields table = sum_fields (λ r. r.words) table 1 (λ i. refl)

pub record_fields : (table : List ℕ) → binding_total (rows table) ≡ field_total table 3
unfolding binding_total row_at
record_fields table = sum_fields (λ r. r.upvalues) table 3 (λ i. refl)

-- ---- the binding records of the rows between two

module _ (table : List ℕ) where
  pub none_between : (i j : ℕ) → j ≤ i → records_between table i j ≡ 0
  unfolding records_between binding_total
  none_between i j h = let z : j - i ≡ 0 = omega arith in ap (λ (n : ℕ). binding_total (take n (drop i (rows table)))) z

  between_front : (j : ℕ) → records_between table 0 j ≡ first_binding (rows table) j
  unfolding records_between first_binding
  between_front j = let z : j - 0 ≡ j = omega arith in ap (λ (n : ℕ). binding_total (take n (rows table))) z

  -- the records up to a row, and then those from it on
  pub between_join : (i j k : ℕ) → i ≤ j → j ≤ k → records_between table i k ≡ records_between table i j + records_between table j k
  unfolding records_between binding_total
  between_join i j k h l =
      let m : k - i ≡ (j - i) + (k - j) = omega arith in
      let n : i + (j - i) ≡ j = omega arith in
      ap (λ (n : ℕ). binding_total (take n (drop i (rows table)))) m
      ∙ ap binding_total (take-add (j - i) (k - j) (drop i (rows table)))
      ∙ sum_append (λ r. r.upvalues) (take (j - i) (drop i (rows table))) (take (k - j) (drop (j - i) (drop i (rows table))))
      ∙ ap (λ (l : List Row). binding_total (take (j - i) (drop i (rows table))) + binding_total (take (k - j) l)) (drop-drop (j - i) i (rows table) ∙ ap (λ (n : ℕ). drop n (rows table)) n)

  -- the records of the first row, and then the others
  pub between_next : (i k : ℕ) → i < length table / row_bytes → i < k → records_between table i k ≡ field_at table i 3 + records_between table (suc i) k
  unfolding records_between binding_total row_at
  between_next i k there h =
      let m : k - i ≡ suc (k - suc i) = omega arith in
      ap₂ (λ (n : ℕ) (l : List Row). binding_total (take n l)) m (drop_rows table i there)

  -- the records of one row
  pub between_one : (i : ℕ) → i < length table / row_bytes → records_between table i (i + 1) ≡ field_at table i 3
  between_one i there = omega (arith, between_next i (i + 1) there (omega arith), none_between (suc i) (i + 1) (omega arith))

  -- where a row's records begin
  pub between_first : (i k : ℕ) → i ≤ k → first_binding (rows table) k ≡ first_binding (rows table) i + records_between table i k
  between_first i k h = sym (between_front k) ∙ between_join 0 i k (omega arith) h ∙ ap (λ (n : ℕ). n + records_between table i k) (between_front i)

-- ---- counted modulo 2 ^ 32

pub wrapped : (a b : ℕ) → (a % 2 ^ 32 + b) % 2 ^ 32 ≡ (a + b) % 2 ^ 32
wrapped a b = omega arith

-- ---- the sum of a field, row by row

pub record TotalPass (table : List ℕ) (k sum row : ℕ) : Type 0 where
  pub so_far : sum ≡ total (tabulate row (λ i. field_at table i k))
  pub within : row ≤ length table / row_bytes
  pub most : sum ≤ 4294967296 * row

module _ (table : List ℕ) (k : ℕ) where
  module _ (sum row : ℕ) (v : TotalPass table k sum row) where
    pub total_ends : length table / row_bytes ≤ row → sum ≡ field_total table k
    unfolding field_total
    total_ends h = let e : row ≡ length table / row_bytes = omega (arith, v.within) in v.so_far ∙ ap (λ (n : ℕ). total (tabulate n (λ i. field_at table i k))) e

    pub total_next : (x : ℕ) → row < length table / row_bytes → x ≡ field_at table row k → x < 4294967296 → TotalPass table k (sum + x) (row + 1)
    total_next x h e l =
        let f : ℕ → ℕ = λ i. field_at table i k in
        let one : row + 1 ≡ suc row = omega arith in
        record {
          so_far =
              ap₂ (λ (a b : ℕ). a + b) v.so_far e
              ∙ sym (ap (λ (n : ℕ). total (tabulate n f)) one ∙ ap total (tabulate_next f row) ∙ total_append (tabulate row f) (f row ∷ []) ∙ omega arith);
          within = omega arith;
          most = omega (arith, v.most);
        }
