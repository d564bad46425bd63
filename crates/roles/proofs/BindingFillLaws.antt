-- The bindings of all prototypes, one after the other: what was bound, and what is left, after each row. Assumes nothing.
use Rattle.std.proofs.Common.{◌≡◌, ℕ, zero, suc, ◌+◌, ◌*◌, ◌/◌, ◌<◌, ◌≤◌, List, [], ◌∷◌, length, take, drop, replicate, sym, refl, ap, ◌∙◌, ap₂, add-one, arith, drop-drop}
use mathlib.Core.Path.{subst⁻¹}
use mathlib.Core.List.{foldl}
use mathlib.Core.Option.{Option, none, some}
use lib.ListN.{length-replicate}
use Rattle.base.specs.Lists.{All, all_nil, all_cons}
use Rattle.base.specs.Bytes.{overwrite}
use Rattle.roles_spec.specs.Table.{Row, row_bytes, field_at, row_at, rows, Proto, proto_of, child_of_row, proto_in}
use Rattle.roles_spec.specs.Bindings.{Binding, unbound, Write, writes, first_binding, binding_total, set_binding, bind_rows, bindings, binding_bytes, binding_records}
use Rattle.roles_spec.specs.Refusals.{roles_refusal, word_total, max_upvalues}
use Rattle.roles.specs.BindingSteps.{max_bindings, RoomForAllOrNone, BindsFrom, stored, bound_in, bound_row, bound_rows}
use Rattle.base.proofs.ListLaws.{foldl_next}
use Rattle.base.proofs.AllLaws.{all_imp}
use Rattle.roles_spec.proofs.TableLaws.{drop_rows}
use Rattle.roles_spec.proofs.TotalLaws.{words_next, records_next, records_most}
use Rattle.roles_spec.proofs.RowCheckLaws.{rows_end}
use Rattle.roles_spec.proofs.RefusalLaws.{roles_kept}
use Rattle.roles_spec.proofs.BindingRecordLaws.{record_set}
use Rattle.roles_spec.proofs.BindingWriteLaws.{length_set_binding, length_writes, Inside, writes_inside}
use Rattle.roles.proofs.BindingPassLaws.{child_records, length_bound_in}

-- ---- in a buffer and in the list of bindings

abbrev set_in : List ℕ → ℕ → List Binding → Write → List Binding
set_in table row bs v = set_binding (rows table) (child_of_row table row v.child) v bs

module _ (table : List ℕ) (row : ℕ) (ws old : List ℕ) (room : binding_bytes * binding_total (rows table) ≤ length old) where
  abbrev p : Proto
  p = proto_in table row ws

  one_stored : (bs : List Binding) (v : Write) → length bs ≡ binding_total (rows table) → Inside p v
      → stored (rows table) (child_of_row table row v.child) v (overwrite old 0 (binding_records bs)) ≡ overwrite old 0 (binding_records (set_in table row bs v))
  unfolding stored set_binding proto_in proto_of
  one_stored bs v size h = go (child_of_row table row v.child) refl
    where
      go : (o : Option Row) → child_of_row table row v.child ≡ o → stored (rows table) o v (overwrite old 0 (binding_records bs)) ≡ overwrite old 0 (binding_records (set_binding (rows table) o v bs))
      go none e = refl
      go (some c) e =
          let r = child_records table row v.child c e in
          record_set old bs (first_binding (rows table) c.row + v.upvalue) v.binding (omega (arith, r.inside, r.upvalues)) (omega arith)

  all_stored : (bs : List Binding) (vs : List Write) → length bs ≡ binding_total (rows table) → All (Inside p) vs
      → bound_in table row vs (overwrite old 0 (binding_records bs)) ≡ overwrite old 0 (binding_records (foldl (set_in table row) bs vs))
  unfolding bound_in
  all_stored bs [] size all_nil = refl
  all_stored bs (v ∷ vs) size (all_cons h hs) =
      ap (bound_in table row vs) (one_stored bs v size h)
      ∙ all_stored (set_in table row bs v) vs (length_set_binding (rows table) (child_of_row table row v.child) v bs ∙ size) hs

-- ---- row by row, in the list of bindings

abbrev words_of : List ℕ → List ℕ → ℕ → List ℕ
words_of table words row = drop (word_total (take row (rows table))) words

record BindFill (table words old out : List ℕ) (row : ℕ) : Type 0 where
  made : List Binding
  size : length made ≡ binding_total (rows table)
  written : out ≡ overwrite old 0 (binding_records made)
  left : bind_rows (rows table) (drop row (rows table)) (words_of table words row) made ≡ bindings (rows table) words

module _ (table words old first : List ℕ) (room : binding_bytes * binding_total (rows table) ≤ length old) (unbound-first : first ≡ overwrite old 0 (binding_records (replicate (binding_total (rows table)) unbound))) where
  bind_begins : BindFill table words old first 0
  unfolding bindings word_total
  bind_begins = record { made = replicate (binding_total (rows table)) unbound; size = length-replicate (binding_total (rows table)) unbound; written = unbound-first; left = refl }

  bind_next : (out : List ℕ) (row : ℕ) → BindFill table words old out row → row < length table / row_bytes
      → BindFill table words old (bound_in table row (writes (proto_in table row (words_of table words row))) out) (suc row)
  unfolding bind_rows proto_in child_of_row
  bind_next out row v there =
      let ws = words_of table words row in
      let vs = writes (proto_in table row ws) in
      let words_left : words_of table words (suc row) ≡ drop (row_at table row).words ws = ap (λ (k : ℕ). drop k words) (words_next table row there) ∙ sym (drop-drop (row_at table row).words (word_total (take row (rows table))) words) in
      record {
        made = foldl (set_in table row) v.made vs;
        size = length_writes (rows table) (λ w. child_of_row table row w.child) vs v.made ∙ v.size;
        written = ap (bound_in table row vs) v.written ∙ all_stored table row ws old room v.made vs v.size (writes_inside (proto_in table row ws));
        left =
            ap (λ (l : List ℕ). bind_rows (rows table) (drop (suc row) (rows table)) l (foldl (set_in table row) v.made vs)) words_left
            ∙ sym (ap (λ (rs : List Row). bind_rows (rows table) rs ws v.made) (drop_rows table row there))
            ∙ v.left;
      }

  bind_rows_fill : (n : ℕ) → n ≤ length table / row_bytes → BindFill table words old (bound_rows table words n first) n
  unfolding bound_rows
  bind_rows_fill zero h = bind_begins
  bind_rows_fill (suc n) h =
      subst⁻¹ (λ (l : List ℕ). BindFill table words old l (suc n)) (foldl_next (bound_row table words) first n)
      (bind_next (bound_rows table words n first) n (bind_rows_fill n (omega arith)) h)

  -- all of them: what the definitions say
  pub rows_bound : bound_rows table words (length table / row_bytes) first ≡ overwrite old 0 (binding_records (bindings (rows table) words))
  unfolding bind_rows
  rows_bound =
      let n = length table / row_bytes in
      let v = bind_rows_fill n (omega arith) in
      v.written
      ∙ ap (λ (bs : List Binding). overwrite old 0 (binding_records bs)) (sym (ap (λ (rs : List Row). bind_rows (rows table) rs (words_of table words n) v.made) (rows_end table n (omega arith))) ∙ v.left)

-- ---- as the code goes over the rows

pub record RowsBound (table words old out : List ℕ) (row base : ℕ) : Type 0 where
  pub bound : out ≡ bound_rows table words row old
  pub long : length out ≡ length old
  pub before : base ≡ first_binding (rows table) row

-- an accepted table has at most `max_bindings` upvalues
pub few_records : (table words : List ℕ) (role_length : ℕ) → roles_refusal table words role_length ≡ none → binding_total (rows table) ≤ max_bindings
few_records table words role_length accepted =
    let kept = (roles_kept table words role_length accepted).image in
    omega (arith, records_most max_upvalues (all_imp (λ r h. h.upvalues) kept.fields), kept.row_limit)

module _ (table words old : List ℕ) where
  pub rows_begin : RowsBound table words old old 0 0
  unfolding bound_rows first_binding binding_total
  rows_begin = record { bound = refl; long = refl; before = refl }

  module _ (out : List ℕ) (row base : ℕ) (v : RowsBound table words old out row base) where
    pub rows_end_bound : row ≤ length table / row_bytes → length table / row_bytes ≤ row → out ≡ bound_rows table words (length table / row_bytes) old
    rows_end_bound h l = let e : row ≡ length table / row_bytes = omega arith in v.bound ∙ ap (λ (n : ℕ). bound_rows table words n old) e

    module _ (there : row < length table / row_bytes) (u : ℕ) (own : u ≡ field_at table row 3) where
      pub base_next : base + u ≡ first_binding (rows table) (suc row)
      unfolding row_at
      base_next = let r : (row_at table row).upvalues ≡ u = sym own in omega (arith, records_next table row there, v.before)

      pub binds_from : binding_total (rows table) ≤ max_bindings → RoomForAllOrNone table (length old) → BindsFrom table row (base + u) (length out)
      binds_from few fits =
          record { begins = base_next; few = few; fits = subst⁻¹ (RoomForAllOrNone table) v.long fits }

      pub rows_next : (new : List ℕ) (first : ℕ) → first ≡ word_total (take row (rows table)) → new ≡ bound_in table row (writes (proto_in table row (drop first words))) out → RowsBound table words old new (row + 1) (base + u)
      unfolding bound_rows
      rows_next new first place e =
          let done : new ≡ bound_rows table words (row + 1) old =
          e
          ∙ ap₂ (λ (n : ℕ) (l : List ℕ). bound_in table row (writes (proto_in table row (drop n words))) l) place v.bound
          ∙ sym (ap (λ (n : ℕ). bound_rows table words n old) (add-one row) ∙ foldl_next (bound_row table words) old row) in
          record {
            bound = done;
            long = ap length e ∙ length_bound_in table row _ out ∙ v.long;
            before = base_next ∙ ap (first_binding (rows table)) (sym (add-one row));
          }
