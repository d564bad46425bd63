-- What a bindings buffer holds after each step of the code that fills it, and what that code needs: the terms of inner contracts. The calls' own
-- contracts cite none of them. Assumes nothing: these are definitions.
use Rattle.std.specs.Prelude.{◌≡◌, ℕ, suc, ◌+◌, ◌*◌, ◌≤◌, List, [], ◌∷◌, take, drop, slice_index}
use mathlib.Core.List.{foldl}
use Rattle.std.proofs.Math.Option.{Option, none, some}
use Rattle.base.specs.Lists.{up_from}
use Rattle.base.specs.Bytes.{overwrite}
use Rattle.roles_spec.specs.Table.{Row, rows, child_of_row, proto_in}
use Rattle.roles_spec.specs.Bindings.{Binding, Write, binding_of, writes, first_binding, binding_total, binding_bytes, binding_records}
use Rattle.roles_spec.specs.Refusals.{max_rows, max_upvalues, word_total}
use Rattle.roles.specs.declared.discovery.Companions.{Companions}
use Rattle.roles.specs.declared.discovery.Companions.TheVariants.{None, Bindings, Extra}

-- ---- by words

-- the buffer with record i set
abbrev pub set_record : ℕ → List ℕ → Binding → List ℕ
set_record i out b = overwrite out (binding_bytes * i) (binding_records (b ∷ []))

-- the buffer with record i set to the binding of the word w at pc, if w gives one
unfoldable pub bound_by : ℕ → ℕ → ℕ → List ℕ → List ℕ
bound_by i pc w out = foldl (set_record i) out (binding_of pc w)

-- the buffer with the records from `first` on set by `count` binding words, the first of which stands at pc
unfoldable pub bound_from : List ℕ → ℕ → ℕ → ℕ → List ℕ → List ℕ
bound_from words pc first count out = foldl (λ (out : List ℕ) j. bound_by (first + j) (pc + j) (slice_index words (pc + j)) out) out (up_from 0 count)

-- the buffer with the records set by `count` companions of the owner at pc, where these bind upvalues. `base` is the index of the first record of the
-- rows after the prototype's
unfoldable pub bound_claim : List ℕ → ℕ → ℕ → ℕ → Companions → List ℕ → List ℕ
bound_claim words pc base count None out = out
bound_claim words pc base count (Bindings n first) out = bound_from words (pc + 1) (base + first) count out
bound_claim words pc base count Extra out = out

-- ---- by writes

-- the buffer after a write to the records of a child
unfoldable pub stored : List Row → Option Row → Write → List ℕ → List ℕ
stored all none v out = out
stored all (some c) v out = set_record (first_binding all c.row + v.upvalue) out v.binding

-- the buffer after these writes to the children of a row, in order
unfoldable pub bound_in : List ℕ → ℕ → List Write → List ℕ → List ℕ
bound_in table row vs out = foldl (λ (out : List ℕ) (v : Write). stored (rows table) (child_of_row table row v.child) v out) out vs

-- the buffer after all writes of the prototype in row i
abbrev pub bound_row : List ℕ → List ℕ → List ℕ → ℕ → List ℕ
bound_row table words out i = bound_in table i (writes (proto_in table i (drop (word_total (take i (rows table))) words))) out

-- the buffer after all writes of the first n rows
unfoldable pub bound_rows : List ℕ → List ℕ → ℕ → List ℕ → List ℕ
bound_rows table words n out = foldl (bound_row table words) out (up_from 0 n)

-- ---- what the code needs

-- an accepted table has at most this many bindings
abbrev pub max_bindings : ℕ
max_bindings = max_rows * max_upvalues

-- a buffer of `room` bytes has room for all records of the table, or for none: where one record fits, all fit
abbrev pub RoomForAllOrNone : List ℕ → ℕ → Type 0
RoomForAllOrNone table room = binding_bytes ≤ room → binding_bytes * binding_total (rows table) ≤ room

-- the children of a row can be bound in a buffer of `room` bytes; `base` is the index of the first record after the row's own
pub record BindsFrom (table : List ℕ) (row base room : ℕ) : Type 0 where
  pub begins : base ≡ first_binding (rows table) (suc row)
  pub few : binding_total (rows table) ≤ max_bindings
  pub fits : RoomForAllOrNone table room

-- `count` companions of an owner can set their records in a buffer of `room` bytes
unfoldable pub Bindable : ℕ → ℕ → ℕ → Companions → Type 0
Bindable base count room None = Unit {0}
Bindable base count room (Bindings n first) = (count ≤ n) × (binding_bytes ≤ room → binding_bytes * (base + first + n) ≤ room)
Bindable base count room Extra = Unit {0}
