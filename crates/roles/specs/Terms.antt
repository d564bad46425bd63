-- What the code's own types stand for: the terms in which its contracts cite the other definitions. Assumes nothing: these are definitions.
use Rattle.std.specs.Prelude.{◌≡◌, ℕ, zero, suc, ◌+◌, ◌%◌, ◌^◌, ◌<◌, ◌≤◌, cond, List, [], ◌∷◌, length, drop, slice_index, slice_index_or, slice_range}
use Rattle.std.proofs.Math.Option.{Option, none, some}
use Rattle.std.specs.declared.option.Option.{Option as Maybe}
use Rattle.std.specs.declared.option.Option.TheVariants as maybe
use Rattle.std.specs.declared.result.Result.{Result}
use Rattle.std.specs.declared.result.Result.TheVariants.{Ok, Err}
use Rattle.base.specs.Lists.{tabulate, total}
use Rattle.opcodes.specs.Words.{is, field_bx, CLOSURE}
use Rattle.roles_spec.specs.Table.{Row, field_at, row_at, rows, child_at, child_of_row, proto_in, row_count}
use Rattle.roles_spec.specs.Roles.{Role, Instruction, ClosureBinding, SetlistExtra, has_extra}
use Rattle.roles_spec.specs.Bindings.{binding_total}
use Rattle.roles_spec.specs.Refusals.{Refused}
use Rattle.roles_spec.specs.Calls.{Answer, refused, accepted}
use Rattle.roles.specs.Bounds.{CoversRows}
use Rattle.roles.specs.declared.refusals.Refusal.{Refusal}
use Rattle.roles.specs.declared.refusals.Refusal.TheVariants as refusal
use Rattle.roles.specs.declared.table.Child.{Child}
use Rattle.roles.specs.declared.table.Column.{Column}
use Rattle.roles.specs.declared.table.Column.TheVariants as column
use Rattle.roles.specs.declared.search.Entry.{Entry}
use Rattle.roles.specs.declared.discovery.Companions.{Companions}
use Rattle.roles.specs.declared.discovery.Companions.TheVariants.{None, Bindings, Extra}
use Rattle.roles.specs.declared.role.Lua51PhysicalRole.{Lua51PhysicalRole}
use Rattle.roles.specs.declared.role.Lua51PhysicalRole.TheVariants as physical

-- ---- refusals and answers

-- the number and the figure of each refusal: no parts, ragged sheet, overfull, loose part, odd figure, miscount, short role tray, short tray
unfoldable pub refused_of : Refusal → Refused
refused_of refusal.NoProtos = record { number = 1; figure = 0 }
refused_of refusal.PartialRow = record { number = 2; figure = 0 }
refused_of refusal.TooLarge = record { number = 3; figure = 0 }
refused_of (refusal.BadDepth row) = record { number = 4; figure = row }
refused_of (refusal.FieldOverLimit row) = record { number = 5; figure = row }
refused_of refusal.WordCountMismatch = record { number = 6; figure = 0 }
refused_of refusal.RoleBufferTooShort = record { number = 7; figure = 0 }
refused_of (refusal.BufferTooShort records) = record { number = 8; figure = records }

-- the refusal of a result, if any
unfoldable pub given_refusal : {A : Type 0} → Result A Refusal → Option Refused
given_refusal (Err r) = some (refused_of r)
given_refusal (Ok a) = none

-- a call's answer
unfoldable pub answer_of : Result ℕ Refusal → Answer ℕ
answer_of (Err r) = refused (refused_of r)
answer_of (Ok n) = accepted n

-- ---- fields

-- the number of a field in document 01's order
abbrev pub column_index : Column → ℕ
column_index column.Depth = 0
column_index column.Words = 1
column_index column.Constants = 2
column_index column.Upvalues = 3
column_index column.Stack = 4

-- the sum of field k over all rows
unfoldable pub field_total : List ℕ → ℕ → ℕ
field_total table k = total (tabulate (row_count table) (λ i. field_at table i k))

-- ---- children

-- the number of binding records of the rows from i on that stand before row j
unfoldable pub records_between : List ℕ → ℕ → ℕ → ℕ
records_between table i j = binding_total (slice_range (rows table) i j)

-- a child that was found: its row, and the index of its first binding record, counted from `first`, the index of row `at`'s. The code counts records
-- modulo 2 ^ 32
unfoldable pub child_from : List ℕ → ℕ → ℕ → Option Row → Maybe Child
child_from table at first none = maybe.None
child_from table at first (some r) = maybe.Some (record { first = (first + records_between table at r.row) % 2 ^ 32; row = r.row })

-- an entry of an index, as a child
abbrev pub found_at : Entry → Maybe Child
found_at e = maybe.Some (record { first = e.first; row = e.row })

-- child i, by its entry in an index
abbrev pub in_index : List Entry → ℕ → Maybe Child
in_index index i = found_at (slice_index_or index i (record { row = 0; first = 0 }))

-- an index has room for as many children as there are rows
abbrev pub RoomForChildren : List ℕ → List Entry → Type 0
RoomForChildren table index = CoversRows table (length index)

-- what is known of the children of the prototype in row `parent`: the first `known` of them stand in the index; the next ones are in the rows from
-- `row` on; `first` is the number of binding records, modulo 2 ^ 32, between the prototype's own and those of that row; from number `end` on there
-- are no children
pub record Tracks (table : List ℕ) (parent : ℕ) (index : List Entry) (known row first end : ℕ) : Type 0 where
  pub room : RoomForChildren table index
  pub within : known ≤ end
  pub few : end ≤ row_count table
  pub indexed : (i : ℕ) → i < known → in_index index i ≡ child_from table (suc parent) 0 (child_of_row table parent i)
  pub later : parent < row
  pub counts : first ≡ records_between table (suc parent) row % 2 ^ 32
  pub resumes : (k : ℕ) → child_of_row table parent (known + k) ≡ child_at (row_at table parent).depth (drop row (rows table)) k
  pub ends : (k : ℕ) → end ≤ k → child_of_row table parent k ≡ none

-- ---- companions

-- the number of binding records, modulo 2 ^ 32, between those of a row and those of its child
unfoldable pub records_before : List ℕ → ℕ → Option Row → ℕ
records_before table row none = 0
records_before table row (some c) = records_between table (suc row) c.row % 2 ^ 32

-- the binding words of a child, if there are any; `first` binding records stand between those of the row and those of the child
unfoldable pub owned_bindings : ℕ → ℕ → Companions
owned_bindings zero first = None
owned_bindings (suc n) first = Bindings (suc n) first

-- a CLOSURE's companions, by the child that it names
unfoldable pub child_bindings : List ℕ → ℕ → ℕ → Companions
child_bindings table row k = owned_bindings (slice_index (proto_in table row []).children k) (records_before table row (child_of_row table row k))

-- what an executable word of the row owns
unfoldable pub companions_of : List ℕ → ℕ → ℕ → Companions
companions_of table row w = cond (is w (CLOSURE ∷ [])) (child_bindings table row (field_bx w)) (cond (has_extra w) Extra None)

-- the roles that companions of the owner at pc take
unfoldable pub claimed_roles : ℕ → Companions → List Role
claimed_roles pc None = []
claimed_roles pc (Bindings n first) = tabulate n (ClosureBinding pc)
claimed_roles pc Extra = SetlistExtra pc ∷ []

-- ---- roles

-- a role of the code, as the definitions have it
abbrev pub role_of : Lua51PhysicalRole → Role
role_of physical.Instruction = Instruction
role_of (physical.ClosureBinding owner index) = ClosureBinding owner index
role_of (physical.SetlistExtra owner) = SetlistExtra owner

-- the pc of a companion's owner
abbrev pub companion_pc : Role → Maybe ℕ
companion_pc Instruction = maybe.None
companion_pc (ClosureBinding owner index) = maybe.Some owner
companion_pc (SetlistExtra owner) = maybe.Some owner
