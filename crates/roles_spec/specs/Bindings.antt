-- Upvalue bindings (document 01, "Bindings"; the end of luad's `load_proto_51`). Assumes nothing: these are definitions.
use Rattle.std.specs.Prelude.{ℕ, ◌+◌, ◌%◌, length, take, drop, set, replicate, ℤ, pos, negsuc}
use mathlib.Core.List.{List, [], ◌∷◌, ◌++◌, map, flat_map, foldl}
use Rattle.std.proofs.Math.Option.{Option, none, some}
use Rattle.base.specs.Lists.{only, up_from, total}
use Rattle.base.specs.Bytes.{i32_record}
use Rattle.opcodes.specs.Words.{is, operand, B, field_bx, MOVE, GETUPVAL}
use Rattle.roles_spec.specs.Table.{Row, Proto, child_at, proto_of}
use Rattle.roles_spec.specs.Roles.{word_at, binding_words}

-- "instack, index, place of the word in the parent"
pub record Binding : Type 0 where
  pub instack : ℕ
  pub idx : ℕ
  pub pc : ℤ

-- "Start: 0 0 -1"
unfoldable pub unbound : Binding
unbound = record { instack = 0; idx = 0; pc = negsuc 0 }

-- the index that a binding word gives: "B modulo 256"
unfoldable pub binding_index : ℕ → ℕ
binding_index w = operand B w % 256

-- what a binding word at pc says: "MOVE gives 1, GETUPVAL gives 0, with B modulo 256"; another opcode says nothing
unfoldable pub binding_of : ℕ → ℕ → List Binding
binding_of pc w = map (λ s. record { instack = s; idx = binding_index w; pc = pos pc }) (only (is w (MOVE ∷ [])) 1 ++ only (is w (GETUPVAL ∷ [])) 0)

-- sets upvalue `upvalue` of child `child` to `binding`
pub record Write : Type 0 where
  pub child : ℕ
  pub upvalue : ℕ
  pub binding : Binding

-- "existing companion j of its child sets binding j"; "another opcode leaves it"
unfoldable pub write_of : ℕ → ℕ → ℕ → ℕ → List Write
write_of child j pc w = map (λ b. record { child = child; upvalue = j; binding = b }) (binding_of pc w)

-- the writes of the word at pc: of "each executable CLOSURE", and none of another word
unfoldable pub writes_at : Proto → ℕ → List Write
writes_at p pc = flat_map (λ j. write_of (field_bx (word_at p pc)) j (pc + 1 + j) (word_at p (pc + 1 + j))) (up_from 0 (binding_words p pc))

-- "in place order"
unfoldable pub writes : Proto → List Write
writes p = flat_map (writes_at p) (up_from 0 (length p.code))

-- ---- the records of all rows: a row's records stand after the records of the rows before it

-- the number of records of these rows
unfoldable pub binding_total : List Row → ℕ
binding_total rs = total (map (λ (r : Row). r.upvalues) rs)

-- the index of the first record of a row
unfoldable pub first_binding : List Row → ℕ → ℕ
first_binding rs row = binding_total (take row rs)

-- a write to the records of a child
unfoldable pub set_binding : List Row → Option Row → Write → List Binding → List Binding
set_binding all none v bs = bs
set_binding all (some child) v bs = set bs (first_binding all child.row + v.upvalue) v.binding

-- row by row; "a later CLOSURE overwrites"
unfoldable pub bind_rows : List Row → List Row → List ℕ → List Binding → List Binding
bind_rows all [] words bs = bs
bind_rows all (r ∷ rs) words bs =
    bind_rows all rs (drop r.words words)
    (foldl (λ (bs : List Binding) (v : Write). set_binding all (child_at r.depth rs v.child) v bs) bs (writes (proto_of r rs words)))

-- all records: from the start, row by row
unfoldable pub bindings : List Row → List ℕ → List Binding
bindings rs words = bind_rows rs rs words (replicate (binding_total rs) unbound)

-- "Three i32"
unfoldable pub binding_fields : Binding → List ℤ
binding_fields b = pos b.instack ∷ pos b.idx ∷ b.pc ∷ []

-- the length of a binding record in bytes
abbrev pub binding_bytes : ℕ
binding_bytes = 12

-- the records of bindings, end to end, as bytes
unfoldable pub binding_records : List Binding → List ℕ
binding_records bs = i32_record (flat_map binding_fields bs)
