-- Roles (document 01, "Roles"; luad's roles.rs). Assumes nothing: these are definitions.
use Rattle.std.specs.Prelude.{ℕ, suc, ◌+◌, ◌-◌, ◌*◌, ◌/◌, min, Bool, true, false, ◌&&◌, cond, T, eqb, ltb, ◌==◌, nat_lt, length, get_or, slice_index_or, ℤ, pos, negsuc}
use mathlib.Core.List.{List, [], ◌∷◌, ◌++◌, flat_map}
use Rattle.base.specs.Lists.{only, tabulate}
use Rattle.base.specs.Bytes.{i32_bits, u32_from, i32_record}
use Rattle.opcodes.specs.Words.{is, field_bx, operand, C, CLOSURE, SETLIST}
use Rattle.roles_spec.specs.Table.{Proto}

-- luad's `Lua51PhysicalRole`. Instruction: executable. The other two are companions: of a CLOSURE, with its pc and the upvalue's index,
-- and of a SETLIST, with its pc
pub data Role : Type 0 where
  Instruction : Role
  ClosureBinding : ℕ → ℕ → Role
  SetlistExtra : ℕ → Role

-- "A CLOSURE whose child Bx exists owns as many companions as that child has upvalues"
unfoldable pub binding_count : Proto → ℕ → ℕ
binding_count p w = cond (is w (CLOSURE ∷ [])) (get_or p.children (field_bx w) 0) 0

-- "a SETLIST with C = 0 owns one"
unfoldable pub has_extra : ℕ → Bool
has_extra w = is w (SETLIST ∷ []) && eqb (operand C w) 0

-- the roles that an executable word at pc gives to the words after it: "index 0 upward"
unfoldable pub claims : Proto → ℕ → ℕ → List Role
claims p pc w = tabulate (binding_count p w) (ClosureBinding pc) ++ only (has_extra w) (SetlistExtra pc)

-- Front to back. A word with a role claimed for it takes that role, and its bits are not read; another is executable and claims for the words after it
unfoldable pub roles_from : Proto → ℕ → List Role → List ℕ → List Role
roles_from p pc claimed [] = []
roles_from p pc [] (w ∷ ws) = Instruction ∷ roles_from p (suc pc) (claims p pc w) ws
roles_from p pc (r ∷ claimed) (w ∷ ws) = r ∷ roles_from p (suc pc) claimed ws

-- "Word 0 is executable"
unfoldable pub roles : Proto → List Role
roles p = roles_from p 0 [] p.code

-- a pc past the end counts as executable, as in luad's `Lua51RoleMap::get`
unfoldable pub role_at : Proto → ℕ → Role
role_at p pc = get_or (roles p) pc Instruction

-- luad's `is_executable`
abbrev pub is_executable : Role → Bool
is_executable Instruction = true
is_executable (ClosureBinding owner index) = false
is_executable (SetlistExtra owner) = false

-- the word at pc, or 0 past the end. (Definitions that speak of a word ask first whether there is one)
unfoldable pub word_at : Proto → ℕ → ℕ
word_at p pc = get_or p.code pc 0

-- there is a word at pc and it is executable
unfoldable pub executable_at : Proto → ℕ → Bool
executable_at p pc = ltb pc (length p.code) && is_executable (role_at p pc)

-- the same as a proposition: the test passes
abbrev pub Executable : Proto → ℕ → Type 0
Executable p pc = T (executable_at p pc)

-- how many words the word at pc owns: "A companion's bits are never read as an owner"
unfoldable pub owned : Proto → ℕ → ℕ
owned p pc = cond (executable_at p pc) (length (claims p pc (word_at p pc))) 0

-- "Those of the next words that exist": of n words after pc
unfoldable pub existing : Proto → ℕ → ℕ → ℕ
existing p pc n = min n (length p.code - (pc + 1))

-- how many companions the word at pc has
unfoldable pub companions : Proto → ℕ → ℕ
companions p pc = existing p pc (owned p pc)

-- "Truncated: fewer words exist than are owned"
unfoldable pub is_truncated : Proto → ℕ → Bool
is_truncated p pc = ltb (companions p pc) (owned p pc)

-- how many binding words follow the executable CLOSURE at pc, as far as they exist, whatever their opcodes; 0 at other words
unfoldable pub binding_words : Proto → ℕ → ℕ
binding_words p pc = cond (executable_at p pc) (existing p pc (binding_count p (word_at p pc))) 0

-- the owner of the word at pc, by this role of it; pc itself where the word is executable
unfoldable pub last_owner : ℕ → Role → ℕ
last_owner pc Instruction = pc
last_owner pc (ClosureBinding owner index) = owner
last_owner pc (SetlistExtra owner) = owner

-- "two i32 a word: owner place and upvalue index; -1 -1 for executable, owner and -1 for a SETLIST's extra"
unfoldable pub role_fields : Role → List ℤ
role_fields Instruction = negsuc 0 ∷ negsuc 0 ∷ []
role_fields (ClosureBinding owner index) = pos owner ∷ pos index ∷ []
role_fields (SetlistExtra owner) = pos owner ∷ negsuc 0 ∷ []

-- the length of a role record in bytes
abbrev pub role_bytes : ℕ
role_bytes = 8

-- the records of roles, end to end, as bytes
unfoldable pub records_of : List Role → List ℕ
records_of rs = i32_record (flat_map role_fields rs)

-- ---- the records read back

-- the bits of the first field of a role's record
unfoldable pub owner_field : Role → ℕ
owner_field r = i32_bits (slice_index_or (role_fields r) 0 (pos 0))

-- the bits of the second field
unfoldable pub index_field : Role → ℕ
index_field r = i32_bits (slice_index_or (role_fields r) 1 (pos 0))

-- the role whose fields have these bits
unfoldable pub role_from : ℕ → ℕ → Role
role_from owner index = cond (owner == 0xffff_ffff) Instruction (cond (index == 0xffff_ffff) (SetlistExtra owner) (ClosureBinding owner index))

-- the role of the word at pc, from the records of its prototype. A pc past them counts as executable
unfoldable pub role_in : List ℕ → ℕ → Role
role_in records pc =
    cond (nat_lt pc (length records / role_bytes)) (role_from (u32_from records (role_bytes * pc)) (u32_from records (role_bytes * pc + 4))) Instruction
