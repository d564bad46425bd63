-- Small images with their roles, bindings and refusals, in two tables; document 01's P1 to P13 are `validator_spec`'s. proofs/ExampleLaws proves them.
-- Assumes nothing: these are definitions.
use Rattle.std.specs.Prelude.{ℕ, ℤ, pos, negsuc}
use mathlib.Core.List.{List, [], ◌∷◌, ◌++◌, flat_map}
use Rattle.std.proofs.Math.Option.{Option, none}
use Rattle.base.specs.Bytes.{u32_record}
use Rattle.roles_spec.specs.Table.{protos}
use Rattle.roles_spec.specs.Roles.{roles, role_fields}
use Rattle.roles_spec.specs.Bindings.{binding_fields}
use Rattle.roles_spec.specs.Refusals.{Refused, refuse}
use Rattle.roles_spec.specs.Calls.{image_bindings, bindings_refusal}
use Rattle.roles_spec.specs.Samples.{row, parent_rows, parent_words}

-- ---- roles and bindings

-- an image: its rows (depth, words, constants, upvalues, stack) and its words; and its role and binding records
pub record Example : Type 0 where
  pub rows : List ℕ
  pub words : List ℕ
  pub roles : List ℤ
  pub bindings : List ℤ

-- the role records of its image, by the definitions
unfoldable pub roles_of : Example → List ℤ
roles_of e = flat_map role_fields (flat_map roles (protos (u32_record e.rows) (u32_record e.words)))

-- the binding records of its image, by the definitions
unfoldable pub bindings_of : Example → List ℤ
bindings_of e = flat_map binding_fields (image_bindings (u32_record e.rows) (u32_record e.words))

-- an example, by its four lists
abbrev example : List ℕ → List ℕ → List ℤ → List ℤ → Example
example rows words roles bindings = record { rows = rows; words = words; roles = roles; bindings = bindings }

-- the records of an executable word, a CLOSURE's companion and a SETLIST's extra
abbrev instruction : List ℤ
instruction = negsuc 0 ∷ negsuc 0 ∷ []

abbrev companion : ℕ → ℕ → List ℤ
companion owner index = pos owner ∷ pos index ∷ []

abbrev extra : ℕ → List ℤ
extra owner = pos owner ∷ negsuc 0 ∷ []

-- a record of a bound upvalue, and of one that is not
abbrev bound : ℕ → ℕ → ℕ → List ℤ
bound instack index pc = pos instack ∷ pos index ∷ pos pc ∷ []

abbrev start : List ℤ
start = pos 0 ∷ pos 0 ∷ negsuc 0 ∷ []

-- an example: a prototype of these words, and its child with `upvalues` upvalues, which holds a RETURN
abbrev parent : List ℕ → ℕ → List ℤ → List ℤ → Example
parent words upvalues roles bindings = example (parent_rows words upvalues) (parent_words words) (roles ++ instruction) bindings

-- the table of examples
unfoldable pub examples : List Example
examples =
    -- the index is B modulo 256, of a MOVE and of a GETUPVAL; nothing binds
    parent (0x00000024 ∷ 0xc0000000 ∷ []) 1 (instruction ++ companion 0 0) (bound 1 128 1)
    ∷ parent (0x00000024 ∷ 0x80800004 ∷ []) 1 (instruction ++ companion 0 0) (bound 0 1 1)
    ∷ parent (0x00000024 ∷ []) 2 instruction (start ++ start)
    -- truncated, with one of two companions: it is marked, and binds
    ∷ parent (0x00000024 ∷ 0x02000004 ∷ []) 2 (instruction ++ companion 0 0) (bound 0 4 1 ++ start)
    -- a companion, of a CLOSURE or of a SETLIST, that looks like a CLOSURE owns nothing, and leaves its binding
    ∷ parent (0x00000024 ∷ 0x00000024 ∷ 0x0080001e ∷ []) 1 (instruction ++ companion 0 0 ++ instruction) start
    ∷ parent (0x00800022 ∷ 0x00000024 ∷ 0x0080001e ∷ []) 1 (instruction ++ extra 0 ++ instruction) start
    -- a later CLOSURE overwrites, and leaves what it does not bind
    ∷ parent (0x00000024 ∷ 0x00800000 ∷ 0x01000000 ∷ 0x00000024 ∷ 0x01800004 ∷ 0x0000003f ∷ []) 2
    (instruction ++ companion 0 0 ++ companion 0 1 ++ instruction ++ companion 3 0 ++ companion 3 1) (bound 0 3 4 ++ bound 1 2 2)
    -- child 1 is the next row one deeper, not the first child's own child; a CLOSURE whose child is missing owns nothing
    ∷ example (row 0 4 0 0 2 ++ row 1 0 0 2 2 ++ row 2 0 0 2 2 ++ row 1 0 0 1 2) (0x00004024 ∷ 0x00800000 ∷ 0x00008024 ∷ 0x0080001e ∷ [])
    (instruction ++ companion 0 0 ++ instruction ++ instruction) (start ++ start ++ start ++ start ++ bound 1 1 1)
    -- the words of a second row stand after those of the first, and its pcs begin at 0
    ∷ example (row 0 1 0 0 2 ++ row 1 2 0 0 2) (0x0080001e ∷ 0x00800022 ∷ 0x00000007 ∷ []) (instruction ++ instruction ++ extra 0) []
    ∷ []

-- ---- refusals, of the bindings call, which has all eight (3 is not in the table; tests/answers/large.txt has it)

-- a table and words as bytes, the lengths of the two buffers, and the refusal
pub record RefusalExample : Type 0 where
  pub table : List ℕ
  pub words : List ℕ
  pub role_length : ℕ
  pub binding_length : ℕ
  pub expected : Option Refused

-- the refusal of its image and buffers, by the definitions
unfoldable pub refusal_of : RefusalExample → Option Refused
refusal_of e = bindings_refusal e.table e.words e.role_length e.binding_length

-- an example, with the bytes of whole rows and words
abbrev judged : List ℕ → List ℕ → ℕ → ℕ → Option Refused → RefusalExample
judged rows words role_length binding_length expected =
    record { table = u32_record rows; words = u32_record words; role_length = role_length; binding_length = binding_length; expected = expected }

-- the table of refusals
unfoldable pub refusals : List RefusalExample
refusals =
    -- an exact fit, and one byte less in the bindings buffer, and in both: 7 before 8, and 8 tells the records needed
    judged (row 0 1 0 0 2 ++ row 1 0 0 2 2) (0x0080001e ∷ []) 8 24 none
    ∷ judged (row 0 1 0 0 2 ++ row 1 0 0 2 2) (0x0080001e ∷ []) 8 23 (refuse 8 2)
    ∷ judged (row 0 1 0 0 2 ++ row 1 0 0 2 2) (0x0080001e ∷ []) 7 23 (refuse 7 0)
    -- 1, 2: no bytes, and bytes that are no whole row
    ∷ judged [] [] 0 0 (refuse 1 0)
    ∷ judged (0 ∷ 0 ∷ 0 ∷ 0 ∷ []) [] 0 0 (refuse 2 0)
    -- 4: depth 0 and then 2; a second row of depth 0; row 0 of depth 1, before a field over its limit
    ∷ judged (row 0 0 0 0 0 ++ row 2 0 0 0 0) [] 0 0 (refuse 4 1)
    ∷ judged (row 0 0 0 0 0 ++ row 0 0 0 0 0) [] 0 0 (refuse 4 1)
    ∷ judged (row 1 0 2147483648 0 0) [] 0 0 (refuse 4 0)
    -- 5: each field at its limit, and above it, before a wrong word count
    ∷ judged (row 0 0 2147483647 0 255 ++ row 1 0 0 255 0) [] 0 3060 none
    ∷ judged (row 0 1 2147483648 0 0) [] 0 0 (refuse 5 0)
    ∷ judged (row 0 1 0 0 0 ++ row 1 0 0 256 0) [] 0 0 (refuse 5 1)
    ∷ judged (row 0 1 0 0 256) [] 0 0 (refuse 5 0)
    -- 6: fewer words, and more, than the rows state; word counts that add up to 2 ^ 32
    ∷ judged (row 0 1 0 0 0) [] 0 0 (refuse 6 0)
    ∷ judged (row 0 0 0 0 0) (0 ∷ []) 0 0 (refuse 6 0)
    ∷ judged (row 0 4294967295 0 0 0 ++ row 1 1 0 0 0) [] 0 0 (refuse 6 0)
    ∷ []
