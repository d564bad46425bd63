-- Small tables and prototypes by their numbers, for examples and proofs: a new field of a row is added here alone.
-- Assumes nothing: these are definitions.
use Rattle.std.specs.Prelude.{ℕ, length}
use mathlib.Core.List.{List, [], ◌∷◌, ◌++◌}
use Rattle.roles_spec.specs.Table.{Row, Proto}

-- a row of the table, as numbers
abbrev pub row : ℕ → ℕ → ℕ → ℕ → ℕ → List ℕ
row depth words constants upvalues stack = depth ∷ words ∷ constants ∷ upvalues ∷ stack ∷ []

-- the rows of a prototype with these words and stack 2, and of its child with `upvalues` upvalues, "holding 0x0080001e"
abbrev pub parent_rows : List ℕ → ℕ → List ℕ
parent_rows words upvalues = row 0 (length words) 0 0 2 ++ row 1 1 0 upvalues 2

-- the words of both
abbrev pub parent_words : List ℕ → List ℕ
parent_words words = words ++ 0x0080001e ∷ []

-- a row with its number, of stack 0 and without constants, as it is read
abbrev pub plain_row : ℕ → ℕ → ℕ → ℕ → Row
plain_row number depth words upvalues =
    record { row = number; depth = depth; words = words; constants = 0; upvalues = upvalues; stack = 0 }

-- a prototype without constants
abbrev pub plain_proto : List ℕ → ℕ → ℕ → List ℕ → Proto
plain_proto code upvalues stack children =
    record { code = code; constants = 0; upvalues = upvalues; stack = stack; children = children }
