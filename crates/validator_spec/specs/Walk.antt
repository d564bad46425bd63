-- The walk over the steps of all rows with its limit, and the verdict (document 01, "Stop"). It knows steps and no prototypes.
-- Assumes nothing: these are definitions.
use Rattle.std.specs.Prelude.{ℕ, suc, ◌+◌, Bool, true, false, ◌&&◌, ◌||◌, cond, ltb, leb, length, ℤ, pos}
use mathlib.Core.List.{List, [], ◌∷◌, ◌++◌, map, foldl}
use Rattle.base.specs.Lists.{any}
use Rattle.roles_spec.specs.Refusals.{max_upvalues}
use Rattle.validator_spec.specs.Diagnostics.{Diagnostic, is_error, Step}

-- a diagnostic with the row of its prototype
pub record RowDiagnostic : Type 0 where
  pub row : ℕ
  pub diagnostic : Diagnostic

-- a diagnostic, in row `row`
abbrev pub in_row : ℕ → Diagnostic → RowDiagnostic
in_row row d = record { row = row; diagnostic = d }

-- the stop: the N at which a test ends the walk
abbrev pub diagnostic_limit : ℕ
diagnostic_limit = 10000

-- the most that the walk over an accepted image finds: "10,255 new ones can occur". That is one below the limit, and the 256 that a word can have
abbrev pub max_diagnostics : ℕ
max_diagnostics = diagnostic_limit + max_upvalues

-- what the walk found, and whether a test ended it
pub record Walk : Type 0 where
  pub found : List RowDiagnostic
  pub ended : Bool

-- nothing found
abbrev pub start : Walk
start = record { found = []; ended = false }

-- "N is incoming warnings plus errors plus findings so far"
abbrev pub count_n : ℕ → Walk → ℕ
count_n incoming v = incoming + length v.found

-- one step: "Where N is 10,000 or more .. the walk ends"; else the step's diagnostics are added
unfoldable pub advance : ℕ → ℕ → Walk → Step → Walk
advance incoming row v s =
    cond (v.ended || s.tested && leb diagnostic_limit (count_n incoming v))
    (record { found = v.found; ended = true })
    (record { found = v.found ++ map (in_row row) s.adds; ended = false })

-- the steps of a row
unfoldable pub walk_row : ℕ → ℕ → Walk → List Step → Walk
walk_row incoming row v steps = foldl (advance incoming row) v steps

-- Row by row, from a row on. "Then the children": they are the rows that come next, and the test "before a child" is the one at the start of its row
unfoldable pub walk_from : ℕ → ℕ → Walk → List (List Step) → Walk
walk_from incoming row v [] = v
walk_from incoming row v (steps ∷ rest) = walk_from incoming (suc row) (walk_row incoming row v steps) rest

-- the walk over all rows, from row 0 on
unfoldable pub walk : ℕ → List (List Step) → Walk
walk incoming all = walk_from incoming 0 start all

-- "N above 10,000 afterwards also counts as reached"
unfoldable pub limit_reached : ℕ → Walk → Bool
limit_reached incoming v = v.ended || ltb diagnostic_limit (count_n incoming v)

-- the test for a diagnostic that is an error
abbrev pub error_in : RowDiagnostic → Bool
error_in d = is_error d.diagnostic

-- "any error, incoming or found"
unfoldable pub has_errors : ℕ → Walk → Bool
has_errors errors v = ltb 0 errors || any error_in v.found

-- the three verdicts
pub data Verdict : Type 0 where
  ValidForParser Incomplete Invalid : Verdict

-- "Invalid with any error, incoming or found; else Incomplete if the limit was reached; else ValidForParser"
unfoldable pub verdict_of : Bool → Bool → Verdict
verdict_of true limit = Invalid
verdict_of false true = Incomplete
verdict_of false false = ValidForParser

-- "Four i32: row, place, code, value"
unfoldable pub diagnostic_fields : RowDiagnostic → List ℤ
diagnostic_fields d = pos d.row ∷ d.diagnostic.pc ∷ pos d.diagnostic.code ∷ d.diagnostic.value ∷ []

-- the length of a diagnostic's record in bytes
abbrev pub diagnostic_bytes : ℕ
diagnostic_bytes = 16
