-- The program packcheck: from its whole input to its whole output, both as bytes (document 01, "What the counter hears").
-- Assumes nothing: these are definitions.
use Rattle.std.specs.Prelude.{ℕ, ◌-◌, ◌*◌, get_or}
use Prim.Native.String.{String}
use mathlib.Core.List.{List, [], ◌∷◌, flat_map, flatten}
use Rattle.roles_spec.specs.Refusals.{Refused}
use Rattle.roles_spec.specs.Calls.{Answer, refused, accepted}
use Rattle.roles_spec.specs.Roles.{role_bytes}
use Rattle.validator_spec.specs.Walk.{Verdict, ValidForParser, Incomplete, Invalid, RowDiagnostic, diagnostic_bytes}
use Rattle.validator_spec.specs.Image.{Image, diagnostics}
use Rattle.validator_spec.specs.Check.{Checked, check_answer}
use Rattle.listing_spec.specs.Text.{text, line, decimal, integer}
use Rattle.listing_spec.specs.Listing.{Read, stopped, done, max_listing_words, read_listing}

-- the names of the codes, from 1
unfoldable pub code_names : List String
code_names =
    "L51-CLOSURE-001" ∷ "L51-SETLIST-001" ∷ "L51-STACK-001" ∷ "L51-OP-001" ∷ "L51-JMP-001" ∷ "L51-JMP-002" ∷ "L51-CONST-003" ∷ "L51-UPVAL-001"
    ∷ "L51-BOOL-001" ∷ "L51-REG-001" ∷ "L51-REG-SPAN-001" ∷ "L51-REG-002" ∷ "L51-REG-003" ∷ "L51-CONST-004" ∷ "L51-CONST-005" ∷ "L51-PROTO-002"
    ∷ "L51-CLOSURE-002" ∷ []

-- the length of the longest name of a code
abbrev pub longest_name : ℕ
longest_name = 16

-- "the code's name"
unfoldable pub code_name : ℕ → String
code_name code = get_or code_names (code - 1) ""

-- "the verdict's name"
unfoldable pub verdict_name : Verdict → String
verdict_name ValidForParser = "ValidForParser"
verdict_name Incomplete = "Incomplete"
verdict_name Invalid = "Invalid"

-- "as `refused 9 3`": "a refusal is the only line"
unfoldable pub refusal_text : Refused → List ℕ
refusal_text r = line (text "refused" ∷ decimal r.number ∷ decimal r.figure ∷ [])

-- "one line a finding with the code's name"
unfoldable pub diagnostic_text : RowDiagnostic → List ℕ
diagnostic_text d =
    line (decimal d.row ∷ integer d.diagnostic.pc ∷ text (code_name d.diagnostic.code) ∷ integer d.diagnostic.value ∷ [])

-- the names lines of the output: before the diagnostics, and before the verdict
abbrev pub diagnostic_names : String
diagnostic_names = "row place code value\n"

abbrev pub verdict_names : String
verdict_names = "verdict findings\n"

-- "a names line, one line a finding with the code's name, a second names line, and the verdict's name with the number of findings"
unfoldable pub result_text : List RowDiagnostic → Checked → List ℕ
result_text ds c =
    flatten (
    text diagnostic_names
    ∷ flat_map diagnostic_text ds
    ∷ text verdict_names
    ∷ line (text (verdict_name c.verdict) ∷ decimal c.count ∷ [])
    ∷ []
    )

-- what the check call answers, as text
unfoldable pub answer_text : List RowDiagnostic → Answer Checked → List ℕ
answer_text ds (refused r) = refusal_text r
answer_text ds (accepted c) = result_text ds c

-- "The program lends 2,048 finding records"
abbrev pub max_listing_diagnostics : ℕ
max_listing_diagnostics = 2048

-- the bytes of these records
abbrev pub diagnostic_room : ℕ
diagnostic_room = diagnostic_bytes * max_listing_diagnostics

-- the bytes of the role records of all words that it reads
abbrev pub role_room : ℕ
role_room = role_bytes * max_listing_words

-- the output for what was read
unfoldable pub output_text : Read Image → List ℕ
output_text (stopped r) = refusal_text r
output_text (done i) = answer_text (diagnostics i) (check_answer i role_room diagnostic_room)

-- "reads standard input": the whole output for a whole input
unfoldable pub packcheck : List ℕ → List ℕ
packcheck input = output_text (read_listing input)
