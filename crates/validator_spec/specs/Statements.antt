-- Terms that proofs/Theorems uses beside document 01's definitions. Assumes nothing: these are definitions.
use Rattle.std.specs.Prelude.{ℕ, zero, suc, ◌+◌, ◌≤◌, ◌<◌, ◌≡◌, ◌≢◌, ◌↔◌, ◌⊎◌, Bool, not, T, length, get_or, drop}
use mathlib.Core.List.{List, [], ◌∷◌, map, foldl}
use Rattle.base.specs.Lists.{All, Some, elem, select, up_from}
use Rattle.roles_spec.specs.Table.{Row, row_at, rows, children, Proto}
use Rattle.validator_spec.specs.Diagnostics.{Diagnostic, has_large_stack, Step, tested_step, proto_steps}
use Rattle.validator_spec.specs.Walk.{RowDiagnostic, diagnostic_limit, max_diagnostics, Walk, start, advance, walk_row, ValidForParser, Invalid}
use Rattle.validator_spec.specs.Image.{Image, image_protos, diagnostics, verdict}
use Rattle.validator_spec.specs.Check.{Checked}
use Rattle.validator_spec.specs.Rules.{WellFormed}
use Rattle.validator_spec.specs.Executions.{Exit, ended_at, no_word_at, out_of_choices, SafeRun}

-- how many prototypes have a stack above 250: each adds a warning
unfoldable pub large_stacks : List Proto → ℕ
large_stacks ps = length (select has_large_stack ps)

-- a diagnostic that is an error: other than code 3
abbrev pub IsError : RowDiagnostic → Type 0
IsError d = d.diagnostic.code ≢ 3

-- the codes of the operands that a word names: constants 7, 14 and 15, upvalues 8, registers 10 to 13, child 16; at companions 12 and 8
abbrev pub operand_codes : List ℕ
operand_codes = 7 ∷ 8 ∷ up_from 10 7

-- a diagnostic of another code
abbrev pub OfNoOperand : Diagnostic → Type 0
OfNoOperand d = T (not (elem d.code operand_codes))

-- The own steps of row r, "then the children", each after the test "before a child". `rs` are all rows and `all` their steps; `fuel` is at least the number
-- of the rows from r on
unfoldable pub walk_proto : ℕ → List Row → List (List Step) → ℕ → Row → Walk → Walk
walk_proto incoming rs all zero r v = v
walk_proto incoming rs all (suc fuel) r v =
    let own = walk_row incoming r.row v (get_or all r.row []) in
    let child = λ (u : Walk) (c : Row). walk_proto incoming rs all fuel c (advance incoming c.row u (tested_step [])) in
    foldl child own (children r.depth (drop (suc r.row) rs))

-- the walk over an image by prototypes and their children: row 0 with its children, which have theirs
unfoldable pub walk_by_children : Image → Walk
walk_by_children i =
    let rs = rows i.table in
    walk_proto (i.warnings + i.errors) rs (map proto_steps (image_protos i)) (length rs) (row_at i.table 0) start

-- a run whose list of choices gave out: it is at a word
abbrev pub GaveOut : Exit → Type 0
GaveOut (ended_at pc) = ⊥
GaveOut (no_word_at z) = ⊥
GaveOut out_of_choices = Unit {0}

-- a prototype that keeps the rules and of which every run is safe
pub record Passed (p : Proto) : Type 0 where
  pub well_formed : WellFormed p
  pub runs : (choices : List Bool) → SafeRun p choices

-- Demand 3, and what an accepted check call says of its image: `c` is its result
pub record Guarantee (i : Image) (c : Checked) : Type 0 where
  -- verdict and number are those of document 01's diagnostics
  pub verdict : c.verdict ≡ verdict i
  pub count : c.count ≡ length (diagnostics i)
  -- a prototype that keeps the rules: every run of it is safe, whatever the verdict
  pub safe : All (λ p. WellFormed p → (choices : List Bool) → SafeRun p choices) (image_protos i)
  -- ValidForParser, whatever came in: every prototype keeps the rules, and every run of it is safe
  pub valid : c.verdict ≡ ValidForParser → All Passed (image_protos i)
  -- with no incoming error, and incoming warnings and prototypes with stack above 250 together below 10,000: ValidForParser exactly then
  pub exact : i.errors ≡ 0 → i.warnings + large_stacks (image_protos i) < diagnostic_limit → (c.verdict ≡ ValidForParser) ↔ All WellFormed (image_protos i)
  -- Invalid exactly when an error came in or was found
  pub invalid : (c.verdict ≡ Invalid) ↔ ((0 < i.errors) ⊎ Some IsError (diagnostics i))
  -- and at most `max_diagnostics` diagnostics
  pub most : c.count ≤ max_diagnostics
