-- What the code's own types stand for: the terms in which its contracts cite the definitions of `validator_spec`. Assumes nothing: these are definitions.
use Rattle.std.specs.Prelude.{◌≡◌, ℕ, suc, ◌+◌, ◌<◌, ◌≤◌, ◌||◌, List, [], ◌∷◌, length, drop, pos, nat_lt, slice_index, slice_index_or, Option, Some, None, Result, Ok, Err}
use Rattle.std.proofs.Math.Option.{none}
use Rattle.base.specs.Bytes.{u32s}
use Rattle.opcodes.specs.Words.{decoded}
use Rattle.opcodes.specs.declared.Opcode51.{Opcode51}
use Rattle.opcodes.specs.declared.OpcodeField.TheVariants.{Known}
use Rattle.opcodes.specs.declared.RawInstruction51.{RawInstruction51}
use Rattle.roles_spec.specs.Table.{Proto, row_at, rows, children, row_count}
use Rattle.roles_spec.specs.Roles.{role_at, role_in}
use Rattle.roles_spec.specs.Refusals.{bad_depth, max_depth}
use Rattle.roles_spec.specs.Calls.{Answer, refused, accepted}
use Rattle.roles.specs.Bounds.{CoversRows, FewRows, HasRow}
use Rattle.roles.specs.Terms.{refused_of}
use Rattle.roles.specs.declared.refusals.Refusal.{Refusal}
use Rattle.validator_spec.specs.Diagnostics.{Diagnostic, diagnostic}
use Rattle.validator_spec.specs.Walk.{Verdict, ValidForParser, Incomplete, Invalid, diagnostic_limit, verdict_of}
use Rattle.validator_spec.specs.Image.{Image}
use Rattle.validator_spec.specs.Check.{Checked}
use Rattle.validator.specs.declared.calls.Validation.{Validation}
use Rattle.validator.specs.declared.calls.Verdict.{Verdict as VerdictCode}
use Rattle.validator.specs.declared.calls.Verdict.TheVariants as code
use Rattle.validator.specs.declared.codes.Code.{Code}
use Rattle.validator.specs.declared.codes.Code.TheVariants as diagnosed
use Rattle.validator.specs.declared.fault.Lua51RoleFault.{Lua51RoleFault}
use Rattle.validator.specs.declared.fault.Lua51RoleFault.TheVariants as fault
use Rattle.validator.specs.declared.image.Image.{Image as ImageCode}
use Rattle.validator.specs.declared.rows.RowLimits.{RowLimits}
use Rattle.validator.specs.declared.state.WalkState.{WalkState}

-- ---- the call

-- the image that the call is given
abbrev pub image_of : List ℕ → List ℕ → ℕ → ℕ → Image
image_of table words warnings errors = record { table = table; words = words; warnings = warnings; errors = errors }

-- the image, as the code holds it
abbrev pub image_in : ImageCode → Image
image_in i = image_of i.table.now i.words.now i.warnings i.errors

-- a verdict
unfoldable pub verdict_of_case : VerdictCode → Verdict
verdict_of_case code.ValidForParser = ValidForParser
verdict_of_case code.Incomplete = Incomplete
verdict_of_case code.Invalid = Invalid

-- the verdict and the number of diagnostics
unfoldable pub checked_of : Validation → Checked
checked_of v = record { verdict = verdict_of_case v.verdict; count = v.count }

-- the call's answer
unfoldable pub answer_of : Result Validation Refusal → Answer Checked
answer_of (Err r) = refused (refused_of r)
answer_of (Ok v) = accepted (checked_of v)

-- what a walk that has ended says
unfoldable pub concluded : ℕ → ℕ → WalkState → Checked
concluded warnings errors w =
    record {
      verdict = verdict_of (nat_lt 0 errors || w.error) (w.limit || nat_lt diagnostic_limit (warnings + errors + w.count));
      count = w.count;
    }

-- ---- diagnostics

-- the number of a code in document 01's table
abbrev pub code_number : Code → ℕ
code_number diagnosed.Closure001 = 1
code_number diagnosed.Setlist001 = 2
code_number diagnosed.Stack001 = 3
code_number diagnosed.Op001 = 4
code_number diagnosed.Jmp001 = 5
code_number diagnosed.Jmp002 = 6
code_number diagnosed.Const003 = 7
code_number diagnosed.Upval001 = 8
code_number diagnosed.Bool001 = 9
code_number diagnosed.Reg001 = 10
code_number diagnosed.RegSpan001 = 11
code_number diagnosed.Reg002 = 12
code_number diagnosed.Reg003 = 13
code_number diagnosed.Const004 = 14
code_number diagnosed.Const005 = 15
code_number diagnosed.Proto002 = 16
code_number diagnosed.Closure002 = 17

-- ---- a prototype

-- how many children the prototype in row i has
abbrev pub child_count : List ℕ → ℕ → ℕ
child_count table i = length (children (row_at table i).depth (drop (suc i) (rows table)))

-- the limits of the prototype in row i
unfoldable pub row_limits : List ℕ → ℕ → RowLimits
row_limits table i =
    let r = row_at table i in
    record {
      row = i;
      depth = r.depth;
      words = r.words;
      constants = r.constants;
      upvalues = r.upvalues;
      stack = r.stack;
      children = child_count table i;
    }

-- a list has the number of children of each row
pub record ChildCounts (table counts : List ℕ) : Type 0 where
  pub room : CoversRows table (length counts)
  pub counted : (i : ℕ) → HasRow table i → slice_index counts i ≡ child_count table i

-- the rows are in preorder, and not too many
pub record Ordered (table : List ℕ) : Type 0 where
  pub depths : bad_depth 0 0 (rows table) ≡ none
  pub few : FewRows table

-- the depths that a row can have, and one more
abbrev pub depths : ℕ
depths = max_depth + 2

-- the rows from `row` on were counted: `counts` has the number of children of each; `pending` has, at each depth but 0, how many of these rows have
-- this depth and stand before any that is less deep, and at depth 0 at most as many as were counted
pub record Counted (table : List ℕ) (row : ℕ) (counts pending : List ℕ) : Type 0 where
  pub room : CoversRows table (length counts)
  pub deep : length pending ≡ depths
  pub counted : (i : ℕ) → row ≤ i → HasRow table i → slice_index counts i ≡ child_count table i
  pub opened : (d : ℕ) → d < max_depth + 1 → slice_index pending (suc d) ≡ length (children d (drop row (rows table)))
  pub roots : slice_index_or pending 0 0 + row ≤ row_count table

-- the limits of a prototype's operands are these
pub record HasLimits (p : Proto) (q : RowLimits) : Type 0 where
  pub constants : p.constants ≡ q.constants
  pub upvalues : p.upvalues ≡ q.upvalues
  pub stack : p.stack ≡ q.stack
  pub children : length p.children ≡ q.children

-- a prototype has as many words as `q` says, and their roles are those of the records
pub record Stands (p : Proto) (q : RowLimits) (records : List ℕ) : Type 0 where
  pub words : length p.code ≡ q.words
  pub roles : (pc : ℕ) → role_in records pc ≡ role_at p pc

-- all that the code is given of a prototype
pub record Describes (p : Proto) (q : RowLimits) (bytes records : List ℕ) : Type 0 where
  pub limits : HasLimits p q
  pub stands : Stands p q records
  pub code : p.code ≡ u32s bytes

-- ---- a word

-- the word was split, and its opcode is known
pub record Decodes (op : Opcode51) (w : RawInstruction51) : Type 0 where
  pub split : w ≡ decoded w.raw
  pub known : w.opcode ≡ Known op

-- what a word names, as the list of `validator_spec`'s definitions: none or one
abbrev pub as_list : Option ℕ → List ℕ
as_list None = []
as_list (Some v) = v ∷ []

-- ---- truncated owners

-- the diagnostics of a fault: codes 1 and 2
unfoldable pub fault_diagnostics : Option Lua51RoleFault → List Diagnostic
fault_diagnostics None = []
fault_diagnostics (Some (fault.TruncatedClosure pc upvalues)) = diagnostic pc 1 (pos upvalues) ∷ []
fault_diagnostics (Some (fault.TruncatedSetlist pc)) = diagnostic pc 2 (pos 0) ∷ []
