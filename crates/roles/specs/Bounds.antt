-- What functions inside the crates ask of a caller, by name. A function that another crate or C can call asks nothing. Assumes nothing: these are definitions.
use Rattle.std.specs.Prelude.{◌≡◌, ℕ, ◌+◌, ◌*◌, ◌/◌, ◌<◌, ◌≤◌, List, length}
use Rattle.std.proofs.Math.Option.{none}
use Rattle.roles_spec.specs.Refusals.{max_rows, max_word_bytes, roles_refusal}
use Rattle.roles_spec.specs.Roles.{role_bytes}
use Rattle.roles_spec.specs.Table.{row_count}

-- a table has no more rows than an image may have
abbrev pub FewRows : List ℕ → Type 0
FewRows table = row_count table ≤ max_rows

-- a table has row i
abbrev pub HasRow : List ℕ → ℕ → Type 0
HasRow table i = i < row_count table

-- n entries are enough: one for each row of a table
abbrev pub CoversRows : List ℕ → ℕ → Type 0
CoversRows table n = row_count table ≤ n

-- words have no more bytes than those of an image may have
abbrev pub FewWords : List ℕ → Type 0
FewWords code = length code ≤ max_word_bytes

-- there is a word at pc
abbrev pub HasWord : List ℕ → ℕ → Type 0
HasWord code pc = pc < length code / 4

-- a buffer has record i, of records of `size` bytes each
abbrev pub HasRecord : ℕ → ℕ → List ℕ → Type 0
HasRecord size i buffer = size * i + size ≤ length buffer

-- `count` records of `size` bytes each fit into a buffer
abbrev pub RecordsFit : ℕ → ℕ → List ℕ → Type 0
RecordsFit size count buffer = size * count ≤ length buffer

-- an image may have a word at pc
abbrev pub SmallPc : ℕ → Type 0
SmallPc pc = 4 * pc < max_word_bytes

-- words, and a buffer of their roles, reach as far as word n
abbrev pub ReachWord : ℕ → List ℕ → List ℕ → Type 0
ReachWord n words roles = (4 * n ≤ length words) × (role_bytes * n ≤ length roles)

-- the roles of these words fit into a buffer
abbrev pub RolesFit : List ℕ → List ℕ → Type 0
RolesFit code out = 2 * length code ≤ length out

-- no refusal from 1 to 7 meets an image and a role buffer
abbrev pub AcceptedFor : List ℕ → List ℕ → List ℕ → Type 0
AcceptedFor table words roles = roles_refusal table words (length roles) ≡ none
