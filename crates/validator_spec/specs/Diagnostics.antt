-- The diagnostics of one prototype, with no limit (document 01, "Findings"; luad's validator.rs). Assumes nothing: these are definitions.
use Rattle.std.specs.Prelude.{ℕ, ◌+◌, Bool, true, false, ◌&&◌, cond, not, eqb, ltb, leb, length, ℤ, pos, negsuc}
use mathlib.Core.List.{List, [], ◌∷◌, ◌++◌, map, flat_map, flatten}
use Rattle.base.specs.Lists.{only, up_from, select}
use Rattle.opcodes.specs.Words.{opcode, is, B, C, CLOSURE}
use Rattle.roles_spec.specs.Table.{Proto}
use Rattle.roles_spec.specs.Roles.{role_at, is_executable, word_at, executable_at, owned, is_truncated, binding_words}
use Rattle.validator_spec.specs.Operands.{is_unknown, is_binding, is_jump, target, is_skip, skip_target, constant_bx, upvalue_b, flag_a, flag_limit, register_a, span_ends, register_in, constant_in, child_bx, captured_register, captured_upvalue}

-- a diagnostic (the document's finding) without its row; `code` is the number in the document's table
pub record Diagnostic : Type 0 where
  pub pc : ℤ
  pub code : ℕ
  pub value : ℤ

-- the number of codes, which are numbered from 1
abbrev pub code_count : ℕ
code_count = 17

-- a diagnostic at a word
abbrev pub diagnostic : ℕ → ℕ → ℤ → Diagnostic
diagnostic pc code value = record { pc = pos pc; code = code; value = value }

-- code 3 is "the only warning"
abbrev pub is_error : Diagnostic → Bool
is_error d = not (eqb d.code 3)

-- ---- of the prototype

-- codes 1 and 2: truncated CLOSURE, with the child's upvalues, and truncated SETLIST
unfoldable pub truncation_at : Proto → ℕ → List Diagnostic
truncation_at p pc =
    only (is_truncated p pc)
    (cond (is (word_at p pc) (CLOSURE ∷ [])) (diagnostic pc 1 (pos (owned p pc))) (diagnostic pc 2 (pos 0)))

-- "stack above 250": the largest stack without a warning
abbrev pub usual_stack : ℕ
usual_stack = 250

-- the stack of a prototype is larger
unfoldable pub has_large_stack : Proto → Bool
has_large_stack p = ltb usual_stack p.stack

-- code 3, "place -1"
unfoldable pub stack_diagnostics : Proto → List Diagnostic
stack_diagnostics p = only (has_large_stack p) (record { pc = negsuc 0; code = 3; value = pos p.stack })

-- ---- of an executable word

-- code 4
unfoldable pub opcode_diagnostics : ℕ → ℕ → List Diagnostic
opcode_diagnostics pc w = only (is_unknown w) (diagnostic pc 4 (pos (opcode w)))

-- codes 5 and 6 for a target: "negative or not below the word count"; "else a companion there"
unfoldable pub target_diagnostics : Proto → ℕ → ℤ → List Diagnostic
target_diagnostics p pc (negsuc n) = diagnostic pc 5 (negsuc n) ∷ []
target_diagnostics p pc (pos n) =
    cond (ltb n (length p.code)) (only (not (is_executable (role_at p n))) (diagnostic pc 6 (pos n))) (diagnostic pc 5 (pos n) ∷ [])

-- codes 5 and 6 of a word with a target
unfoldable pub jump_diagnostics : Proto → ℕ → ℕ → List Diagnostic
jump_diagnostics p pc w = cond (is_jump w) (target_diagnostics p pc (target pc w)) []

-- code 6, "or a skip to one": "a skip past the last word is no finding", since a pc past the end counts as executable
unfoldable pub skip_diagnostics : Proto → ℕ → ℕ → List Diagnostic
skip_diagnostics p pc w = only (is_skip w && not (is_executable (role_at p (skip_target pc)))) (diagnostic pc 6 (pos (skip_target pc)))

-- the diagnostics of operands that are "not below" their limit
unfoldable pub not_below : ℕ → ℕ → ℕ → List ℕ → List Diagnostic
not_below pc code limit vs = map (λ v. diagnostic pc code (pos v)) (select (λ v. leb limit v) vs)

-- codes 7 to 16, in the table's order
unfoldable pub operand_diagnostics : Proto → ℕ → ℕ → List Diagnostic
operand_diagnostics p pc w =
    flatten (
    not_below pc 7 p.constants (constant_bx w)
    ∷ not_below pc 8 p.upvalues (upvalue_b w)
    ∷ not_below pc 9 flag_limit (flag_a w)
    ∷ not_below pc 10 p.stack (register_a w)
    ∷ not_below pc 11 p.stack (span_ends w)
    ∷ not_below pc 12 p.stack (register_in B w)
    ∷ not_below pc 13 p.stack (register_in C w)
    ∷ not_below pc 14 p.constants (constant_in B w)
    ∷ not_below pc 15 p.constants (constant_in C w)
    ∷ not_below pc 16 (length p.children) (child_bx w)
    ∷ []
    )

-- "its opcode or -1 if unknown"
unfoldable pub opcode_value : ℕ → ℤ
opcode_value w = cond (is_unknown w) (negsuc 0) (pos (opcode w))

-- codes 17, 12 and 8 at a companion of a CLOSURE, "at its own place"
unfoldable pub binding_diagnostics : Proto → ℕ → List Diagnostic
binding_diagnostics p pc =
    let w = word_at p pc in
    flatten (
    only (not (is_binding w)) (diagnostic pc 17 (opcode_value w))
    ∷ not_below pc 12 p.stack (captured_register w)
    ∷ not_below pc 8 p.upvalues (captured_upvalue w)
    ∷ []
    )

-- codes 5 to 17: a word of a known opcode, and "for each existing companion" those of a CLOSURE
unfoldable pub known_diagnostics : Proto → ℕ → ℕ → List Diagnostic
known_diagnostics p pc w =
    flatten (
    jump_diagnostics p pc w
    ∷ skip_diagnostics p pc w
    ∷ operand_diagnostics p pc w
    ∷ flat_map (binding_diagnostics p) (up_from (pc + 1) (binding_words p pc))
    ∷ []
    )

-- codes 4 to 17: after code 4 "nothing more for this word"
unfoldable pub word_diagnostics : Proto → ℕ → ℕ → List Diagnostic
word_diagnostics p pc w = opcode_diagnostics pc w ++ cond (is_unknown w) [] (known_diagnostics p pc w)

-- the diagnostics of the word at pc; a companion has none, and neither has a pc without a word
unfoldable pub diagnostics_at : Proto → ℕ → List Diagnostic
diagnostics_at p pc = cond (executable_at p pc) (word_diagnostics p pc (word_at p pc)) []

-- ---- the steps of the walk over a prototype

-- whether N is tested before a step, and the diagnostics that it adds
pub record Step : Type 0 where
  pub tested : Bool
  pub adds : List Diagnostic

-- tested
unfoldable pub tested_step : List Diagnostic → Step
tested_step ds = record { tested = true; adds = ds }

-- not tested
unfoldable pub untested_step : List Diagnostic → Step
untested_step ds = record { tested = false; adds = ds }

-- "Per row: truncation findings by place; STACK; each executable word's findings". N is tested "at the start of a row, before a truncation finding,
-- before any word", and not "before code 3 or inside one word"
unfoldable pub proto_steps : Proto → List Step
proto_steps p =
    let pcs = up_from 0 (length p.code) in
    flatten (
    (tested_step [] ∷ [])
    ∷ map (λ d. tested_step (d ∷ [])) (flat_map (truncation_at p) pcs)
    ∷ (untested_step (stack_diagnostics p) ∷ [])
    ∷ map (λ pc. tested_step (diagnostics_at p pc)) pcs
    ∷ []
    )
