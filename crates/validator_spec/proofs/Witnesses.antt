-- The claims are not empty: for each rule a prototype that breaks it, for each named operand, exit and word that a safe run excludes a run that has it,
-- and a prototype that keeps all rules. (For each verdict the table has an image.) Assumes nothing.
use Prim.Native.Nat.{ℕ, zero, suc, ◌<◌}
use native.Mathlib.Nat.{not-suc-le-zero, le_of_suc-le-suc}
use native.Mathlib.Omega.{arith}
use mathlib.Core.Path.{◌≡◌, refl, subst⁻¹}
use mathlib.Core.Bool.{true}
use mathlib.Core.List.{List, [], ◌∷◌, flatten, flat_map, map}
use lib.ListN.{length}
use lib.IntN.{pos}
use Rattle.base.specs.Lists.{only}
use Rattle.opcodes.specs.Words.{is, B, C, is_constant, constant_index}
use Rattle.base.proofs.AllLaws.{all_head, all_tail}
use Rattle.roles_spec.specs.Table.{Proto}
use Rattle.roles_spec.specs.Roles.{Executable, binding_count, has_extra, claims, roles_from, roles, role_at, word_at, executable_at, owned, existing, companions, is_truncated, binding_words}
use Rattle.roles_spec.specs.Samples.{plain_proto}
use Rattle.roles_spec.proofs.RoleLaws.{executable, first_executable}
use Rattle.validator_spec.specs.Operands.{is_unknown, is_binding, target, is_jump, is_skip, is_loadbool_skip, skip_target, constant_bx, upvalue_b, flag_a, register_a, span_ends, register_in, constant_in, child_bx, captured_register, captured_upvalue}
use Rattle.validator_spec.specs.Diagnostics.{Diagnostic, code_count, binding_diagnostics, opcode_value, has_large_stack, truncation_at, opcode_diagnostics, jump_diagnostics, skip_diagnostics, not_below, operand_diagnostics, known_diagnostics, word_diagnostics, diagnostics_at}
use Rattle.validator_spec.specs.Rules.{registers_of, constants_of, WellFormed}
use Rattle.validator_spec.specs.Executions.{ended_at, no_word_at, arrive, next, meet, run_from, run, MayLeave, SafeRun}
use Rattle.validator_spec.specs.Statements.{large_stacks}
use Rattle.validator_spec.proofs.RuleDiagnosticLaws.{well_formed_iff_none}

-- one word, without constants, upvalues and children
abbrev one_word : ℕ → ℕ → Proto
one_word w stack = plain_proto (w ∷ []) 0 stack []

-- a CLOSURE of child 0, which has one upvalue, and its companion
abbrev bound : ℕ → Proto
bound w = plain_proto (0x00000024 ∷ w ∷ []) 0 2 (1 ∷ [])

-- the last code occurs: of a companion of an unknown opcode
pub last_code_occurs : map (λ (d : Diagnostic). d.code) (binding_diagnostics (bound 0x0000003f) 1) ≡ code_count ∷ []
unfolding binding_diagnostics opcode_value only not_below captured_register captured_upvalue word_at is is_binding flatten
last_code_occurs = refl

-- the first word of any prototype that has one is executable
first : (w : ℕ) (ws : List ℕ) (p : Proto) → p.code ≡ w ∷ ws → Executable p 0
first w ws p e = executable p 0 (subst⁻¹ (λ (l : List ℕ). 0 < length l) e (omega arith)) (first_executable p)

-- ---- a prototype that breaks the rules, by one rule each

-- a SETLIST without the word that it owns
pub breaks_truncated : WellFormed (one_word 0x00800022 2) → ⊥
unfolding is_truncated companions existing owned claims binding_count has_extra word_at executable_at role_at roles roles_from is C only
breaks_truncated k = (k.words 0 (first _ [] (one_word 0x00800022 2) refl)).truncated

-- opcode 63
pub breaks_opcode : WellFormed (one_word 0x0000003f 2) → ⊥
unfolding is_unknown word_at
breaks_opcode k = (k.words 0 (first _ [] (one_word 0x0000003f 2) refl)).opcode

-- a JMP to before the first word, and one to just past the last
pub breaks_jump : WellFormed (one_word 0x7fff4016 2) → ⊥
unfolding is_jump target word_at is
breaks_jump k = (k.words 0 (first _ [] (one_word 0x7fff4016 2) refl)).jump.target tt

pub breaks_jump_past : WellFormed (one_word 0x7fffc016 2) → ⊥
unfolding is_jump target word_at is executable_at
breaks_jump_past k = (k.words 0 (first _ [] (one_word 0x7fffc016 2) refl)).jump.target tt

-- an EQ that skips to the extra word of a SETLIST
abbrev skips_to_extra : Proto
skips_to_extra = plain_proto (0x00000017 ∷ 0x00000022 ∷ 0x0080001e ∷ []) 0 2 []

pub breaks_skip : WellFormed skips_to_extra → ⊥
unfolding is_skip is_loadbool_skip skip_target word_at is role_at roles roles_from claims binding_count has_extra C only
breaks_skip k = (k.words 0 (first _ (0x00000022 ∷ 0x0080001e ∷ []) skips_to_extra refl)).jump.skip tt

-- a LOADK of constant 0, where there are none
pub breaks_constant : WellFormed (one_word 0x00000001 2) → ⊥
unfolding constants_of constant_bx word_at is only flatten
breaks_constant k = let h : 0 < 0 = all_head (k.words 0 (first _ [] (one_word 0x00000001 2) refl)).constant in omega arith

-- a GETUPVAL of upvalue 0, where there are none
pub breaks_upvalue : WellFormed (one_word 0x00000004 2) → ⊥
unfolding upvalue_b word_at is B only
breaks_upvalue k = let h : 0 < 0 = all_head (k.words 0 (first _ [] (one_word 0x00000004 2) refl)).upvalue in omega arith

-- an EQ with flag 2
pub breaks_flag : WellFormed (one_word 0x00000097 1) → ⊥
unfolding flag_a word_at is only
breaks_flag k = let h : 2 < 2 = all_head (k.words 0 (first _ [] (one_word 0x00000097 1) refl)).flag in omega arith

-- a RETURN of register 0, where there are none
pub breaks_register : WellFormed (one_word 0x0080001e 0) → ⊥
unfolding registers_of register_a is_unknown word_at is only flatten
breaks_register k = let h : 0 < 0 = all_head (k.words 0 (first _ [] (one_word 0x0080001e 0) refl)).register in omega arith

-- a CLOSURE of child 0, where there are none
pub breaks_proto : WellFormed (one_word 0x00000024 2) → ⊥
unfolding child_bx word_at is only
breaks_proto k = let h : 0 < 0 = all_head (k.words 0 (first _ [] (one_word 0x00000024 2) refl)).proto in omega arith

-- a CLOSURE whose companion is an ADD
pub breaks_binding : WellFormed (bound 0x0000000c) → ⊥
unfolding binding_words existing binding_count word_at executable_at role_at roles roles_from is_binding is
breaks_binding k = ((k.words 0 (first _ (0x0000000c ∷ []) (bound 0x0000000c) refl)).binding 0 (omega arith)).opcode

-- ---- a run that is not safe: it meets a word with an operand out of range, one of each kind

-- register A: a MOVE to register 2, where there are two
pub unsafe_register_a : SafeRun (one_word 0x00000080 2) [] → ⊥
unfolding SafeRun run run_from arrive word_at is registers_of register_a is_unknown only flatten
unsafe_register_a s = let h : 2 < 2 = all_head (all_head s.met).operands.register in omega arith

-- the last register of a span: a RETURN of registers 0 and 1, where there is one
pub unsafe_span : SafeRun (one_word 0x0180001e 1) [] → ⊥
unfolding SafeRun run run_from arrive word_at is registers_of register_a span_ends is_unknown B C only flatten
unsafe_span s = let h : 1 < 1 = all_head (all_tail (all_head s.met).operands.register) in omega arith

-- register B: a MOVE of register 2
pub unsafe_register_b : SafeRun (one_word 0x01000000 2) [] → ⊥
unfolding SafeRun run run_from arrive word_at is registers_of register_a span_ends register_in is_unknown B C only flatten
unsafe_register_b s = let h : 2 < 2 = all_head (all_tail (all_head s.met).operands.register) in omega arith

-- register C: an ADD of registers 0 and 2
pub unsafe_register_c : SafeRun (one_word 0x0000800c 2) [] → ⊥
unfolding SafeRun run run_from arrive word_at is registers_of register_a span_ends register_in is_constant is_unknown B C only flatten
unsafe_register_c s = let h : 2 < 2 = all_head (all_tail (all_tail (all_head s.met).operands.register)) in omega arith

-- constant Bx: a LOADK of constant 0
pub unsafe_constant_bx : SafeRun (one_word 0x00000001 2) [] → ⊥
unfolding SafeRun run run_from arrive word_at is constants_of constant_bx only flatten
unsafe_constant_bx s = let h : 0 < 0 = all_head (all_head s.met).operands.constant in omega arith

-- constants by RK: an ADD of constant 0 and register 0, and of register 0 and constant 0
pub unsafe_constant_b : SafeRun (one_word 0x8000000c 2) [] → ⊥
unfolding SafeRun run run_from arrive word_at is constants_of constant_bx constant_in is_constant constant_index B only flatten
unsafe_constant_b s = let h : 0 < 0 = all_head (all_head s.met).operands.constant in omega arith

pub unsafe_constant_c : SafeRun (one_word 0x0040000c 2) [] → ⊥
unfolding SafeRun run run_from arrive word_at is constants_of constant_bx constant_in is_constant constant_index B C only flatten
unsafe_constant_c s = let h : 0 < 0 = all_head (all_head s.met).operands.constant in omega arith

-- an upvalue: a GETUPVAL of upvalue 0
pub unsafe_upvalue : SafeRun (one_word 0x00000004 2) [] → ⊥
unfolding SafeRun run run_from arrive word_at is upvalue_b B only
unsafe_upvalue s = let h : 0 < 0 = all_head (all_head s.met).operands.upvalue in omega arith

-- a child: a CLOSURE of child 0
pub unsafe_child : SafeRun (one_word 0x00000024 2) [] → ⊥
unfolding SafeRun run run_from arrive word_at is child_bx only
unsafe_child s = let h : 0 < 0 = all_head (all_head s.met).operands.child in omega arith

-- a captured register: a companion that is a MOVE of register 2
pub unsafe_captured_register : SafeRun (bound 0x01000000) [] → ⊥
unfolding SafeRun run run_from arrive word_at is binding_words existing binding_count executable_at role_at roles roles_from captured_register B only
unsafe_captured_register s = let h : 2 < 2 = all_head ((all_head s.met).operands.captures 0 (omega arith)).register in omega arith

-- a captured upvalue: a companion that is a GETUPVAL of upvalue 0
pub unsafe_captured_upvalue : SafeRun (bound 0x00000004) [] → ⊥
unfolding SafeRun run run_from arrive word_at is binding_words existing binding_count executable_at role_at roles roles_from captured_upvalue B only
unsafe_captured_upvalue s = let h : 0 < 0 = all_head ((all_head s.met).operands.captures 0 (omega arith)).upvalue in omega arith

-- ---- or it meets a companion, or leaves where it may not

-- a JMP to the extra word of a SETLIST
abbrev jumps_to_extra : Proto
jumps_to_extra = plain_proto (0x80000016 ∷ 0x00000022 ∷ 0x0080001e ∷ []) 0 2 []

pub unsafe_extra : SafeRun jumps_to_extra (true ∷ []) → ⊥
unfolding SafeRun run run_from meet next arrive word_at is target executable_at role_at roles roles_from claims binding_count has_extra C only
unsafe_extra s = (all_head (all_tail s.met)).executable

-- a JMP to the binding word of a CLOSURE
abbrev jumps_to_binding : Proto
jumps_to_binding = plain_proto (0x80000016 ∷ 0x00000024 ∷ 0x00000000 ∷ []) 0 2 (1 ∷ [])

pub unsafe_binding_word : SafeRun jumps_to_binding (true ∷ []) → ⊥
unfolding SafeRun run run_from meet next arrive word_at is target executable_at role_at roles roles_from claims binding_count has_extra C only
unsafe_binding_word s = (all_head (all_tail s.met)).executable

-- a JMP to before the first word
pub unsafe_exit : SafeRun (one_word 0x7fff4016 2) (true ∷ []) → ⊥
unfolding SafeRun run run_from meet next arrive word_at is target
unsafe_exit s = s.exit

-- no run ends at another word than RETURN and TAILCALL, nor finds no word where there is one: leaving so would not be allowed either
pub no_end_elsewhere : MayLeave (one_word 0x00000000 2) (ended_at 0) → ⊥
unfolding word_at is
no_end_elsewhere m = m

pub no_exit_at_a_word : MayLeave (one_word 0x00000000 2) (no_word_at (pos 0)) → ⊥
no_exit_at_a_word m = not-suc-le-zero m

-- ---- of two prototypes without words, with stacks of 250 and 251, the second has a large stack

pub one_large_stack : large_stacks (plain_proto [] 0 250 [] ∷ plain_proto [] 0 251 [] ∷ []) ≡ 1
unfolding large_stacks has_large_stack
one_large_stack = refl

-- ---- some prototype keeps all rules: a RETURN of register 0, with a stack above 250 too ("Code 3 breaks no rule")

keeps : (stack : ℕ) → truncation_at (one_word 0x0080001e stack) 0 ≡ [] → diagnostics_at (one_word 0x0080001e stack) 0 ≡ [] → WellFormed (one_word 0x0080001e stack)
keeps stack t d =
    (well_formed_iff_none (one_word 0x0080001e stack)).1
    (λ pc.
    elim pc as (λ n. n < 1 → (truncation_at (one_word 0x0080001e stack) n ≡ []) × (diagnostics_at (one_word 0x0080001e stack) n ≡ []))
    [ zero ↦ λ h. (t, d) | suc n ↦ λ h. absurd (not-suc-le-zero (le_of_suc-le-suc h)) ])

pub keeps_all : WellFormed (one_word 0x0080001e 1)
unfolding truncation_at executable_at is_truncated companions existing owned claims binding_count has_extra role_at roles roles_from word_at diagnostics_at word_diagnostics opcode_diagnostics is_unknown known_diagnostics jump_diagnostics is_jump skip_diagnostics is_skip is_loadbool_skip operand_diagnostics not_below constant_bx upvalue_b flag_a register_a span_ends register_in constant_in child_bx binding_words is B C only flatten flat_map
keeps_all = keeps 1 refl refl

pub keeps_all_with_a_large_stack : WellFormed (one_word 0x0080001e 251)
unfolding truncation_at executable_at is_truncated companions existing owned claims binding_count has_extra role_at roles roles_from word_at diagnostics_at word_diagnostics opcode_diagnostics is_unknown known_diagnostics jump_diagnostics is_jump skip_diagnostics is_skip is_loadbool_skip operand_diagnostics not_below constant_bx upvalue_b flag_a register_a span_ends register_in constant_in child_bx binding_words is B C only flatten flat_map
keeps_all_with_a_large_stack = keeps 251 refl refl
