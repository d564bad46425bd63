-- The tables of examples and of runs hold: every definition is computed on every row of them. Assumes nothing.
use mathlib.Core.Path.{◌≡◌, refl}
use mathlib.Core.List.{map, flat_map, flatten}
use Rattle.base.specs.Bytes.{u32_bytes, u32_record, u32s, u32_from}
use Rattle.base.specs.Lists.{only}
use Rattle.opcodes.specs.Words.{B, C, is, is_constant, constant_index}
use Rattle.roles_spec.specs.Table.{row_at, rows, below, children, child_at, proto_of, protos_of, protos}
use Rattle.roles_spec.specs.Roles.{binding_count, has_extra, claims, roles_from, roles, role_at, word_at, executable_at, owned, existing, is_truncated, companions, binding_words}
use Rattle.roles_spec.specs.Bindings.{unbound, binding_index, binding_of, write_of, writes_at, writes, binding_total, first_binding, set_binding, bind_rows, bindings, binding_fields}
use Rattle.roles_spec.specs.Calls.{image_bindings}
use Rattle.validator_spec.specs.Operands.{is_unknown, is_binding, is_jump, target, is_loadbool_skip, is_skip, skip_target, constant_bx, upvalue_b, flag_a, register_a, span_ends, register_in, constant_in, child_bx, captured_register, captured_upvalue}
use Rattle.validator_spec.specs.Diagnostics.{truncation_at, has_large_stack, stack_diagnostics, opcode_diagnostics, target_diagnostics, jump_diagnostics, skip_diagnostics, not_below, operand_diagnostics, opcode_value, binding_diagnostics, known_diagnostics, word_diagnostics, diagnostics_at, tested_step, untested_step, proto_steps}
use Rattle.validator_spec.specs.Walk.{advance, walk_row, walk_from, walk, limit_reached, has_errors, verdict_of, diagnostic_fields}
use Rattle.validator_spec.specs.Image.{image_protos, image_walk, diagnostics, verdict}
use Rattle.validator_spec.specs.Executions.{arrive, next, meet, run_from, run}
use Rattle.validator_spec.specs.Statements.{walk_proto, walk_by_children}
use Rattle.validator_spec.specs.Examples.{result, examples, misreadings, more_examples, word_runs, run_examples}

-- all of them, so that what they compute with stands once
tables_hold : (map (λ e. result e.image) examples ≡ map (λ e. e.expected) examples)
    × (map (λ e. result e.image) misreadings ≡ map (λ e. e.expected) misreadings)
    × (map (λ e. result e.image) more_examples ≡ map (λ e. e.expected) more_examples)
    × (map (λ e. walk_by_children e.image) more_examples ≡ map (λ e. image_walk e.image) more_examples)
    × (map (λ e. run e.proto e.choices) word_runs ≡ map (λ e. e.expected) word_runs)
    × (map (λ e. run e.proto e.choices) run_examples ≡ map (λ e. e.expected) run_examples)
-- tests/definitions/run takes the names of the next line but those of Examples:
unfolding examples misreadings more_examples word_runs run_examples result walk_proto walk_by_children only u32_bytes u32_record u32s u32_from B C is is_constant constant_index row_at rows below children child_at proto_of protos_of protos binding_count has_extra claims roles_from roles role_at word_at executable_at owned existing is_truncated companions binding_words unbound binding_index binding_of write_of writes_at writes binding_total first_binding set_binding bind_rows bindings binding_fields image_bindings is_unknown is_binding is_jump target is_loadbool_skip is_skip skip_target constant_bx upvalue_b flag_a register_a span_ends register_in constant_in child_bx captured_register captured_upvalue truncation_at has_large_stack stack_diagnostics opcode_diagnostics target_diagnostics jump_diagnostics skip_diagnostics not_below operand_diagnostics opcode_value binding_diagnostics known_diagnostics word_diagnostics diagnostics_at tested_step untested_step proto_steps advance walk_row walk_from walk limit_reached has_errors verdict_of diagnostic_fields image_protos image_walk diagnostics verdict flat_map flatten run run_from meet next arrive
tables_hold = (refl, refl, refl, refl, refl, refl)

pub examples_hold : map (λ e. result e.image) examples ≡ map (λ e. e.expected) examples
examples_hold = tables_hold.0

pub misreadings_excluded : map (λ e. result e.image) misreadings ≡ map (λ e. e.expected) misreadings
misreadings_excluded = tables_hold.1

pub more_hold : map (λ e. result e.image) more_examples ≡ map (λ e. e.expected) more_examples
more_hold = tables_hold.2

-- by prototypes and their children the walk over these images finds the same
pub walks_agree : map (λ e. walk_by_children e.image) more_examples ≡ map (λ e. image_walk e.image) more_examples
walks_agree = tables_hold.3

pub word_runs_hold : map (λ e. run e.proto e.choices) word_runs ≡ map (λ e. e.expected) word_runs
word_runs_hold = tables_hold.4

pub runs_hold : map (λ e. run e.proto e.choices) run_examples ≡ map (λ e. e.expected) run_examples
runs_hold = tables_hold.5
