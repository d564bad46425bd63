-- The table of inputs and outputs holds: every definition is computed on every row of it. Assumes nothing.
use mathlib.Core.Path.{◌≡◌, refl}
use mathlib.Core.List.{map, flat_map, flatten}
use Rattle.base.specs.Bytes.{u32_bytes, u32_record, u32s, u32_from}
use Rattle.base.specs.Lists.{only}
use Rattle.opcodes.specs.Words.{B, C, is, is_constant, constant_index}
use Rattle.roles_spec.specs.Table.{row_at, rows, below, children, proto_of, protos_of, protos}
use Rattle.roles_spec.specs.Roles.{binding_count, has_extra, claims, roles_from, roles, role_at, word_at, executable_at, owned, existing, is_truncated, companions, binding_words}
use Rattle.validator_spec.specs.Operands.{is_unknown, is_binding, is_jump, target, is_loadbool_skip, is_skip, skip_target, constant_bx, upvalue_b, flag_a, register_a, span_ends, register_in, constant_in, child_bx, captured_register, captured_upvalue}
use Rattle.validator_spec.specs.Diagnostics.{truncation_at, has_large_stack, stack_diagnostics, opcode_diagnostics, target_diagnostics, jump_diagnostics, skip_diagnostics, not_below, operand_diagnostics, opcode_value, binding_diagnostics, known_diagnostics, word_diagnostics, diagnostics_at, tested_step, untested_step, proto_steps}
use Rattle.validator_spec.specs.Walk.{advance, walk_row, walk_from, walk, limit_reached, has_errors, verdict_of}
use Rattle.validator_spec.specs.Image.{image_protos, image_walk, diagnostics, verdict}
use Rattle.roles_spec.specs.Refusals.{refuse, refuse_if, or_else, depth_fits, bad_depth, fields_fit, bad_field, word_total, image_refusal, roles_refusal, too_short}
use Rattle.roles_spec.specs.Calls.{answer}
use Rattle.validator_spec.specs.Check.{checked, check_refusal, check_answer}
use Rattle.listing_spec.specs.Text.{text, same, join_first, lines, line, is_digit, is_hex_digit, digit_value, value_of, is_decimal, digits, decimal, integer}
use Rattle.listing_spec.specs.Listing.{named, separator, cons_number, decimals, hex_word, and_then, refused_at, read_as, read_line, read_rows, read_words, read_listing}
use Rattle.listing_spec.specs.Packcheck.{code_names, code_name, verdict_name, refusal_text, diagnostic_text, result_text, answer_text, output_text, packcheck}
use Rattle.listing_spec.specs.Examples.{texts, row_line, listing, examples}

pub examples_hold : map (λ e. packcheck e.input) examples ≡ map (λ e. e.output) examples
-- tests/definitions/run takes the names of the next line but those of Examples:
unfolding examples texts row_line listing only u32_bytes u32_record u32s u32_from B C is is_constant constant_index row_at rows below children proto_of protos_of protos binding_count has_extra claims roles_from roles role_at word_at executable_at owned existing is_truncated companions binding_words is_unknown is_binding is_jump target is_loadbool_skip is_skip skip_target constant_bx upvalue_b flag_a register_a span_ends register_in constant_in child_bx captured_register captured_upvalue truncation_at has_large_stack stack_diagnostics opcode_diagnostics target_diagnostics jump_diagnostics skip_diagnostics not_below operand_diagnostics opcode_value binding_diagnostics known_diagnostics word_diagnostics diagnostics_at tested_step untested_step proto_steps advance walk_row walk_from walk limit_reached has_errors verdict_of image_protos image_walk diagnostics verdict flat_map flatten refuse refuse_if or_else depth_fits bad_depth fields_fit bad_field word_total image_refusal roles_refusal too_short answer checked check_refusal check_answer text same join_first lines line is_digit is_hex_digit digit_value value_of is_decimal digits decimal integer named separator cons_number decimals hex_word and_then refused_at read_as read_line read_rows read_words read_listing code_names code_name verdict_name refusal_text diagnostic_text result_text answer_text output_text packcheck
examples_hold = refl
