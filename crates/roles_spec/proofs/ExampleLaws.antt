-- The tables of examples hold: every definition is computed on every row of them. Assumes nothing.
use mathlib.Core.Path.{◌≡◌, refl}
use mathlib.Core.List.{map, flat_map}
use Rattle.base.specs.Lists.{only}
use Rattle.base.specs.Bytes.{u32_bytes, u32_record, u32s, u32_from}
use Rattle.opcodes.specs.Words.{B, C, is}
use Rattle.roles_spec.specs.Table.{row_at, rows, below, children, child_at, proto_of, protos_of, protos}
use Rattle.roles_spec.specs.Roles.{binding_count, has_extra, claims, roles_from, roles, role_at, word_at, executable_at, existing, binding_words, role_fields}
use Rattle.roles_spec.specs.Bindings.{unbound, binding_index, binding_of, write_of, writes_at, writes, binding_total, first_binding, set_binding, bind_rows, bindings, binding_fields}
use Rattle.roles_spec.specs.Refusals.{refuse, refuse_if, or_else, depth_fits, bad_depth, fields_fit, bad_field, word_total, image_refusal, roles_refusal, too_short}
use Rattle.roles_spec.specs.Calls.{image_bindings, bindings_refusal}
use Rattle.roles_spec.specs.Examples.{roles_of, bindings_of, examples, refusal_of, refusals}

-- all of them, so that what they compute with stands once
tables_hold : (map roles_of examples ≡ map (λ e. e.roles) examples)
    × (map bindings_of examples ≡ map (λ e. e.bindings) examples)
    × (map refusal_of refusals ≡ map (λ e. e.expected) refusals)
unfolding examples refusals roles_of bindings_of refusal_of only u32_bytes u32_record u32s u32_from B C is row_at rows below children proto_of protos_of protos binding_count has_extra claims roles_from roles role_fields flat_map child_at role_at word_at executable_at existing binding_words unbound binding_index binding_of write_of writes_at writes binding_total first_binding set_binding bind_rows bindings binding_fields image_bindings refuse refuse_if or_else depth_fits bad_depth fields_fit bad_field word_total image_refusal roles_refusal too_short bindings_refusal
tables_hold = (refl, refl, refl)

pub roles_hold : map roles_of examples ≡ map (λ e. e.roles) examples
roles_hold = tables_hold.0

pub bindings_hold : map bindings_of examples ≡ map (λ e. e.bindings) examples
bindings_hold = tables_hold.1

pub refusals_hold : map refusal_of refusals ≡ map (λ e. e.expected) refusals
refusals_hold = tables_hold.2
