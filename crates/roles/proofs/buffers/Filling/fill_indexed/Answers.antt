-- Each turn fills the parts of one more row.
use Rattle.std.proofs.Common.{◌≡◌, suc, ◌+◌, ◌-◌, ◌*◌, length, take, drop, ap, ◌∙◌, subst, arith, refl, length-drop, length-take}
use mathlib.Core.Path.{subst⁻¹}
use Rattle.base.specs.Bytes.{overwrite, u32s}
use Rattle.roles_spec.specs.Table.{row_at, rows, proto_in}
use Rattle.roles_spec.specs.Bindings.{writes}
use Rattle.roles_spec.specs.Roles.{records_of, role_bytes, roles}
use Rattle.roles_spec.proofs.TotalLaws.{records_front}
use Rattle.roles_spec.proofs.RowPartLaws.{part_length, part_proto}
use Rattle.roles.specs.BindingSteps.{BindsFrom, bound_in}
use Rattle.roles.specs.declared.table.Row.{Row}
use Rattle.roles.proofs.RoleFillLaws.{fill_begins, fill_ends, fill_next, row_words, rows_there, words_there, part_written}
use Rattle.roles.proofs.BindingFillLaws.{few_records, rows_begin, rows_end_bound, rows_next, base_next, binds_from}
use Rattle.roles.proofs.buffers.Filling.fill_indexed.Goals as goal

pub loop-number-init : goal.loop-number-init
loop-number-init c = record { filled = fill_begins _ _ _ c.args.self.now.accepted; bound = rows_begin _ _ _; same_roles = refl; same_bindings = refl }

pub overflow_add-base : goal.overflow_add-base
overflow_add-base c =
    let next = base_next _ _ _ _ _ _ c.loop-number.invariant.bound (omega arith) _ (c.field-in-loop-number.ensures.there (omega arith)) in
    omega (arith, next, records_front (rows c.args.self.now.table.now) (suc c.loop-number.number), few_records _ _ _ c.args.self.now.accepted)

pub new-children-requires-clause-few_rows : goal.new-children-requires-clause-few_rows
new-children-requires-clause-few_rows c = (rows_there _ _ _ c.args.self.now.accepted _ _ _ c.loop-number.invariant.filled (omega arith) _ (c.field.ensures.there (omega arith))).1

pub discover_roles_lua51-requires-clause-words_stated : goal.discover_roles_lua51-requires-clause-words_stated
discover_roles_lua51-requires-clause-words_stated c =
    let there = words_there _ _ _ c.args.self.now.accepted _ _ _ c.loop-number.invariant.filled (omega arith) _ (c.field.ensures.there (omega arith)) in
    let n = row_words _ _ _ c.args.self.now.accepted _ _ _ c.loop-number.invariant.filled (omega arith) _ (c.field.ensures.there (omega arith)) in
    let size = part_length c.args.self.now.table.now c.args.self.now.words.now c.loop-number.number c.loop-number.first (c.loop-number.first + c.field.result) (omega (arith, n)) there.1 in
    omega (arith, size, ap (λ (r : Row). (row_at r.table.now r.number).words) c.new-children.ensures)

pub discover_roles_lua51-requires-clause-roles_fit : goal.discover_roles_lua51-requires-clause-roles_fit
discover_roles_lua51-requires-clause-roles_fit c =
    let there = words_there _ _ _ c.args.self.now.accepted _ _ _ c.loop-number.invariant.filled (omega arith) _ (c.field.ensures.there (omega arith)) in
    let n = row_words _ _ _ c.args.self.now.accepted _ _ _ c.loop-number.invariant.filled (omega arith) _ (c.field.ensures.there (omega arith)) in
    let size = part_length c.args.self.now.table.now c.args.self.now.words.now c.loop-number.number c.loop-number.first (c.loop-number.first + c.field.result) (omega (arith, n)) there.1 in
    (omega arith, simp (length-take, length-drop) (omega arith))

pub discover_roles_lua51-requires-clause-binds_from : goal.discover_roles_lua51-requires-clause-binds_from
discover_roles_lua51-requires-clause-binds_from c =
    subst⁻¹ (λ (r : Row). BindsFrom r.table.now r.number (c.loop-number.base + c.field-in-loop-number.result) (length c.loop-number.self.bindings.now)) c.new-children.ensures
    (binds_from _ _ _ _ _ _ c.loop-number.invariant.bound (omega arith) _ (c.field-in-loop-number.ensures.there (omega arith)) (few_records _ _ _ c.args.self.now.accepted) c.args.self.now.room)

pub loop-number-preserved : goal.loop-number-preserved
loop-number-preserved c =
    let before = c.loop-number.invariant in
    let there = words_there _ _ _ c.args.self.now.accepted _ _ _ c.loop-number.invariant.filled (omega arith) _ (c.field.ensures.there (omega arith)) in
    let n = row_words _ _ _ c.args.self.now.accepted _ _ _ c.loop-number.invariant.filled (omega arith) _ (c.field.ensures.there (omega arith)) in
    let stated : c.loop-number.first + (row_at c.args.self.now.table.now c.loop-number.number).words ≡ c.loop-number.first + c.field.result = omega (arith, n) in
    let proto = part_proto c.args.self.now.table.now c.args.self.now.words.now _ _ _ stated there.1 in
    let e = c.discover_roles_lua51.ensures in
    let code = u32s (take (4 * (c.loop-number.first + c.field.result) - 4 * c.loop-number.first) (drop (4 * c.loop-number.first) c.args.self.now.words.now)) in
    let size = role_bytes * (c.loop-number.first + c.field.result) - role_bytes * c.loop-number.first in
    let roles_written =
    subst (λ (r : Row). c.discover_roles_lua51.new.out ≡ overwrite (take size (drop (role_bytes * c.loop-number.first) c.loop-number.self.roles.now)) 0 (records_of (roles (proto_in r.table.now r.number code)))) c.new-children.ensures e.out_after in
    let bindings_written =
    subst (λ (r : Row). c.discover_roles_lua51.new.bindings ≡ bound_in r.table.now r.number (writes (proto_in r.table.now r.number code)) c.loop-number.self.bindings.now) c.new-children.ensures e.bindings_after in
    record {
      same_roles = before.same_roles;
      same_bindings = before.same_bindings;
      filled = fill_next _ _ _ c.args.self.now.accepted _ _ _ c.loop-number.invariant.filled (omega arith) _ (c.field.ensures.there (omega arith)) _ (part_written _ _ _ _ _ stated there.1 _ _ there.2 roles_written);
      bound =
          rows_next _ _ _ _ _ _ before.bound (omega arith) _ (c.field-in-loop-number.ensures.there (omega arith)) _ _ before.filled.before
          (bindings_written ∙ ap (λ p. bound_in c.args.self.now.table.now c.loop-number.number (writes p) c.loop-number.self.bindings.now) proto);
    }

pub returns : goal.returns
returns c =
    record {
      roles_filled = fill_ends _ _ _ c.args.self.now.accepted _ _ _ c.loop-number.invariant.filled (omega arith);
      bindings_filled = rows_end_bound _ _ _ _ _ _ c.loop-number.invariant.bound c.loop-number.invariant.filled.within (omega arith);
      same_roles = c.loop-number.invariant.same_roles;
      same_bindings = c.loop-number.invariant.same_bindings;
    }
