-- Refusals 1 to 7 write nothing, 8 comes with the roles written, and an accepted call binds all upvalues.
use Rattle.std.proofs.Common.{ap, ◌∙◌, arith, rules}
use Rattle.std.proofs.lemmas.Result.{err_from_is_err_and}
use Rattle.roles.specs.Terms.{answer_of}
use Rattle.roles.proofs.RolesCallLaws.{not_refused, few_rows}
use Rattle.roles.proofs.BindingsCallLaws.{refused_call, call_kept, short_call, accepted_call}
use Rattle.roles.proofs.calls.write_bindings.Goals as goal

pub returns-in_err-check_roles : goal.returns-in_err-check_roles
returns-in_err-check_roles c =
    let p = err_from_is_err_and c.from_residual.result c.from_residual.ensures.1 in
    let r = refused_call _ _ _ _ _ c.check_roles.ensures _ c.in_err-check_roles.was in
    rw (p.1, p.2) (record { result_value = r.0; roles_after = r.1.0; bindings_after = r.1.1 })

pub field_total-count-requires : goal.field_total-count-requires
field_total-count-requires c = few_rows _ _ _ (not_refused _ _ _ _ _ c.check_roles.ensures c.in_ok-check_roles.was)

pub overflow_cast-count : goal.overflow_cast-count
overflow_cast-count c =
    let k = call_kept _ _ _ _ _ c.check_roles.ensures c.in_ok-check_roles.was _ c.field_total-count.ensures.value in
    omega (arith, k.few)

pub refuse_short-requires : goal.refuse_short-requires
refuse_short-requires c = not_refused _ _ _ _ _ c.check_roles.ensures c.in_ok-check_roles.was

pub returns-then-bindings-count : goal.returns-then-bindings-count
returns-then-bindings-count c =
    let k = call_kept _ _ _ _ _ c.check_roles.ensures c.in_ok-check_roles.was _ c.field_total-count.ensures.value in
    let s = short_call _ _ _ _ _ k c.if-bindings-count.true in
    let e = c.refuse_short.ensures in
    record { result_value = ap answer_of e.value ∙ s.0; roles_after = e.out_after; bindings_after = s.1 }

pub invariant_of-filling : goal.invariant_of-filling
invariant_of-filling c =
    let k = call_kept _ _ _ _ _ c.check_roles.ensures c.in_ok-check_roles.was _ c.field_total-count.ensures.value in
    record { accepted = not_refused _ _ _ _ _ c.check_roles.ensures c.in_ok-check_roles.was; room = λ _. omega (arith, k.count) }

pub returns-clause-result_value : goal.returns-clause-result_value
returns-clause-result_value c =
    let k = call_kept _ _ _ _ _ c.check_roles.ensures c.in_ok-check_roles.was _ c.field_total-count.ensures.value in
    (accepted_call _ _ _ _ _ k _ _ c.if-bindings-count.false c.unbind.ensures c.fill.ensures.bindings_filled).0

pub returns-clause-bindings_after : goal.returns-clause-bindings_after
returns-clause-bindings_after c =
    let k = call_kept _ _ _ _ _ c.check_roles.ensures c.in_ok-check_roles.was _ c.field_total-count.ensures.value in
    let e = (accepted_call _ _ _ _ _ k _ _ c.if-bindings-count.false c.unbind.ensures c.fill.ensures.bindings_filled).1 in
    search rules
