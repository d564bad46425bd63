-- A refused call answers its refusal and writes nothing; an accepted one answers the number of words.
use Rattle.std.proofs.Common.{arith}
use Rattle.std.proofs.lemmas.Result.{err_from_is_err_and}
use Rattle.roles.proofs.RolesCallLaws.{refused_call, not_refused, few_words, accepted_call}
use Rattle.roles.proofs.calls.write_roles.Goals as goal

pub returns-in_err-check_roles : goal.returns-in_err-check_roles
returns-in_err-check_roles c =
    let p = err_from_is_err_and c.from_residual.result c.from_residual.ensures.1 in
    let r = refused_call _ _ _ _ c.check_roles.ensures _ c.in_err-check_roles.was in
    rw (p.1, p.2) (record { result_value = r.0; roles_after = r.1 })

pub fill_roles-requires : goal.fill_roles-requires
fill_roles-requires c = not_refused _ _ _ _ _ c.check_roles.ensures c.in_ok-check_roles.was

pub overflow_cast-result : goal.overflow_cast-result
overflow_cast-result c =
    let few = few_words _ _ _ (not_refused _ _ _ _ _ c.check_roles.ensures c.in_ok-check_roles.was) in
    omega (arith, few)

pub returns-clause-result_value : goal.returns-clause-result_value
returns-clause-result_value c = accepted_call _ _ _ (not_refused _ _ _ _ _ c.check_roles.ensures c.in_ok-check_roles.was)
