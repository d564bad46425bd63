-- Each turn marks one more binding word.
use Rattle.std.proofs.Common.{◌≡◌, arith}
use Rattle.roles_spec.proofs.RoleRecordLaws.{records_none, binding_next}
use Rattle.roles.proofs.discovery.mark_bindings.Goals as goal

pub loop-j-init : goal.loop-j-init
loop-j-init c = (omega arith, records_none _ _)

pub loop-j-preserved : goal.loop-j-preserved
loop-j-preserved c = (omega arith, binding_next _ _ _ _ _ (omega arith) c.loop-j.invariant.1 c.write_role.ensures)

pub returns-clause-records_after : goal.returns-clause-records_after
returns-clause-records_after c = let e : c.loop-j.j ≡ c.min-existing.result = omega arith in rw (← e) c.loop-j.invariant.1
