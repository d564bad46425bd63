-- Each turn is the step of one owner: its role and those of its companions, and what they bind.
use Rattle.std.proofs.Common.{◌≡◌, suc, ◌∙◌, subst, refl, arith}
use mathlib.Core.Path.{subst⁻¹}
use Rattle.roles_spec.specs.Table.{rows}
use Rattle.roles.specs.BindingSteps.{BindsFrom}
use Rattle.roles.specs.Terms.{companions_of}
use Rattle.roles.specs.declared.table.Row.{Row}
use Rattle.roles_spec.proofs.TotalLaws.{records_front}
use Rattle.roles.proofs.RolePassLaws.{code_of, pass_begins, pass_ends, pass_next, owner_step}
use Rattle.roles.proofs.BindingPassLaws.{bind_begins, bind_ends, bind_next, bindable_here}
use Rattle.roles.proofs.discovery.discover_roles_lua51.Goals as goal

pub loop-pc-init : goal.loop-pc-init
loop-pc-init c = record { roles_so_far = pass_begins _ _ _ c.requires.words_stated _; bound_so_far = bind_begins _ _ _ _; of_row = refl }

pub bind_claim-requires-clause-few_bindings : goal.bind_claim-requires-clause-few_bindings
bind_claim-requires-clause-few_bindings c = omega (arith, records_front (rows c.args.children.now.parent.table.now) (suc c.args.children.now.parent.number))

pub bind_claim-requires-clause-bindable : goal.bind_claim-requires-clause-bindable
bind_claim-requires-clause-bindable c =
    let stated = c.requires.words_stated in
    let before = c.loop-pc.invariant in
    let m = c.mark-existing.ensures in
    let owned = subst (λ (r : Row). c.claim_of-companions.result ≡ companions_of r.table.now r.number c.u32_at.result) before.of_row c.claim_of-companions.ensures.owned in
    let step = owner_step _ _ _ stated _ _ _ before.roles_so_far (omega arith) c.requires.roles_fit.1 _ c.u32_at.ensures _ owned _ _ _ _ c.write_role.ensures refl (m.value, (m.records_after, m.within_room)) in
    let from = subst⁻¹ (BindsFrom c.args.children.now.parent.table.now c.args.children.now.parent.number c.args.base) before.bound_so_far.long c.requires.binds_from in
    bindable_here _ _ _ (code_of _ _ _ stated) _ _ from _ _ _ _ _ _ step

pub loop-pc-preserved : goal.loop-pc-preserved
loop-pc-preserved c =
    let stated = c.requires.words_stated in
    let before = c.loop-pc.invariant in
    let m = c.mark-existing.ensures in
    let owned = subst (λ (r : Row). c.claim_of-companions.result ≡ companions_of r.table.now r.number c.u32_at.result) before.of_row c.claim_of-companions.ensures.owned in
    let step = owner_step _ _ _ stated _ _ _ before.roles_so_far (omega arith) c.requires.roles_fit.1 _ c.u32_at.ensures _ owned _ _ _ _ c.write_role.ensures refl (m.value, (m.records_after, m.within_room)) in
    record {
      roles_so_far = pass_next _ _ _ stated _ _ _ before.roles_so_far (omega arith) c.requires.roles_fit.1 _ c.u32_at.ensures _ owned _ _ step;
      bound_so_far = bind_next _ _ _ (code_of _ _ _ stated) _ _ c.requires.binds_from _ _ _ _ _ _ step _ _ _ before.bound_so_far c.bind_claim.ensures;
      of_row = c.claim_of-companions.ensures.same_parent ∙ before.of_row;
    }

pub returns-clause-out_after : goal.returns-clause-out_after
returns-clause-out_after c = pass_ends _ _ _ c.requires.words_stated _ _ _ c.loop-pc.invariant.roles_so_far (omega arith)

pub returns-clause-bindings_after : goal.returns-clause-bindings_after
returns-clause-bindings_after c =
    bind_ends _ _ _ (code_of _ _ _ c.requires.words_stated) _ _ _ c.loop-pc.invariant.bound_so_far (omega (arith, c.loop-pc.invariant.roles_so_far.within))
