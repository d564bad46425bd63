-- Refused before the walk, walked once, or counted first.
use mathlib.Core.Path.{subst⁻¹}
use Rattle.std.proofs.lemmas.Result.{err_from_is_err_and}
use Rattle.validator.specs.Terms.{image_of}
use Rattle.validator.specs.Steps.{Filled}
use Rattle.validator.proofs.CheckLaws.{filled_in, not_refused, refused_call, answered_call, accepted_long, most_fit, guaranteed}
use Rattle.validator.proofs.calls.validate_chunk_lua51.Goals as goal

pub returns-in_err-write_roles : goal.returns-in_err-write_roles
returns-in_err-write_roles c =
    let p = err_from_is_err_and c.from_residual.result c.from_residual.ensures.1 in
    let i = image_of c.args.table.now c.args.words.now c.args.warnings c.args.errors in
    let w = c.write_roles.ensures in
    let r = refused_call i c.args.roles.now _ w.result_value _ c.args.diagnostics.now c.in_err-write_roles.was in
    rw (p.1, p.2) (record { result_value = r.0; roles_after = w.roles_after; diagnostics_after = r.1; guarantee = guaranteed i _ _ _ r.0 })

pub invariant_of-image : goal.invariant_of-image
invariant_of-image c =
    let i = image_of c.args.table.now c.args.words.now c.args.warnings c.args.errors in
    let w = c.write_roles.ensures in
    record { filled = subst⁻¹ (Filled c.args.table.now c.args.words.now) w.roles_after (filled_in _ _ c.args.roles.now (not_refused i c.args.roles.now _ w.result_value _ c.in_ok-write_roles.was)) }

pub invariant_of-image-2 : goal.invariant_of-image-2
invariant_of-image-2 c =
    let i = image_of c.args.table.now c.args.words.now c.args.warnings c.args.errors in
    let w = c.write_roles.ensures in
    record { filled = subst⁻¹ (Filled c.args.table.now c.args.words.now) w.roles_after (filled_in _ _ c.args.roles.now (not_refused i c.args.roles.now _ w.result_value _ c.in_ok-write_roles.was)) }

pub validate_once-requires : goal.validate_once-requires
validate_once-requires c =
    let i = image_of c.args.table.now c.args.words.now c.args.warnings c.args.errors in
    most_fit i c.args.roles.now _ c.write_roles.ensures.result_value _ _ c.in_ok-write_roles.was c.if-diagnostics-ge-MAX_DIAGNOSTICS.true

pub returns-then-diagnostics-ge-MAX_DIAGNOSTICS : goal.returns-then-diagnostics-ge-MAX_DIAGNOSTICS
returns-then-diagnostics-ge-MAX_DIAGNOSTICS c =
    let i = image_of c.args.table.now c.args.words.now c.args.warnings c.args.errors in
    let records = c.args.roles.now in
    let w = c.write_roles.ensures in
    let once = c.validate_once.ensures in
    let fit = most_fit i records _ w.result_value _ _ c.in_ok-write_roles.was c.if-diagnostics-ge-MAX_DIAGNOSTICS.true in
    let r = answered_call i records _ w.result_value _ _ c.args.diagnostics.now _ c.in_ok-write_roles.was (accepted_long i c.args.diagnostics.now _ _ fit once.result_value once.diagnostics_after) in
    record { result_value = r.0; roles_after = w.roles_after; diagnostics_after = r.1; guarantee = guaranteed i _ _ _ r.0 }

pub returns : goal.returns
returns c =
    let i = image_of c.args.table.now c.args.words.now c.args.warnings c.args.errors in
    let w = c.write_roles.ensures in
    let counted = c.validate_counted.ensures in
    let r =
    answered_call i c.args.roles.now _ w.result_value _ _ c.args.diagnostics.now _ c.in_ok-write_roles.was (record { said = counted.result_value; left = counted.diagnostics_after }) in
    record { result_value = r.0; roles_after = w.roles_after; diagnostics_after = r.1; guarantee = guaranteed i _ _ _ r.0 }
