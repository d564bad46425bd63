-- The companions that exist: as many as there is room for.
use Rattle.std.proofs.Common.{◌/◌, length, refl}
use Rattle.roles_spec.specs.Roles.{role_bytes}
use Rattle.roles.proofs.MarkLaws.{marked_none, marked_bindings, marked_extra}
use Rattle.roles.proofs.discovery.mark.Goals as goal

pub returns-in-None : goal.returns-in-None
returns-in-None c =
    let m = marked_none c.args.records.now _ 0 c.args.pc (length c.args.records.now / role_bytes) _ c.in-None.is refl in
    record { value = m.0; records_after = m.1.0; within_room = m.1.1 }

pub returns-in-Bindings : goal.returns-in-Bindings
returns-in-Bindings c =
    let e = c.mark_bindings.ensures in
    let m = marked_bindings c.args.records.now _ 0 c.args.pc (length c.args.records.now / role_bytes) _ _ _ _ c.in-Bindings.is e.value e.records_after in
    record { value = m.0; records_after = m.1.0; within_room = m.1.1 }

pub returns-in-Extra : goal.returns-in-Extra
returns-in-Extra c =
    let e = c.mark_extra.ensures in
    let m = marked_extra c.args.records.now _ 0 c.args.pc (length c.args.records.now / role_bytes) _ _ c.in-Extra.is e.value e.records_after in
    record { value = m.0; records_after = m.1.0; within_room = m.1.1 }
