use Rattle.std.proofs.Common.{◌+◌, ◌*◌, ◌-◌, ◌≤◌, ◌∙◌, length, get_or, sym, arith, rules}
use borrow.Author.Tests.{leb-true}
use Rattle.base.specs.Bytes.{u32_bytes}
use Rattle.base.proofs.ByteLaws.{length_u32_record, no_room, put_overwrite, record_none, record_next}
use Rattle.base.proofs.bytes.write_record.Goals as goal

pub returns-then-not-has_room : goal.returns-then-not-has_room
returns-then-not-has_room c = no_room _ _ _ _ _ (length_u32_record _) c.has_room.ensures c.if-not-has_room.true

pub loop-i-init : goal.loop-i-init
loop-i-init c = sym (record_none _ _)

pub loop-i-preserved : goal.loop-i-preserved
unfolding u32_bytes
loop-i-preserved c =
    let at = c.args.at in
    let i = c.loop-i.i in
    let values = c.args.values.now in
    let room : at + 4 * length values ≤ length c.args.out.now = leb-true _ _ (sym c.has_room.ensures ∙ c.if-not-has_room.false) in
    record_next c.args.out.now _ _ at i values (omega arith) room c.loop-i.invariant
    (put_overwrite c.loop-i.out (u32_bytes (get_or values i 0)) _ (at + 4 * i) (at + 4 * i + 4 - (at + 4 * i)) (search rules) (omega arith) (omega arith))
