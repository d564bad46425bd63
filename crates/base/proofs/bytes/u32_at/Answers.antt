-- The u32 of a part of four bytes, and that there is none past the last whole one.
use Rattle.std.proofs.Common.{◌+◌, ◌-◌, ◌*◌, sym, ap, ◌∙◌, add-zero, arith}
use Rattle.base.specs.Bytes.{u32_from}
use Rattle.base.proofs.ByteLaws.{get_d_u32s, u32_past_end}
use Rattle.base.proofs.PartLaws.{u32_from_part}
use Rattle.base.proofs.bytes.u32_at.Goals as goal

pub returns-then-s-i : goal.returns-then-s-i
returns-then-s-i c = sym (u32_past_end _ _ (omega (arith, c.if-s-i.true)))

pub returns : goal.returns
returns c =
    let at = 4 * c.args.i in
    c.read_u32.ensures
    ∙ u32_from_part c.args.s.now at (at + 4 - at) 0 (omega arith)
    ∙ ap (u32_from c.args.s.now) (add-zero at)
    ∙ sym (get_d_u32s c.args.s.now c.args.i (omega (arith, c.if-s-i.false)))
