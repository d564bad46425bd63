use Rattle.std.proofs.Common.{◌/◌, ◌%◌, arith, ◌≡◌}
use native.Mathlib.Nat.{div-one}
use mir.Facts.{to_z_pos, to_z-of_z}
use mir.Syntax.{w32}
use lib.Dec.{lit<}
use lib.IntN.{ℤ, pos, ◌-ℤ◌}
use mathlib.Core.Path.{ap, ◌∙◌}
use mir.Val.{to_z, of_z}
use Rattle.opcodes.specs.Words.{B, C, decoded, offset_sbx}
use Rattle.base.proofs.SignedLaws.{sub_fits}
use Rattle.opcodes.proofs.RawInstruction51.decode.Goals as goal

pub returns : goal.returns
unfolding decoded B C
returns c =
    let bx = c.args.raw / 16384 % 262144 in
    let e : to_z w32 bx ≡ pos bx = to_z_pos w32 {n = bx} (omega arith) in
    let s : to_z w32 (of_z w32 (to_z w32 bx -ℤ pos offset_sbx)) ≡ pos bx -ℤ pos offset_sbx =
    to_z-of_z {w = w32} (rw e (sub_fits w32 bx _ (omega arith) (lit< tt))) ∙ ap (λ (z : ℤ). z -ℤ pos offset_sbx) e in
    rw (div-one, s, c.from-opcode.ensures.0)
