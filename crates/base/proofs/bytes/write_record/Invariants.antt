-- After i turns the first i values stand in the buffer.
use Rattle.std.proofs.Common.{◌≡◌, take}
use Rattle.base.specs.Bytes.{overwrite, u32_record}
use Rattle.base.proofs.bytes.write_record.Given as goal

abbrev pub invariant-loop-i : goal.invariant-loop-i
invariant-loop-i l = l.out ≡ overwrite l.initial.out l.at (u32_record (take l.i l.values))
