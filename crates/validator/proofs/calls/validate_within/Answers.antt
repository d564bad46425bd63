-- The walk from row 0 on is that of the image.
use Rattle.std.proofs.Common.{ℕ, arith}
use lib.ListN.{length-replicate}
use Rattle.validator.proofs.CheckLaws.{some_row, start_begins, walked}
use Rattle.validator.proofs.NextRowLaws.{in_order}
use Rattle.validator.proofs.calls.validate_within.Goals as goal

pub count_children-requires : goal.count_children-requires
count_children-requires g c = (in_order _ _ _ c.args.image.now.filled, omega (arith, length-replicate {A = ℕ} g.row.N 0, c.requires.rows))

pub validate_proto-requires : goal.validate_proto-requires
validate_proto-requires g c = record { there = some_row _ _ _ c.args.image.now.filled; begins = start_begins _ _ _ c.args.image.now.filled }

pub returns : goal.returns
returns g c = walked _ _ _ c.args.image.now.filled _ _ _ _ _ c.stop_count.ensures c.validate_proto.ensures
