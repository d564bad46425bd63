-- The rows left fall with each call of either function, and with each turn of the loop over children.
use Rattle.std.proofs.Common.{◌+◌, ◌-◌, ◌*◌, ◌/◌, length}
use Rattle.roles_spec.specs.Table.{row_bytes}
use Rattle.validator.proofs.CycleLaws.{ChildPass}
use Rattle.validator.proofs.walk.+walk.Given as goal

abbrev pub decreases-validate_children : goal.decreases-validate_children
decreases-validate_children l = (length l.counted.now.table.now / row_bytes - l.walk.row) * 2 + 1

abbrev pub decreases-validate_proto : goal.decreases-validate_proto
decreases-validate_proto l = (length l.counted.now.table.now / row_bytes - l.walk.row) * 2

abbrev pub invariant-validate_children-loop-walk : goal.invariant-validate_children-loop-walk
invariant-validate_children-loop-walk l = ChildPass l.counted.table.now l.counted.words.now l.depth (l.initial.walk, l.initial.out) (l.walk, l.out)

abbrev pub decreases-validate_children-loop-walk : goal.decreases-validate_children-loop-walk
decreases-validate_children-loop-walk l = length l.counted.table.now / row_bytes - l.walk.row
