-- The rows left fall with each call.
use Rattle.std.proofs.Common.{◌-◌, ◌/◌, length}
use Rattle.roles_spec.specs.Table.{row_bytes}
use Rattle.roles.proofs.table.+find_child.Given as goal

abbrev pub decreases-find_child : goal.decreases-find_child
decreases-find_child l = length l.table.now / row_bytes - l.at
