-- The words before pc have their roles and have bound what they bind, and the children are the row's.
use Rattle.std.proofs.Common.{◌≡◌, ◌-◌}
use Rattle.roles.proofs.RolePassLaws.{RolePass}
use Rattle.roles.proofs.BindingPassLaws.{BindPass}
use Rattle.roles.proofs.discovery.discover_roles_lua51.Given as goal

abbrev pub invariant-loop-pc : goal.invariant-loop-pc
invariant-loop-pc l = record {
  roles_so_far : RolePass l.initial.children.parent.table.now l.initial.children.parent.number l.code l.initial.out l.out l.pc;
  bound_so_far : BindPass l.initial.children.parent.table.now l.initial.children.parent.number l.code l.initial.bindings l.bindings l.pc;
  of_row : l.children.parent ≡ l.initial.children.parent;
}

abbrev pub decreases-loop-pc : goal.decreases-loop-pc
decreases-loop-pc l = l.n - l.pc
