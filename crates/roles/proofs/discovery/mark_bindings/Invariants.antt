-- After j turns the first j binding words are marked.
use Rattle.std.proofs.Common.{◌≡◌, ◌≤◌}
use Rattle.base.specs.Bytes.{overwrite}
use Rattle.base.specs.Lists.{tabulate}
use Rattle.roles_spec.specs.Roles.{ClosureBinding, records_of}
use Rattle.roles.proofs.discovery.mark_bindings.Given as goal

abbrev pub invariant-loop-j : goal.invariant-loop-j
invariant-loop-j l = (l.j ≤ l.existing) × (l.records ≡ overwrite l.initial.records 0 (records_of (tabulate l.j (ClosureBinding l.pc))))
