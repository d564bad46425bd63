-- After i turns the first i records bind nothing.
use Rattle.std.proofs.Common.{◌≡◌, ◌≤◌, replicate}
use Rattle.base.specs.Bytes.{overwrite}
use Rattle.roles_spec.specs.Bindings.{binding_records, unbound}
use Rattle.roles.proofs.bindings.unbind.Given as goal

abbrev pub invariant-loop-i : goal.invariant-loop-i
invariant-loop-i l = (l.i ≤ l.count) × (l.bindings ≡ overwrite l.initial.bindings 0 (binding_records (replicate l.i unbound)))
