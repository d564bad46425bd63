-- After j turns the first j words have set their records.
use Rattle.std.proofs.Common.{◌≡◌, ◌+◌, ◌≤◌}
use Rattle.base.specs.Bytes.{u32s}
use Rattle.roles.specs.BindingSteps.{bound_from}
use Rattle.roles.proofs.bindings.bind_words.Given as goal

abbrev pub invariant-loop-j : goal.invariant-loop-j
invariant-loop-j l = (l.j ≤ l.words.existing) × (l.records ≡ bound_from (u32s l.words.code.now) (l.words.pc + 1) 0 l.j l.initial.records)
