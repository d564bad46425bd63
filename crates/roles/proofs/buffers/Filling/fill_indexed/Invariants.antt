-- The rows before `row` have their roles and their bindings.
use Rattle.std.proofs.Common.{◌≡◌}
use Rattle.base.specs.Bytes.{u32s}
use Rattle.roles.proofs.RoleFillLaws.{RoleFill}
use Rattle.roles.proofs.BindingFillLaws.{RowsBound}
use Rattle.roles.proofs.buffers.Filling.fill_indexed.Given as goal

abbrev pub invariant-loop-number : goal.invariant-loop-number
invariant-loop-number l = record {
  filled : RoleFill l.table l.words l.fn.self.roles.now l.self.roles.now l.number l.first;
  bound : RowsBound l.table (u32s l.words) l.fn.self.bindings.now l.self.bindings.now l.number l.base;
  same_roles : l.self.roles.ghost_name ≡ l.fn.self.roles.ghost_name;
  same_bindings : l.self.bindings.ghost_name ≡ l.fn.self.bindings.ghost_name;
}
