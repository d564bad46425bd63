-- What a filling leaves in its buffers: a term of inner contracts. Assumes nothing: this is a definition.
use Rattle.std.specs.Prelude.{◌≡◌}
use Rattle.base.specs.Bytes.{u32s}
use Rattle.roles_spec.specs.Calls.{roles_after}
use Rattle.roles_spec.specs.Table.{row_count}
use Rattle.roles.specs.BindingSteps.{bound_rows}
use Rattle.roles.specs.declared.buffers.Filling.{Filling}

-- the roles and the bindings of all rows, in the same two buffers
pub record Fills (old new : Filling) : Type 0 where
  pub roles_filled : new.roles.now ≡ roles_after old.table.now old.words.now old.roles.now
  pub bindings_filled : new.bindings.now ≡ bound_rows old.table.now (u32s old.words.now) (row_count old.table.now) old.bindings.now
  pub same_roles : new.roles.ghost_name ≡ old.roles.ghost_name
  pub same_bindings : new.bindings.ghost_name ≡ old.bindings.ghost_name
