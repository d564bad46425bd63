-- The records of the child's part are those of the whole buffer.
use Rattle.std.proofs.Common.{◌+◌, ◌-◌, ◌*◌, arith}
use Rattle.roles_spec.specs.Bindings.{binding_bytes}
use Rattle.roles.proofs.BindingStepLaws.{child_bound}
use Rattle.roles.proofs.bindings.bind_child.Goals as goal

pub returns : goal.returns
returns c =
    let size = binding_bytes * (c.args.first + c.args.upvalues) - binding_bytes * c.args.first in
    child_bound _ c.args.bindings.now _ _ c.args.first size _ c.args.upvalues (omega arith) c.requires.0 (omega arith) c.bind_words.ensures
