-- Where it is a CLOSURE, its Bx.
use Rattle.validator.proofs.KnownOperandLaws.{names_child}
use Rattle.validator.proofs.operands.KnownWord.child_bx.Goals as goal

pub returns : goal.returns
returns c = names_child _ _ c.args.self.now.decodes _ _ c.is_closure.ensures c.then_some.ensures
