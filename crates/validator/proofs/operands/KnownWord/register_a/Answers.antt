-- Where A is a register, its value.
use Rattle.validator.proofs.KnownOperandLaws.{names_a}
use Rattle.validator.proofs.operands.KnownWord.register_a.Goals as goal

pub returns : goal.returns
returns c = names_a _ _ c.args.self.now.decodes _ _ c.a_is_register.ensures c.then_some.ensures
