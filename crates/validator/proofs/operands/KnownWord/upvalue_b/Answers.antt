-- The opcode is one of those that name it, or not.
use Rattle.std.proofs.Common.{rules, [], ◌∷◌}
use Rattle.opcodes.specs.Words.{number_of, GETUPVAL, SETUPVAL}
use Rattle.validator_spec.specs.Operands.{upvalue_b}
use Rattle.validator.proofs.KnownOperandLaws.{names, names_none, split_b}
use Rattle.validator.proofs.operands.KnownWord.upvalue_b.Goals as goal

pub returns-in-GetUpval : goal.returns-in-GetUpval
unfolding number_of upvalue_b
returns-in-GetUpval c = names _ _ c.args.self.now.decodes (GETUPVAL ∷ SETUPVAL ∷ []) _ _ (search rules) (split_b _ c.args.self.now.decodes.split)

pub returns-in_default : goal.returns-in_default
unfolding number_of upvalue_b
returns-in_default c = names_none _ _ c.args.self.now.decodes (GETUPVAL ∷ SETUPVAL ∷ []) _ (search rules)
