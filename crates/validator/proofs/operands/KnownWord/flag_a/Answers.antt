-- The opcode is one of those that name it, or not.
use Rattle.std.proofs.Common.{rules, [], ◌∷◌}
use Rattle.opcodes.specs.Words.{number_of, EQ, LT, LE}
use Rattle.validator_spec.specs.Operands.{flag_a}
use Rattle.validator.proofs.KnownOperandLaws.{names, names_none, split_a}
use Rattle.validator.proofs.operands.KnownWord.flag_a.Goals as goal

pub returns-in-Eq : goal.returns-in-Eq
unfolding number_of flag_a
returns-in-Eq c = names _ _ c.args.self.now.decodes (EQ ∷ LT ∷ LE ∷ []) _ _ (search rules) (split_a _ c.args.self.now.decodes.split)

pub returns-in_default : goal.returns-in_default
unfolding number_of flag_a
returns-in_default c = names_none _ _ c.args.self.now.decodes (EQ ∷ LT ∷ LE ∷ []) _ (search rules)
