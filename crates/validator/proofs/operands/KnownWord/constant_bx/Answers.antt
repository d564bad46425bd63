-- The opcode is one of those that name it, or not.
use Rattle.std.proofs.Common.{rules, [], ◌∷◌}
use Rattle.opcodes.specs.Words.{number_of, LOADK, GETGLOBAL, SETGLOBAL}
use Rattle.validator_spec.specs.Operands.{constant_bx}
use Rattle.validator.proofs.KnownOperandLaws.{names, names_none, split_bx}
use Rattle.validator.proofs.operands.KnownWord.constant_bx.Goals as goal

pub returns-in-LoadK : goal.returns-in-LoadK
unfolding number_of constant_bx
returns-in-LoadK c = names _ _ c.args.self.now.decodes (LOADK ∷ GETGLOBAL ∷ SETGLOBAL ∷ []) _ _ (search rules) (split_bx _ c.args.self.now.decodes.split)

pub returns-in_default : goal.returns-in_default
unfolding number_of constant_bx
returns-in_default c = names_none _ _ c.args.self.now.decodes (LOADK ∷ GETGLOBAL ∷ SETGLOBAL ∷ []) _ (search rules)
