-- The opcode is CLOSURE, or not.
use Rattle.std.proofs.Common.{rules, [], ◌∷◌, ◌∙◌}
use Rattle.opcodes.specs.Words.{number_of, CLOSURE}
use Rattle.validator.proofs.KnownOperandLaws.{listed}
use Rattle.validator.proofs.operands.KnownWord.is_closure.Goals as goal

pub returns-in-Closure : goal.returns-in-Closure
unfolding number_of
returns-in-Closure c = (search rules) ∙ listed _ _ c.args.self.now.decodes (CLOSURE ∷ [])

pub returns-in_default : goal.returns-in_default
unfolding number_of
returns-in_default c = (search rules) ∙ listed _ _ c.args.self.now.decodes (CLOSURE ∷ [])
