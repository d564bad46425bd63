-- The opcode is one that always may skip, or LOADBOOL, or neither.
use Rattle.std.proofs.Common.{rules}
use Rattle.opcodes.specs.Words.{number_of}
use Rattle.validator.proofs.KnownOperandLaws.{skip_always, skip_by_c, skip_never}
use Rattle.validator.proofs.operands.KnownWord.is_conditional_skip.Goals as goal

pub returns-in-Eq : goal.returns-in-Eq
unfolding number_of
returns-in-Eq c = skip_always _ _ c.args.self.now.decodes (search rules)

pub returns-in-LoadBool : goal.returns-in-LoadBool
unfolding number_of
returns-in-LoadBool c = skip_by_c _ _ c.args.self.now.decodes (search rules) (search rules)

pub returns-in_default : goal.returns-in_default
unfolding number_of
returns-in_default c = skip_never _ _ c.args.self.now.decodes (search rules) (search rules)
