-- The tests of the field and its value are those of the word.
use Rattle.std.proofs.Common.{rules}
use Rattle.validator.proofs.KnownOperandLaws.{names_constant}
use Rattle.validator.proofs.operands.KnownWord.constant_in.Goals as goal

pub returns : goal.returns
returns c = names_constant c.args.self.now.op _ c.args.self.now.decodes c.args.field c.operand-value.result c.index_k.result c.if-rk.is_constant c.operand-value.ensures (search rules) (search rules) _ (search rules)
