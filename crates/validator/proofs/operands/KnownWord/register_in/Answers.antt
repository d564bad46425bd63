-- The tests of the field and its value are those of the word.
use Rattle.std.proofs.Common.{rules}
use Rattle.validator.proofs.KnownOperandLaws.{names_register}
use Rattle.validator.proofs.operands.KnownWord.register_in.Goals as goal

pub returns : goal.returns
returns c = names_register c.args.self.now.op _ c.args.self.now.decodes c.args.field c.operand-value.result c.if-fixed.is_register c.operand-value.ensures (search rules) _ (search rules)
