-- The spans are those of the word, by its opcode.
use Rattle.std.proofs.Common.{rules, ap}
use Rattle.opcodes.specs.Words.{number_of}
use Rattle.validator.proofs.KnownOperandLaws.{span_self, span_for, span_tforloop, span_call, span_tailcall, span_return, span_setlist, span_none}
use Rattle.validator.proofs.operands.KnownWord.span_ends.Goals as goal

pub returns-in-SelfOp : goal.returns-in-SelfOp
unfolding number_of
returns-in-SelfOp c = span_self _ _ c.args.self.now.decodes (ap number_of c.in-SelfOp.is)

pub returns-in-ForPrep : goal.returns-in-ForPrep
unfolding number_of
returns-in-ForPrep c = span_for _ _ c.args.self.now.decodes (search rules)

pub returns-in-TForLoop : goal.returns-in-TForLoop
unfolding number_of
returns-in-TForLoop c = span_tforloop _ _ c.args.self.now.decodes (ap number_of c.in-TForLoop.is)

pub returns-in-Call : goal.returns-in-Call
unfolding number_of
returns-in-Call c = span_call _ _ c.args.self.now.decodes _ _ (ap number_of c.in-Call.is) c.window.ensures c.window-in-Call.ensures

pub returns-in-TailCall : goal.returns-in-TailCall
unfolding number_of
returns-in-TailCall c = span_tailcall _ _ c.args.self.now.decodes _ (ap number_of c.in-TailCall.is) c.window-in-TailCall.ensures

pub returns-in-Return : goal.returns-in-Return
unfolding number_of
returns-in-Return c = span_return _ _ c.args.self.now.decodes _ (search rules) c.window-in-Return.ensures

pub returns-in-SetList : goal.returns-in-SetList
unfolding number_of
returns-in-SetList c = span_setlist _ _ c.args.self.now.decodes _ (ap number_of c.in-SetList.is) c.window-in-SetList.ensures

pub returns-in_default : goal.returns-in_default
unfolding number_of
returns-in_default c = span_none _ _ c.args.self.now.decodes (search rules)
