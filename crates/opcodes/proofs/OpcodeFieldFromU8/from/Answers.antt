-- A number past the list is not known.
use Rattle.std.proofs.Common.{◌≤◌, arith, sym, refl}
use Rattle.opcodes.specs.Words.{opcode_number, opcode_of, opcodes, opcode_count}
use Rattle.opcodes.proofs.OpcodeLaws.{past_list}
use Rattle.opcodes.proofs.OpcodeFieldFromU8.from.Goals as goal

pub returns-in_default : goal.returns-in_default
unfolding opcode_of opcodes opcode_number
returns-in_default c = let h : opcode_count ≤ c.args.val = omega arith in (sym (past_list opcodes c.args.val c.args.val h), refl)
