-- One number for a list of words: the sum of their decoded fields, each with a weight. It serves comparisons with the Rust, and nothing of document 01.
-- Assumes nothing: these are definitions.
use Rattle.std.specs.Prelude.{ℕ, ◌+◌, ◌*◌, ◌%◌, ◌^◌, cond, List}
use mathlib.Core.List.{foldl}
use Rattle.base.specs.Bytes.{i32_bits}
use Rattle.opcodes.specs.Words.{a_is_register, decoded}
use Rattle.opcodes.specs.declared.OpcodeField.{OpcodeField}
use Rattle.opcodes.specs.declared.OpcodeField.TheVariants.{Known, Unknown}
use Rattle.opcodes.specs.declared.RawInstruction51.{RawInstruction51}

-- the weight by whether an opcode is known and has a register A
unfoldable pub kind_weight : OpcodeField → ℕ
kind_weight (Known o) = cond (a_is_register o) 17 19
kind_weight (Unknown n) = 23

-- the number of an unknown opcode, and 0 for a known one
unfoldable pub unknown_number : OpcodeField → ℕ
unknown_number (Known o) = 0
unknown_number (Unknown n) = n

unfoldable pub opcode_weight : OpcodeField → ℕ
opcode_weight o = kind_weight o + unknown_number o

unfoldable pub weight : RawInstruction51 → ℕ
weight w = w.opcode_num + w.a * 3 + w.b * 5 + w.c * 7 + w.bx * 11 + i32_bits w.sbx * 13 + opcode_weight w.opcode

unfoldable pub digest : List ℕ → ℕ
digest ws = foldl (λ (sum w : ℕ). (sum + weight (decoded w)) % 2 ^ 64) 0 ws
