-- Words (document 01, "Words"; lopcodes.h of Lua 5.1): how a word splits, the opcodes, and what A, B and C are under each. Assumes nothing: these are definitions.
use Rattle.std.specs.Prelude.{ℕ, zero, suc, ◌+◌, ◌-◌, ◌/◌, ◌%◌, ◌^◌, Bool, not, cond, List, [], ◌∷◌, ◌++◌, leb, ℤ, pos, ◌-ℤ◌}
use Rattle.base.specs.Lists.{elem}
use Rattle.opcodes.specs.declared.Opcode51.{Opcode51}
use Rattle.opcodes.specs.declared.Opcode51.TheVariants.{Move, LoadK, LoadBool, LoadNil, GetUpval, GetGlobal, GetTable, SetGlobal, SetUpval, SetTable, NewTable, SelfOp, Add, Sub, Mul, Div, Mod, Pow, Unm, Not, Len, Concat, Jmp, Eq, Lt, Le, Test, TestSet, Call, TailCall, Return, ForLoop, ForPrep, TForLoop, SetList, Close, Closure, VarArg}
use Rattle.opcodes.specs.declared.OpcodeField.{OpcodeField}
use Rattle.opcodes.specs.declared.OpcodeField.TheVariants.{Known, Unknown}
use Rattle.opcodes.specs.declared.Field.{Field as OperandField}
use Rattle.opcodes.specs.declared.Field.TheVariants.{B as AtB, C as AtC}
use Rattle.opcodes.specs.declared.OpMode51.{OpMode51}
use Rattle.opcodes.specs.declared.OpMode51.TheVariants.{IABC, IABx, IAsBx}
use Rattle.opcodes.specs.declared.RawInstruction51.{RawInstruction51}

-- ---- the split

-- the bits `position` to `position + size - 1` of a word, as a number
abbrev pub field : ℕ → ℕ → ℕ → ℕ
field position size w = w / 2 ^ position % 2 ^ size

-- "Opcode: bits 0 to 5"
abbrev pub opcode : ℕ → ℕ
opcode = field 0 6

-- "A: 6 to 13"
abbrev pub field_a : ℕ → ℕ
field_a = field 6 8

-- "Bx: 14 to 31"
abbrev pub field_bx : ℕ → ℕ
field_bx = field 14 18

-- the difference of Bx and sBx
abbrev pub offset_sbx : ℕ
offset_sbx = 131071

-- "sBx = Bx - 131,071"
abbrev pub field_sbx : ℕ → ℤ
field_sbx w = pos (field_bx w) -ℤ pos offset_sbx

-- ---- the opcodes by their numbers: lopcodes.h's order

abbrev pub MOVE : ℕ
MOVE = 0

abbrev pub LOADK : ℕ
LOADK = 1

abbrev pub LOADBOOL : ℕ
LOADBOOL = 2

abbrev pub LOADNIL : ℕ
LOADNIL = 3

abbrev pub GETUPVAL : ℕ
GETUPVAL = 4

abbrev pub GETGLOBAL : ℕ
GETGLOBAL = 5

abbrev pub GETTABLE : ℕ
GETTABLE = 6

abbrev pub SETGLOBAL : ℕ
SETGLOBAL = 7

abbrev pub SETUPVAL : ℕ
SETUPVAL = 8

abbrev pub SETTABLE : ℕ
SETTABLE = 9

abbrev pub NEWTABLE : ℕ
NEWTABLE = 10

abbrev pub SELF : ℕ
SELF = 11

abbrev pub ADD : ℕ
ADD = 12

abbrev pub SUB : ℕ
SUB = 13

abbrev pub MUL : ℕ
MUL = 14

abbrev pub DIV : ℕ
DIV = 15

abbrev pub MOD : ℕ
MOD = 16

abbrev pub POW : ℕ
POW = 17

abbrev pub UNM : ℕ
UNM = 18

abbrev pub NOT : ℕ
NOT = 19

abbrev pub LEN : ℕ
LEN = 20

abbrev pub CONCAT : ℕ
CONCAT = 21

abbrev pub JMP : ℕ
JMP = 22

abbrev pub EQ : ℕ
EQ = 23

abbrev pub LT : ℕ
LT = 24

abbrev pub LE : ℕ
LE = 25

abbrev pub TEST : ℕ
TEST = 26

abbrev pub TESTSET : ℕ
TESTSET = 27

abbrev pub CALL : ℕ
CALL = 28

abbrev pub TAILCALL : ℕ
TAILCALL = 29

abbrev pub RETURN : ℕ
RETURN = 30

abbrev pub FORLOOP : ℕ
FORLOOP = 31

abbrev pub FORPREP : ℕ
FORPREP = 32

abbrev pub TFORLOOP : ℕ
TFORLOOP = 33

abbrev pub SETLIST : ℕ
SETLIST = 34

abbrev pub CLOSE : ℕ
CLOSE = 35

abbrev pub CLOSURE : ℕ
CLOSURE = 36

abbrev pub VARARG : ℕ
VARARG = 37

-- the number of opcodes
abbrev pub opcode_count : ℕ
opcode_count = VARARG + 1

-- the word's opcode is one of these
unfoldable pub is : ℕ → List ℕ → Bool
is w ops = elem (opcode w) ops

-- the number of each of luad's names
unfoldable pub number_of : Opcode51 → ℕ
number_of Move = MOVE
number_of LoadK = LOADK
number_of LoadBool = LOADBOOL
number_of LoadNil = LOADNIL
number_of GetUpval = GETUPVAL
number_of GetGlobal = GETGLOBAL
number_of GetTable = GETTABLE
number_of SetGlobal = SETGLOBAL
number_of SetUpval = SETUPVAL
number_of SetTable = SETTABLE
number_of NewTable = NEWTABLE
number_of SelfOp = SELF
number_of Add = ADD
number_of Sub = SUB
number_of Mul = MUL
number_of Div = DIV
number_of Mod = MOD
number_of Pow = POW
number_of Unm = UNM
number_of Not = NOT
number_of Len = LEN
number_of Concat = CONCAT
number_of Jmp = JMP
number_of Eq = EQ
number_of Lt = LT
number_of Le = LE
number_of Test = TEST
number_of TestSet = TESTSET
number_of Call = CALL
number_of TailCall = TAILCALL
number_of Return = RETURN
number_of ForLoop = FORLOOP
number_of ForPrep = FORPREP
number_of TForLoop = TFORLOOP
number_of SetList = SETLIST
number_of Close = CLOSE
number_of Closure = CLOSURE
number_of VarArg = VARARG

-- luad's names in the order of the numbers
unfoldable pub opcodes : List Opcode51
opcodes = Move ∷ LoadK ∷ LoadBool ∷ LoadNil ∷ GetUpval ∷ GetGlobal ∷ GetTable ∷ SetGlobal ∷ SetUpval ∷ SetTable ∷ NewTable ∷ SelfOp ∷ Add ∷ Sub ∷ Mul ∷ Div ∷ Mod ∷ Pow ∷ Unm ∷ Not ∷ Len ∷ Concat ∷ Jmp ∷ Eq ∷ Lt ∷ Le ∷ Test ∷ TestSet ∷ Call ∷ TailCall ∷ Return ∷ ForLoop ∷ ForPrep ∷ TForLoop ∷ SetList ∷ Close ∷ Closure ∷ VarArg ∷ []

-- entry k of a list of opcodes; past its end, the unknown number n
unfoldable pub opcode_at : List Opcode51 → ℕ → ℕ → OpcodeField
opcode_at [] k n = Unknown n
opcode_at (o ∷ os) zero n = Known o
opcode_at (o ∷ os) (suc k) n = opcode_at os k n

-- "Opcodes 0 to 37 are known"
unfoldable pub opcode_of : ℕ → OpcodeField
opcode_of n = opcode_at opcodes n n

-- the number of a known or unknown opcode
unfoldable pub opcode_number : OpcodeField → ℕ
opcode_number (Known o) = number_of o
opcode_number (Unknown n) = n

-- ---- B and C: two values of one kind of field, so that each rule is stated once, of a field

-- where the nine bits of an operand field stand, the opcodes in which it always names a register, and those in which it is an RK operand
pub record Field : Type 0 where
  pub position : ℕ
  pub fixed : List ℕ
  pub rk : List ℕ

-- the value of an operand field in a word
abbrev pub operand : Field → ℕ → ℕ
operand f = field f.position 9

-- "SETTABLE, ADD to POW, EQ, LT, LE": both B and C are RK operands
abbrev rk_both : List ℕ
rk_both = SETTABLE ∷ ADD ∷ SUB ∷ MUL ∷ DIV ∷ MOD ∷ POW ∷ EQ ∷ LT ∷ LE ∷ []

-- "B: 23 to 31", a register in MOVE, LOADNIL, ..
unfoldable pub B : Field
B = record { position = 23; fixed = MOVE ∷ LOADNIL ∷ GETTABLE ∷ SELF ∷ UNM ∷ NOT ∷ LEN ∷ CONCAT ∷ TESTSET ∷ []; rk = rk_both }

-- "C: 14 to 22", a register in CONCAT, an RK operand in GETTABLE and SELF too
unfoldable pub C : Field
C = record { position = 14; fixed = CONCAT ∷ []; rk = rk_both ++ GETTABLE ∷ SELF ∷ [] }

-- the field that the code's `AtB` or `AtC` means
abbrev pub field_of : OperandField → Field
field_of AtB = B
field_of AtC = C

-- ---- the operand rules of an opcode

-- "A is a register except in JMP, EQ, LT, LE"
abbrev pub without_a : List ℕ
without_a = JMP ∷ EQ ∷ LT ∷ LE ∷ []

unfoldable pub a_is_register : Opcode51 → Bool
a_is_register o = not (elem (number_of o) without_a)

-- "B register: ..", "C register: .."
unfoldable pub is_fixed_register : Field → Opcode51 → Bool
is_fixed_register f o = elem (number_of o) f.fixed

-- "B RK: ..", "C RK: .."
unfoldable pub is_rk : Field → Opcode51 → Bool
is_rk f o = elem (number_of o) f.rk

-- the bit that makes an RK operand a constant
abbrev pub bitrk_51 : ℕ
bitrk_51 = 256

-- "B or C of 256 or more names constant B - 256 or C - 256 in an RK operand": whether a value names one
unfoldable pub is_constant : ℕ → Bool
is_constant v = leb bitrk_51 v

-- the constant that a value names; a smaller value names a register, and stays
unfoldable pub constant_index : ℕ → ℕ
constant_index v = cond (is_constant v) (v - bitrk_51) v

-- "JMP, FORLOOP, FORPREP have sBx; LOADK, GETGLOBAL, SETGLOBAL, CLOSURE have Bx; the rest B and C"
abbrev pub with_sbx : List ℕ
with_sbx = JMP ∷ FORLOOP ∷ FORPREP ∷ []

abbrev pub with_bx : List ℕ
with_bx = LOADK ∷ GETGLOBAL ∷ SETGLOBAL ∷ CLOSURE ∷ []

unfoldable pub mode_of : Opcode51 → OpMode51
mode_of o = cond (elem (number_of o) with_sbx) IAsBx (cond (elem (number_of o) with_bx) IABx IABC)

-- ---- the decoded word: every field of a word

unfoldable pub decoded : ℕ → RawInstruction51
decoded w =
    record {
      raw = w;
      opcode_num = opcode w;
      opcode = opcode_of (opcode w);
      a = field_a w;
      b = operand B w;
      c = operand C w;
      bx = field_bx w;
      sbx = field_sbx w;
    }

-- the value of B, or of C, in a decoded word
abbrev pub operand_in : OperandField → RawInstruction51 → ℕ
operand_in AtB w = w.b
operand_in AtC w = w.c
