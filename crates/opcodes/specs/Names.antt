-- Lua's names of the opcodes and of their operand fields (lopcodes.h of Lua 5.1). Assumes nothing: these are definitions.
use Rattle.std.specs.Prelude.{ℕ, List, codes}
use Rattle.opcodes.specs.declared.Opcode51.{Opcode51}
use Rattle.opcodes.specs.declared.Opcode51.TheVariants.{Move, LoadK, LoadBool, LoadNil, GetUpval, GetGlobal, GetTable, SetGlobal, SetUpval, SetTable, NewTable, SelfOp, Add, Sub, Mul, Div, Mod, Pow, Unm, Not, Len, Concat, Jmp, Eq, Lt, Le, Test, TestSet, Call, TailCall, Return, ForLoop, ForPrep, TForLoop, SetList, Close, Closure, VarArg}
use Rattle.opcodes.specs.declared.OpMode51.{OpMode51}
use Rattle.opcodes.specs.declared.OpMode51.TheVariants.{IABC, IABx, IAsBx}

-- the name of each opcode
unfoldable pub opcode_name : Opcode51 → List ℕ
opcode_name Move = codes "MOVE"
opcode_name LoadK = codes "LOADK"
opcode_name LoadBool = codes "LOADBOOL"
opcode_name LoadNil = codes "LOADNIL"
opcode_name GetUpval = codes "GETUPVAL"
opcode_name GetGlobal = codes "GETGLOBAL"
opcode_name GetTable = codes "GETTABLE"
opcode_name SetGlobal = codes "SETGLOBAL"
opcode_name SetUpval = codes "SETUPVAL"
opcode_name SetTable = codes "SETTABLE"
opcode_name NewTable = codes "NEWTABLE"
opcode_name SelfOp = codes "SELF"
opcode_name Add = codes "ADD"
opcode_name Sub = codes "SUB"
opcode_name Mul = codes "MUL"
opcode_name Div = codes "DIV"
opcode_name Mod = codes "MOD"
opcode_name Pow = codes "POW"
opcode_name Unm = codes "UNM"
opcode_name Not = codes "NOT"
opcode_name Len = codes "LEN"
opcode_name Concat = codes "CONCAT"
opcode_name Jmp = codes "JMP"
opcode_name Eq = codes "EQ"
opcode_name Lt = codes "LT"
opcode_name Le = codes "LE"
opcode_name Test = codes "TEST"
opcode_name TestSet = codes "TESTSET"
opcode_name Call = codes "CALL"
opcode_name TailCall = codes "TAILCALL"
opcode_name Return = codes "RETURN"
opcode_name ForLoop = codes "FORLOOP"
opcode_name ForPrep = codes "FORPREP"
opcode_name TForLoop = codes "TFORLOOP"
opcode_name SetList = codes "SETLIST"
opcode_name Close = codes "CLOSE"
opcode_name Closure = codes "CLOSURE"
opcode_name VarArg = codes "VARARG"

-- the name of each set of operand fields
unfoldable pub mode_name : OpMode51 → List ℕ
mode_name IABC = codes "iABC"
mode_name IABx = codes "iABx"
mode_name IAsBx = codes "iAsBx"
