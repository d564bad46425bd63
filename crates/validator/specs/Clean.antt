-- What the fast test of a word knows of its opcode and its prototype: the terms of inner contracts. Assumes nothing: these are definitions.
use Rattle.std.specs.Prelude.{◌≡◌, ℕ, ◌+◌, T, List, [], ◌∷◌, pos, ◌-ℤ◌}
use Rattle.opcodes.specs.Words.{offset_sbx}
use Rattle.roles_spec.specs.Roles.{is_executable, role_at}
use Rattle.roles_spec.specs.Table.{Proto}
use Rattle.validator_spec.specs.Operands.{upvalue_b, flag_a, flag_limit, child_bx}
use Rattle.validator_spec.specs.Rules.{Below, Lands, registers_of, constants_of}
use Rattle.validator.specs.declared.clean.Flow.{Flow}
use Rattle.validator.specs.declared.clean.Flow.TheVariants.{Next, Target, Past}
use Rattle.validator.specs.declared.clean.Limit.{Limit}
use Rattle.validator.specs.declared.clean.Limit.TheVariants.{Nothing, NothingK, Register, RegisterK, Rk, Constant, Upvalue, UpvalueK, Flag, Child}
use Rattle.validator.specs.declared.clean.Shape.{Shape}
use Rattle.validator.specs.declared.rows.RowLimits.{RowLimits}

-- above every field of a word
abbrev pub no_limit : ℕ
no_limit = 262144

-- the limits of operands, by their slots: of a field that names nothing, a register, an RK operand, an upvalue (two slots each, the second for values
-- that have the bit of a constant), a flag, a child
unfoldable pub slot_limits : RowLimits → List ℕ
slot_limits q = no_limit ∷ no_limit ∷ q.stack ∷ 0 ∷ q.stack ∷ q.constants ∷ q.upvalues ∷ 0 ∷ flag_limit ∷ q.children ∷ []

-- the slot of each limit in this list
abbrev pub slot : Limit → ℕ
slot Nothing = 0
slot NothingK = 1
slot Register = 2
slot RegisterK = 3
slot Rk = 4
slot Constant = 5
slot Upvalue = 6
slot UpvalueK = 7
slot Flag = 8
slot Child = 9

-- what an opcode names and where its word goes: the limits of A, Bx, B and C, the spans that B and C end, and the flow
abbrev pub shape : Limit → Limit → Limit → Limit → ℕ → ℕ → Flow → Shape
shape a bx b c b_span c_span flow = record { a = a; bx = bx; b = b; c = c; b_span = b_span; c_span = c_span; flow = flow }

-- the shape of an opcode that names nothing
abbrev pub names_nothing : Shape
names_nothing = shape Nothing Nothing Nothing Nothing 0 0 Next

-- the shape of each opcode, as the code's table has it
unfoldable pub shapes : List Shape
shapes =
    shape Register Nothing Register Nothing 0 0 Next  -- MOVE
    ∷ shape Register Constant Nothing Nothing 0 0 Next  -- LOADK
    ∷ shape Register Nothing Nothing Nothing 0 0 (Past 2)  -- LOADBOOL
    ∷ shape Register Nothing Register Nothing 0 0 Next  -- LOADNIL
    ∷ shape Register Nothing Upvalue Nothing 0 0 Next  -- GETUPVAL
    ∷ shape Register Constant Nothing Nothing 0 0 Next  -- GETGLOBAL
    ∷ shape Register Nothing Register Rk 0 0 Next  -- GETTABLE
    ∷ shape Register Constant Nothing Nothing 0 0 Next  -- SETGLOBAL
    ∷ shape Register Nothing Upvalue Nothing 0 0 Next  -- SETUPVAL
    ∷ shape Register Nothing Rk Rk 0 0 Next  -- SETTABLE
    ∷ shape Register Nothing Nothing Nothing 0 0 Next  -- NEWTABLE
    ∷ shape Register Nothing Register Rk 6 0 Next  -- SELF
    ∷ shape Register Nothing Rk Rk 0 0 Next  -- ADD
    ∷ shape Register Nothing Rk Rk 0 0 Next  -- SUB
    ∷ shape Register Nothing Rk Rk 0 0 Next  -- MUL
    ∷ shape Register Nothing Rk Rk 0 0 Next  -- DIV
    ∷ shape Register Nothing Rk Rk 0 0 Next  -- MOD
    ∷ shape Register Nothing Rk Rk 0 0 Next  -- POW
    ∷ shape Register Nothing Register Nothing 0 0 Next  -- UNM
    ∷ shape Register Nothing Register Nothing 0 0 Next  -- NOT
    ∷ shape Register Nothing Register Nothing 0 0 Next  -- LEN
    ∷ shape Register Nothing Register Register 0 0 Next  -- CONCAT
    ∷ shape Nothing Nothing Nothing Nothing 0 0 Target  -- JMP
    ∷ shape Flag Nothing Rk Rk 0 0 (Past 2)  -- EQ
    ∷ shape Flag Nothing Rk Rk 0 0 (Past 2)  -- LT
    ∷ shape Flag Nothing Rk Rk 0 0 (Past 2)  -- LE
    ∷ shape Register Nothing Nothing Nothing 0 0 (Past 2)  -- TEST
    ∷ shape Register Nothing Register Nothing 0 0 (Past 2)  -- TESTSET
    ∷ shape Register Nothing Nothing Nothing 3 1 Next  -- CALL
    ∷ shape Register Nothing Nothing Nothing 3 0 Next  -- TAILCALL
    ∷ shape Register Nothing Nothing Nothing 1 0 Next  -- RETURN
    ∷ shape Register Nothing Nothing Nothing 10 0 Target  -- FORLOOP
    ∷ shape Register Nothing Nothing Nothing 10 0 Target  -- FORPREP
    ∷ shape Register Nothing Nothing Nothing 0 9 (Past 2)  -- TFORLOOP
    ∷ shape Register Nothing Nothing Nothing 5 0 Next  -- SETLIST
    ∷ shape Register Nothing Nothing Nothing 0 0 Next  -- CLOSE
    ∷ shape Register Child Nothing Nothing 0 0 (Past 1)  -- CLOSURE
    ∷ shape Register Nothing Nothing Nothing 1 0 Next  -- VARARG
    ∷ []

-- all operands that a word names are below these limits
pub record OperandsBelow (q : RowLimits) (w : ℕ) : Type 0 where
  pub constant : Below q.constants (constants_of w)
  pub upvalue : Below q.upvalues (upvalue_b w)
  pub flag : Below flag_limit (flag_a w)
  pub register : Below q.stack (registers_of w)
  pub child : Below q.children (child_bx w)

-- what the flow of a word at pc asks: an executable word at its target, or an executable word at pc + k; `Next` asks nothing
pub record FlowKept (p : Proto) (flow : Flow) (pc bx : ℕ) : Type 0 where
  pub target : flow ≡ Target → Lands p (pos (pc + 1 + bx) -ℤ pos offset_sbx)
  pub ahead : (k : ℕ) → flow ≡ Past k → T (is_executable (role_at p (pc + k)))
