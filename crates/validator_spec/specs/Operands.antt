-- What an executable word names and where it goes (document 01, "Findings", table and text below it). Each kind of operand is a list, empty where
-- the word names none. Assumes nothing: these are definitions.
use Rattle.std.specs.Prelude.{ℕ, ◌+◌, ◌-◌, Bool, ◌&&◌, ◌||◌, not, ltb, ℤ, pos, ◌+ℤ◌}
use mathlib.Core.List.{List, [], ◌∷◌, flatten}
use Rattle.base.specs.Lists.{only}
use Rattle.opcodes.specs.Words.{Field, B, C, operand, opcode, field_a, field_bx, field_sbx, is, is_constant, constant_index, without_a, with_sbx, MOVE, LOADK, LOADBOOL, GETUPVAL, GETGLOBAL, SETGLOBAL, SETUPVAL, SELF, EQ, LT, LE, TEST, TESTSET, CALL, TAILCALL, RETURN, FORLOOP, FORPREP, TFORLOOP, SETLIST, CLOSURE, VARARG}

-- "opcode above 37": such a word names nothing
unfoldable pub is_unknown : ℕ → Bool
is_unknown w = ltb VARARG (opcode w)

-- ---- where a word goes

-- the words with a target: those with sBx
unfoldable pub is_jump : ℕ → Bool
is_jump w = is w with_sbx

-- "place + 1 + sBx"
unfoldable pub target : ℕ → ℕ → ℤ
target pc w = pos (pc + 1) +ℤ field_sbx w

-- "LOADBOOL with C not 0"
unfoldable pub is_loadbool_skip : ℕ → Bool
is_loadbool_skip w = is w (LOADBOOL ∷ []) && ltb 0 (operand C w)

-- the words that skip or go on: "EQ, LT, LE, TEST, TESTSET, TFORLOOP"
abbrev pub conditional_skips : List ℕ
conditional_skips = EQ ∷ LT ∷ LE ∷ TEST ∷ TESTSET ∷ TFORLOOP ∷ []

-- "A skip goes to place + 2: EQ, LT, LE, TEST, TESTSET, TFORLOOP, and LOADBOOL with C not 0"
unfoldable pub is_skip : ℕ → Bool
is_skip w = is w conditional_skips || is_loadbool_skip w

-- the pc that a skip goes to
unfoldable pub skip_target : ℕ → ℕ
skip_target pc = pc + 2

-- ---- the operands that it names

-- "LOADK, GETGLOBAL, SETGLOBAL: Bx"
unfoldable pub constant_bx : ℕ → List ℕ
constant_bx w = only (is w (LOADK ∷ GETGLOBAL ∷ SETGLOBAL ∷ [])) (field_bx w)

-- "GETUPVAL, SETUPVAL: B"
unfoldable pub upvalue_b : ℕ → List ℕ
upvalue_b w = only (is w (GETUPVAL ∷ SETUPVAL ∷ [])) (operand B w)

-- "EQ, LT, LE: A above 1": a comparison's flag is below this
abbrev pub flag_limit : ℕ
flag_limit = 2

-- "EQ, LT, LE: A": a comparison's flag
unfoldable pub flag_a : ℕ → List ℕ
flag_a w = only (is w (EQ ∷ LT ∷ LE ∷ [])) (field_a w)

-- "register A": a register in all known opcodes but four
unfoldable pub register_a : ℕ → List ℕ
register_a w = only (not (is_unknown w) && not (is w without_a)) (field_a w)

-- "Last registers": those of spans, in the document's order
unfoldable pub span_ends : ℕ → List ℕ
span_ends w =
    let a = field_a w in
    let b = operand B w in
    let c = operand C w in
    flatten (
    only (is w (SELF ∷ [])) (a + 1)
    ∷ only (is w (FORPREP ∷ FORLOOP ∷ [])) (a + 3)
    ∷ only (is w (TFORLOOP ∷ [])) (a + 2 + c)
    ∷ only (is w (CALL ∷ []) && ltb 0 b) (a + b - 1)
    ∷ only (is w (CALL ∷ []) && ltb 1 c) (a + c - 2)
    ∷ only (is w (TAILCALL ∷ []) && ltb 0 b) (a + b - 1)
    ∷ only (is w (RETURN ∷ VARARG ∷ []) && ltb 1 b) (a + b - 2)
    ∷ only (is w (SETLIST ∷ []) && ltb 0 b) (a + b)
    ∷ []
    )

-- "B register, or RK B below 256", and likewise for C: one rule for either field
unfoldable pub register_in : Field → ℕ → List ℕ
register_in f w = only (is w f.fixed || is w f.rk && not (is_constant (operand f w))) (operand f w)

-- "RK constant B", and likewise for C
unfoldable pub constant_in : Field → ℕ → List ℕ
constant_in f w = only (is w f.rk && is_constant (operand f w)) (constant_index (operand f w))

-- "CLOSURE: child Bx"
unfoldable pub child_bx : ℕ → List ℕ
child_bx w = only (is w (CLOSURE ∷ [])) (field_bx w)

-- ---- what a companion of a CLOSURE captures: "a register under MOVE, an upvalue under GETUPVAL"

-- the companion captures something
unfoldable pub is_binding : ℕ → Bool
is_binding w = is w (MOVE ∷ GETUPVAL ∷ [])

-- the register under MOVE
unfoldable pub captured_register : ℕ → List ℕ
captured_register w = only (is w (MOVE ∷ [])) (operand B w)

-- the upvalue under GETUPVAL
unfoldable pub captured_upvalue : ℕ → List ℕ
captured_upvalue w = only (is w (GETUPVAL ∷ [])) (operand B w)
