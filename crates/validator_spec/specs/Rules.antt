-- The rules (document 01, "Rules"): what every executable word of a prototype keeps, read off table and words, with no limit and from no buffer.
-- Assumes nothing: these are definitions.
use Rattle.std.specs.Prelude.{ℕ, ◌+◌, ◌<◌, not, T, length, ℤ, pos, negsuc}
use mathlib.Core.List.{List, [], ◌∷◌, flatten}
use Rattle.base.specs.Lists.{All}
use Rattle.opcodes.specs.Words.{B, C}
use Rattle.roles_spec.specs.Table.{Proto}
use Rattle.roles_spec.specs.Roles.{Executable, is_executable, role_at, word_at, is_truncated, binding_words}
use Rattle.validator_spec.specs.Operands.{is_unknown, is_binding, is_jump, target, is_skip, skip_target, constant_bx, upvalue_b, flag_a, flag_limit, register_a, span_ends, register_in, constant_in, child_bx, captured_register, captured_upvalue}

-- each operand of a list is below the limit
abbrev pub Below : ℕ → List ℕ → Type 0
Below limit = All (λ v. v < limit)

-- all registers that a word names
unfoldable pub registers_of : ℕ → List ℕ
registers_of w = flatten (register_a w ∷ span_ends w ∷ register_in B w ∷ register_in C w ∷ [])

-- all constants that it names
unfoldable pub constants_of : ℕ → List ℕ
constants_of w = flatten (constant_bx w ∷ constant_in B w ∷ constant_in C w ∷ [])

-- what a companion of a CLOSURE captures is in range
pub record CapturesInRange (p : Proto) (w : ℕ) : Type 0 where
  pub register : Below p.stack (captured_register w)
  pub upvalue : Below p.upvalues (captured_upvalue w)

-- "Inside": all operands that the word at a pc names are in range, those that a CLOSURE's companions name among them
pub record OperandsInRange (p : Proto) (word_pc : ℕ) : Type 0 where
  pub register : Below p.stack (registers_of (word_at p word_pc))
  pub constant : Below p.constants (constants_of (word_at p word_pc))
  pub upvalue : Below p.upvalues (upvalue_b (word_at p word_pc))
  pub child : Below (length p.children) (child_bx (word_at p word_pc))
  pub captures : (j : ℕ) → j < binding_words p word_pc → CapturesInRange p (word_at p (word_pc + 1 + j))

-- a jump's target is an executable word
abbrev pub Lands : Proto → ℤ → Type 0
Lands p (pos n) = Executable p n
Lands p (negsuc n) = ⊥

-- "jump 5, 6": both rules
pub record JumpKept (p : Proto) (pc : ℕ) : Type 0 where
  pub target : T (is_jump (word_at p pc)) → Lands p (target pc (word_at p pc))
  pub skip : T (is_skip (word_at p pc)) → T (is_executable (role_at p (skip_target pc)))

-- a companion of a CLOSURE is a MOVE or a GETUPVAL, and what it captures is in range
pub record BindingKept (p : Proto) (w : ℕ) : Type 0 where
  pub opcode : T (is_binding w)
  pub captures : CapturesInRange p w

-- The rules at the executable word at pc, by the document's names and with its codes; its "part" is `proto`
pub record RulesAt (p : Proto) (pc : ℕ) : Type 0 where
  -- 1, 2
  pub truncated : T (not (is_truncated p pc))
  -- 4
  pub opcode : T (not (is_unknown (word_at p pc)))
  -- 5, 6
  pub jump : JumpKept p pc
  -- 7, 14, 15
  pub constant : Below p.constants (constants_of (word_at p pc))
  -- 8
  pub upvalue : Below p.upvalues (upvalue_b (word_at p pc))
  -- 9
  pub flag : Below flag_limit (flag_a (word_at p pc))
  -- 10 to 13
  pub register : Below p.stack (registers_of (word_at p pc))
  -- 16
  pub proto : Below (length p.children) (child_bx (word_at p pc))
  -- 17, and 12 and 8 at companions
  pub binding : (j : ℕ) → j < binding_words p pc → BindingKept p (word_at p (pc + 1 + j))

-- a prototype that keeps the rules
pub record WellFormed (p : Proto) : Type 0 where
  pub words : (pc : ℕ) → Executable p pc → RulesAt p pc
