-- A word that was split and whose opcode is known: its tests and operands, by the arm of the code's `match`. Assumes nothing.
use Rattle.std.proofs.Common.{◌≡◌, ℕ, ◌+◌, ◌-◌, ◌<◌, Bool, true, false, not, ◌&&◌, ◌||◌, T, ltb, ◌⊎◌, List, [], ◌∷◌, ◌++◌, sym, refl, ap, ◌∙◌, subst, ap₂, ⊎_elim, append-nil, arith, le-ltb}
use mathlib.Core.List.{flatten}
use Rattle.std.specs.Bool.{then_some}
use Rattle.std.specs.Prelude.{Option, Some, None}
use Rattle.base.specs.Lists.{elem, only}
use Rattle.opcodes.specs.Words.{B, C, field_of, operand_in, opcode, operand, field_a, field_bx, is, decoded, opcode_of, number_of, a_is_register, without_a, is_constant, constant_index, is_fixed_register, is_rk, SELF, FORPREP, FORLOOP, TFORLOOP, CALL, TAILCALL, RETURN, VARARG, SETLIST, CLOSURE, LOADBOOL, EQ, LT, LE, TEST, TESTSET}
use Rattle.opcodes.specs.declared.Opcode51.{Opcode51}
use Rattle.opcodes.specs.declared.OpcodeField.TheVariants.{Known}
use Rattle.opcodes.specs.declared.RawInstruction51.{RawInstruction51}
use Rattle.opcodes.proofs.FieldLaws.{field_below}
use Rattle.opcodes.proofs.OpcodeLaws.{known_below, known_number}
use Rattle.base.proofs.BoolLaws.{subset}
use Rattle.opcodes.proofs.OpcodeTestLaws.{is_among}
use Rattle.validator_spec.specs.Operands.{is_unknown, is_skip, is_loadbool_skip, span_ends, register_a, register_in, constant_in, child_bx}
use Rattle.validator.specs.Terms.{Decodes, as_list}
use Rattle.opcodes.specs.declared.Field.{Field as FieldCode}
use Rattle.opcodes.specs.declared.Field.TheVariants as field
use Rattle.validator.specs.Clean.{no_limit}

-- an operand that a word names where a test passes
pub named_if : (b : Bool) (v : ℕ) → as_list (then_some b v) ≡ only b v
unfolding only
named_if true v = refl
named_if false v = refl

-- the opcodes of words that always may skip
abbrev pub skips : List ℕ
skips = EQ ∷ LT ∷ LE ∷ TEST ∷ TESTSET ∷ TFORLOOP ∷ []

-- ---- the opcode and the fields

-- the fields of a word that was split
module _ (w : RawInstruction51) (split : w ≡ decoded w.raw) where
  pub split_number : w.opcode_num ≡ opcode w.raw
  unfolding decoded
  split_number = ap (λ (x : RawInstruction51). x.opcode_num) split

  pub split_a : w.a ≡ field_a w.raw
  unfolding decoded
  split_a = ap (λ (x : RawInstruction51). x.a) split

  pub split_b : w.b ≡ operand B w.raw
  unfolding decoded
  split_b = ap (λ (x : RawInstruction51). x.b) split

  pub split_c : w.c ≡ operand C w.raw
  unfolding decoded
  split_c = ap (λ (x : RawInstruction51). x.c) split

  pub split_bx : w.bx ≡ field_bx w.raw
  unfolding decoded
  split_bx = ap (λ (x : RawInstruction51). x.bx) split

  pub bx_below : w.bx < no_limit
  bx_below = omega (arith, split_bx, field_below 14 18 w.raw)

-- a word that was split and whose opcode is known

module _ (op : Opcode51) (w : RawInstruction51) (d : Decodes op w) where
  pub opcode_known : opcode_of (opcode w.raw) ≡ Known op
  unfolding decoded
  opcode_known = sym (ap (λ (x : RawInstruction51). x.opcode) d.split) ∙ d.known

  pub number : opcode w.raw ≡ number_of op
  number = known_number (opcode w.raw) op opcode_known

  pub not_unknown : is_unknown w.raw ≡ false
  unfolding is_unknown
  not_unknown = le-ltb VARARG (opcode w.raw) (omega (arith, known_below (opcode w.raw) op opcode_known))

  -- the opcode is one of a list
  pub listed : (ops : List ℕ) → elem (number_of op) ops ≡ is w.raw ops
  unfolding is
  listed ops = ap (λ (n : ℕ). elem n ops) (sym number)

  -- ---- operands

  -- the opcode is in the list: the word names this
  pub names : (ops : List ℕ) (v u : ℕ) → true ≡ elem (number_of op) ops → v ≡ u → as_list (Some v) ≡ only (is w.raw ops) u
  unfolding only
  names ops v u e q = rw (← listed ops, ← e, q)

  -- the opcode is not in the list: the word names nothing
  pub names_none : (ops : List ℕ) (u : ℕ) → false ≡ elem (number_of op) ops → as_list None ≡ only (is w.raw ops) u
  unfolding only
  names_none ops u e = rw (← listed ops, ← e)

  -- register A
  pub names_a : (b : Bool) (o : Option ℕ) → b ≡ a_is_register op → o ≡ then_some b w.a → as_list o ≡ register_a w.raw
  unfolding register_a a_is_register
  names_a b o e g = rw g (named_if b w.a ∙ ap₂ only (e ∙ ap not (listed without_a)) (split_a w d.split) ∙ rw not_unknown)

  -- a CLOSURE's child
  pub names_child : (b : Bool) (o : Option ℕ) → b ≡ is w.raw (CLOSURE ∷ []) → o ≡ then_some b w.bx → as_list o ≡ child_bx w.raw
  unfolding child_bx
  names_child b o e g = rw g (named_if b w.bx ∙ ap₂ only e (split_bx w d.split))

  -- B or C, by the code's name
  operand_of : (f : FieldCode) → operand_in f w ≡ operand (field_of f) w.raw
  operand_of field.B = split_b w d.split
  operand_of field.C = split_c w d.split

  fixed_of : (f : FieldCode) → is_fixed_register (field_of f) op ≡ is w.raw (field_of f).fixed
  unfolding is_fixed_register
  fixed_of f = listed (field_of f).fixed

  rk_of : (f : FieldCode) → is_rk (field_of f) op ≡ is w.raw (field_of f).rk
  unfolding is_rk
  rk_of f = listed (field_of f).rk

  pub names_register : (f : FieldCode) (value : ℕ) (b : Bool) → value ≡ operand_in f w → b ≡ (is_fixed_register (field_of f) op || is_rk (field_of f) op && not (is_constant value)) → (o : Option ℕ) → o ≡ then_some b value
      → as_list o ≡ register_in (field_of f) w.raw
  unfolding register_in
  names_register f value b q e o h = rw h (named_if b value ∙ rw (e, q, fixed_of f, rk_of f, operand_of f))

  pub names_constant : (f : FieldCode) (value k : ℕ) (b : Bool) → value ≡ operand_in f w → b ≡ (is_rk (field_of f) op && is_constant value) → k ≡ constant_index value → (o : Option ℕ) → o ≡ then_some b k
      → as_list o ≡ constant_in (field_of f) w.raw
  unfolding constant_in
  names_constant f value k b q e g o h = rw h (named_if b k ∙ rw (e, g, q, rk_of f, operand_of f))

  -- ---- skips

  pub skip_always : true ≡ elem (number_of op) skips → true ≡ is_skip w.raw
  unfolding is_skip
  skip_always e = rw (← listed skips, ← e)

  pub skip_by_c : false ≡ elem (number_of op) skips → true ≡ elem (number_of op) (LOADBOOL ∷ []) → ltb 0 w.c ≡ is_skip w.raw
  unfolding is_skip is_loadbool_skip
  skip_by_c e f = rw (← listed skips, ← e, ← listed (LOADBOOL ∷ []), ← f, split_c w d.split)

  pub skip_never : false ≡ elem (number_of op) skips → false ≡ elem (number_of op) (LOADBOOL ∷ []) → false ≡ is_skip w.raw
  unfolding is_skip is_loadbool_skip
  skip_never e f = rw (← listed skips, ← e, ← listed (LOADBOOL ∷ []), ← f)

-- ---- spans

-- by the number of the opcode and the fields
abbrev spans : ℕ → ℕ → ℕ → ℕ → List ℕ
spans n a b c =
    flatten (
    only (elem n (SELF ∷ [])) (a + 1)
    ∷ only (elem n (FORPREP ∷ FORLOOP ∷ [])) (a + 3)
    ∷ only (elem n (TFORLOOP ∷ [])) (a + 2 + c)
    ∷ only (elem n (CALL ∷ []) && ltb 0 b) (a + b - 1)
    ∷ only (elem n (CALL ∷ []) && ltb 1 c) (a + c - 2)
    ∷ only (elem n (TAILCALL ∷ []) && ltb 0 b) (a + b - 1)
    ∷ only (elem n (RETURN ∷ VARARG ∷ []) && ltb 1 b) (a + b - 2)
    ∷ only (elem n (SETLIST ∷ []) && ltb 0 b) (a + b)
    ∷ []
    )

-- no opcode of one list, and so none of a part of it
none_of : (w : ℕ) (these those : List ℕ) → T (subset these those) → is w those ≡ false → is w these ≡ false
none_of w these those s e = go (is w these) refl
  where
    go : (b : Bool) → is w these ≡ b → is w these ≡ false
    go true q = absurd (subst T e (is_among w these those s (subst T (sym q) tt)))
    go false q = q

-- the opcodes that have one
abbrev pub spanning : List ℕ
spanning = SELF ∷ CALL ∷ TAILCALL ∷ RETURN ∷ FORLOOP ∷ FORPREP ∷ TFORLOOP ∷ SETLIST ∷ VARARG ∷ []

module _ (op : Opcode51) (w : RawInstruction51) (d : Decodes op w) where
  spans_of : (n : ℕ) → number_of op ≡ n → spans n w.a w.b w.c ≡ span_ends w.raw
  unfolding span_ends is
  spans_of n e =
      let q : n ≡ opcode w.raw = sym e ∙ sym (number op w d) in
      rw (q, split_a w d.split, split_b w d.split, split_c w d.split)

  pub span_self : number_of op ≡ SELF → as_list (Some (w.a + 1)) ++ as_list None ≡ span_ends w.raw
  unfolding flatten only
  span_self e = spans_of SELF e

  pub span_for : (number_of op ≡ FORPREP) ⊎ (number_of op ≡ FORLOOP) → as_list (Some (w.a + 3)) ++ as_list None ≡ span_ends w.raw
  unfolding flatten only
  span_for e = ⊎_elim (spans_of FORPREP) (spans_of FORLOOP) e

  pub span_tforloop : number_of op ≡ TFORLOOP → as_list (Some (w.a + 2 + w.c)) ++ as_list None ≡ span_ends w.raw
  unfolding flatten only
  span_tforloop e = spans_of TFORLOOP e

  module _ (first : Option ℕ) where
    pub span_call : (second : Option ℕ) → number_of op ≡ CALL → as_list first ≡ only (ltb 0 w.b) (w.a + w.b - 1) → as_list second ≡ only (ltb 1 w.c) (w.a + w.c - 2) → as_list first ++ as_list second ≡ span_ends w.raw
    unfolding flatten only
    span_call second e f g = ap₂ (λ (x y : List ℕ). x ++ y) f (g ∙ sym (append-nil _)) ∙ spans_of CALL e

    pub span_tailcall : number_of op ≡ TAILCALL → as_list first ≡ only (ltb 0 w.b) (w.a + w.b - 1) → as_list first ++ as_list None ≡ span_ends w.raw
    unfolding flatten only
    span_tailcall e f = ap (λ (x : List ℕ). x ++ []) f ∙ spans_of TAILCALL e

    pub span_return : (number_of op ≡ RETURN) ⊎ (number_of op ≡ VARARG) → as_list first ≡ only (ltb 1 w.b) (w.a + w.b - 2) → as_list first ++ as_list None ≡ span_ends w.raw
    unfolding flatten only
    span_return e f = ap (λ (x : List ℕ). x ++ []) f ∙ ⊎_elim (spans_of RETURN) (spans_of VARARG) e

    pub span_setlist : number_of op ≡ SETLIST → as_list first ≡ only (ltb 0 w.b) (w.a + 1 + w.b - 1) → as_list first ++ as_list None ≡ span_ends w.raw
    unfolding flatten only
    span_setlist e f =
        let sum : w.a + 1 + w.b - 1 ≡ w.a + w.b = omega arith in
        ap (λ (x : List ℕ). x ++ []) (f ∙ ap (only (ltb 0 w.b)) sum) ∙ spans_of SETLIST e

  pub span_none : false ≡ elem (number_of op) spanning → as_list None ++ as_list None ≡ span_ends w.raw
  unfolding flatten only span_ends
  span_none e =
      let none = sym (listed op w d spanning) ∙ sym e in
      let no : (ops : List ℕ) → T (subset ops spanning) → is w.raw ops ≡ false = λ ops s. none_of w.raw ops spanning s none in
      rw (no (SELF ∷ []) tt, no (FORPREP ∷ FORLOOP ∷ []) tt, no (TFORLOOP ∷ []) tt, no (CALL ∷ []) tt, no (TAILCALL ∷ []) tt, no (RETURN ∷ VARARG ∷ []) tt, no (SETLIST ∷ []) tt)
