-- What the fields of a split word say of its bits. Assumes nothing.
use Rattle.std.proofs.Common.{◌≡◌, ℕ, ◌<◌, true, false, [], ◌∷◌, sym, ap, ◌∙◌, eq-eqb, ne_eqb, ltb-true}
use Rattle.opcodes.specs.Words.{decoded, is, number_of, opcode, opcode_of, VARARG, opcode_count}
use Rattle.opcodes.specs.declared.Opcode51.{Opcode51}
use Rattle.opcodes.specs.declared.OpcodeField.{OpcodeField}
use Rattle.opcodes.specs.declared.OpcodeField.TheVariants.{Known, Unknown}
use Rattle.opcodes.specs.declared.RawInstruction51.{RawInstruction51}
use Rattle.opcodes.proofs.OpcodeLaws.{known_below, known_number, unknown_above}

module _ (w : ℕ) (r : RawInstruction51) (split : r ≡ decoded w) where
  -- a split word has the word's bits
  pub raw_of : r.raw ≡ w
  unfolding decoded
  raw_of = ap (λ (x : RawInstruction51). x.raw) split

  pub split_again : r ≡ decoded r.raw
  split_again = split ∙ ap decoded (sym raw_of)

  -- it has this opcode, or has another
  pub has_opcode : (op : ℕ) → r.opcode_num ≡ op → is w (op ∷ []) ≡ true
  unfolding decoded is
  has_opcode op e = rw (eq-eqb (opcode w) op (sym (ap (λ (x : RawInstruction51). x.opcode_num) split) ∙ e))

  pub has_other : (op : ℕ) → (r.opcode_num ≡ op → ⊥) → is w (op ∷ []) ≡ false
  unfolding decoded is
  has_other op f = rw (ne_eqb (opcode w) op (λ e. f (ap (λ (x : RawInstruction51). x.opcode_num) split ∙ e)))

  -- the case of its opcode: a known opcode has its own number, and the number of an unknown one is above the last
  case_of : (o : OpcodeField) → r.opcode ≡ o → opcode_of r.opcode_num ≡ o
  unfolding decoded
  case_of o e = ap (λ (x : RawInstruction51). opcode_of x.opcode_num) split ∙ sym (ap (λ (x : RawInstruction51). x.opcode) split) ∙ e

  pub known_has : (op : Opcode51) → r.opcode ≡ Known op → r.opcode_num ≡ number_of op
  known_has op e = known_number r.opcode_num op (case_of (Known op) e)

  pub known_fits : (op : Opcode51) → r.opcode ≡ Known op → r.opcode_num < opcode_count
  known_fits op e = known_below r.opcode_num op (case_of (Known op) e)

  pub unknown_has : (m : ℕ) → r.opcode ≡ Unknown m → VARARG < r.opcode_num
  unknown_has m e = ltb-true VARARG r.opcode_num (unknown_above r.opcode_num m (case_of (Unknown m) e))
