-- What an executable word owns, by the number of its opcode. Assumes nothing.
use Rattle.std.proofs.Common.{◌≡◌, ℕ, cond, eqb, List, ap, ◌∙◌}
use Rattle.opcodes.specs.Words.{decoded, CLOSURE, SETLIST}
use Rattle.opcodes.specs.declared.RawInstruction51.{RawInstruction51}
use Rattle.roles_spec.specs.Roles.{has_extra}
use Rattle.opcodes.proofs.SplitLaws.{has_opcode, has_other}
use Rattle.roles.specs.Terms.{child_bindings, companions_of}
use Rattle.roles.specs.declared.discovery.Companions.TheVariants.{None, Extra}

module _ (table : List ℕ) (row w : ℕ) (r : RawInstruction51) (split : r ≡ decoded w) where
  pub owns_bindings : r.opcode_num ≡ CLOSURE → child_bindings table row r.bx ≡ companions_of table row w
  unfolding companions_of decoded
  owns_bindings e = ap (λ (x : RawInstruction51). child_bindings table row x.bx) split ∙ rw (has_opcode w r split CLOSURE e)

  pub owns_extra : (r.opcode_num ≡ CLOSURE → ⊥) → r.opcode_num ≡ SETLIST → cond (eqb r.c 0) Extra None ≡ companions_of table row w
  unfolding companions_of has_extra decoded
  owns_extra f e = ap (λ (x : RawInstruction51). cond (eqb x.c 0) Extra None) split ∙ rw (has_other w r split CLOSURE f, has_opcode w r split SETLIST e)

  pub owns_nothing : (r.opcode_num ≡ CLOSURE → ⊥) → (r.opcode_num ≡ SETLIST → ⊥) → None ≡ companions_of table row w
  unfolding companions_of has_extra
  owns_nothing f g = rw (has_other w r split CLOSURE f, has_other w r split SETLIST g)
