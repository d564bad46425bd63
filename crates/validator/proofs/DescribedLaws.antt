-- What the code is given of a prototype: its words, their number and their roles. Assumes nothing.
use Rattle.std.proofs.Common.{◌≡◌, ℕ, ◌/◌, Bool, true, false, not, List, length, get_or, sym, refl, ap, ◌∙◌}
use Rattle.base.specs.Bytes.{u32s}
use Rattle.base.proofs.ByteLaws.{length_u32s}
use Rattle.roles_spec.specs.Roles.{Role, is_executable, role_at, word_at, role_in}
use Rattle.roles_spec.specs.Table.{Proto}
use Rattle.validator.specs.Terms.{Describes}
use Rattle.validator.specs.declared.rows.RowLimits.{RowLimits}

not_same : (a b : Bool) → not a ≡ not b → a ≡ b
not_same true true e = refl
not_same true false e = sym e
not_same false true e = sym e
not_same false false e = refl

module _ (p : Proto) (q : RowLimits) (code records : List ℕ) (d : Describes p q code records) where
  pub code_words : length code / 4 ≡ length p.code
  code_words = sym (ap length d.code ∙ length_u32s code)

  pub word_read : (pc : ℕ) → get_or (u32s code) pc 0 ≡ word_at p pc
  unfolding word_at
  word_read pc = sym (ap (λ (l : List ℕ). get_or l pc 0) d.code)

  -- what the code was told of the role at pc holds of the word's role
  pub looked_up : (pc : ℕ) (b c : Bool) → b ≡ not (is_executable (role_in records pc)) → b ≡ not c → is_executable (role_at p pc) ≡ c
  looked_up pc b c e f = not_same (is_executable (role_at p pc)) c (ap (λ (r : Role). not (is_executable r)) (sym (d.stands.roles pc)) ∙ sym e ∙ f)
