-- Demand 3 of the number that a check returns. Assumes nothing.
use Rattle.std.specs.Prelude.{◌≡◌, refl, ℕ}
use native.Mathlib.Omega.{arith}
use mathlib.Core.Path.{sym, ◌∙◌, subst}
use Rattle.roles_spec.specs.Calls.{accepted}
use Rattle.roles.specs.Terms.{refused_of}
use Rattle.roles.specs.declared.refusals.Refusal.{Refusal}
use Rattle.roles.specs.declared.refusals.Refusal.TheVariants as refusal
use Rattle.std.specs.Prelude.{Result, Ok, Err}
use Rattle.validator.specs.Terms.{answer_of as validation_of, checked_of}
use Rattle.validator.specs.declared.calls.Validation.{Validation}
use Rattle.validator_spec.specs.Check.{Checked}
use Rattle.validator_spec.specs.Image.{Image}
use Rattle.validator_spec.specs.Statements.{Guarantee}
use Rattle.luad51_spec.specs.Results.{ReadsCheck, Guaranteed}
use Rattle.luad51_spec.proofs.ResultLaws.{answer_kept}

-- a refusal's number is not 0
refusal_numbered : (x : Refusal) → (refused_of x).number ≡ 0 → ⊥
unfolding refused_of
refusal_numbered refusal.NoProtos e = absurd (omega arith)
refusal_numbered refusal.PartialRow e = absurd (omega arith)
refusal_numbered refusal.TooLarge e = absurd (omega arith)
refusal_numbered (refusal.BadDepth row) e = absurd (omega arith)
refusal_numbered (refusal.FieldOverLimit row) e = absurd (omega arith)
refusal_numbered refusal.WordCountMismatch e = absurd (omega arith)
refusal_numbered refusal.RoleBufferTooShort e = absurd (omega arith)
refusal_numbered (refusal.BufferTooShort n) e = absurd (omega arith)

-- demand 3, where no refusal is read
pub guaranteed : (result : ℕ) (i : Image) (v : Result Validation Refusal) → ReadsCheck result (validation_of v) → ((c : Checked) → validation_of v ≡ accepted c → Guarantee i c) → Guaranteed result i
unfolding validation_of ReadsCheck Guaranteed
guaranteed result i (Err x) r g z = absurd (refusal_numbered x (sym r.refusal_read ∙ z))
guaranteed result i (Ok a) r g z = subst (Guarantee i) (sym (answer_kept result (checked_of a) r)) (g _ refl)
