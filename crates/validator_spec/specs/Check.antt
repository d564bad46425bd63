-- What the check call answers, and what it leaves in the diagnostics buffer (document 01, "What the counter hears"). The role buffer it leaves as the
-- roles call does. Assumes nothing: these are definitions.
use Rattle.std.specs.Prelude.{ℕ, length}
use mathlib.Core.List.{List, flat_map}
use Rattle.std.proofs.Math.Option.{Option}
use Rattle.base.specs.Bytes.{i32_record}
use Rattle.roles_spec.specs.Refusals.{Refused, or_else, roles_refusal, too_short}
use Rattle.roles_spec.specs.Calls.{Answer, answer, filled}
use Rattle.validator_spec.specs.Walk.{Verdict, diagnostic_fields, diagnostic_bytes}
use Rattle.validator_spec.specs.Image.{Image, diagnostics, verdict}

-- "The check's result is the verdict and the number of findings"
pub record Checked : Type 0 where
  pub verdict : Verdict
  pub count : ℕ

-- the check's result for an image
unfoldable pub checked : Image → Checked
checked i = record { verdict = verdict i; count = length (diagnostics i) }

-- 1 to 8, with the role buffer and the diagnostics buffer given by their lengths
unfoldable pub check_refusal : Image → ℕ → ℕ → Option Refused
check_refusal i role_length diagnostics_length =
    or_else (roles_refusal i.table i.words role_length) (too_short (length (diagnostics i)) diagnostic_bytes diagnostics_length)

-- the verdict and the number, or the refusal
unfoldable pub check_answer : Image → ℕ → ℕ → Answer Checked
check_answer i role_length diagnostics_length = answer (check_refusal i role_length diagnostics_length) (checked i)

-- the diagnostics buffer after the call
unfoldable pub diagnostics_after : Image → ℕ → List ℕ → List ℕ
diagnostics_after i role_length buffer =
    filled (check_refusal i role_length (length buffer)) buffer (i32_record (flat_map diagnostic_fields (diagnostics i)))
