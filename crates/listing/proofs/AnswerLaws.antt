-- What the check call answers, as the text that is written for it. Assumes nothing.
use Prim.Native.Nat.{ℕ, ◌*◌, ◌≤◌}
use native.Mathlib.Omega.{arith}
use mathlib.Core.Path.{◌≡◌, sym, ap, ap₂, ◌∙◌}
use mathlib.Core.List.{List, flat_map}
use mathlib.Core.Option.{Option, none}
use lib.ListN.{length}
use Rattle.base.specs.Bytes.{i32_record, overwrite}
use Rattle.roles_spec.specs.Calls.{accepted, filled}
use Rattle.roles.specs.Terms.{refused_of}
use Rattle.roles_spec.specs.Refusals.{Refused}
use Rattle.roles.specs.declared.refusals.Refusal.{Refusal}
use Rattle.roles_spec.proofs.RefusalLaws.{or_else_none}
use Rattle.roles_spec.proofs.AcceptedCallLaws.{accepted_none, accepted_result, fits}
use Rattle.validator_spec.specs.Check.{Checked, check_answer, check_refusal, checked, diagnostics_after}
use Rattle.validator_spec.specs.Image.{Image, diagnostics}
use Rattle.validator_spec.specs.Walk.{RowDiagnostic, diagnostic_bytes, diagnostic_fields}
use Rattle.validator_spec.proofs.RangeLaws.{check_held}
use Rattle.std.specs.Prelude.{Result, Ok, Err}
use Rattle.validator.specs.Terms.{answer_of, checked_of}
use Rattle.validator.specs.declared.calls.Validation.{Validation}
use Rattle.listing_spec.specs.Listing.{done}
use Rattle.listing_spec.specs.Packcheck.{answer_text, diagnostic_room, max_listing_diagnostics, output_text, refusal_text, result_text, role_room}
use Rattle.validator_spec.specs.Records.{diagnostics_in}
use Rattle.validator_spec.proofs.RecordLaws.{diagnostics_read}

-- an accepted image
module _ (i : Image) (c : Checked) (e : check_answer i role_room diagnostic_room ≡ accepted c) where
  not_refused : check_refusal i role_room diagnostic_room ≡ none
  unfolding check_answer
  not_refused = accepted_none (check_refusal i role_room diagnostic_room) (checked i) c e

  count_is : c.count ≡ length (diagnostics i)
  unfolding check_answer checked
  count_is = ap (λ (d : Checked). d.count) (accepted_result (check_refusal i role_room diagnostic_room) (checked i) c e)

  all_fit : length (diagnostics i) * diagnostic_bytes ≤ diagnostic_room
  unfolding check_refusal
  all_fit = fits (length (diagnostics i)) diagnostic_bytes diagnostic_room (or_else_none _ _ not_refused).1

  -- the program has room for all diagnostics of the image
  pub accepted_count : (length (diagnostics i) ≤ max_listing_diagnostics) × (c.count ≤ max_listing_diagnostics)
  accepted_count = (omega (arith, all_fit), omega (arith, count_is, all_fit))

  -- the buffer has the diagnostics of the image
  diagnostics_are : (old new : List ℕ) → length old ≡ diagnostic_room → new ≡ diagnostics_after i role_room old → diagnostics_in new c.count ≡ diagnostics i
  unfolding diagnostics_after filled
  diagnostics_are old new long after =
      let whole : new ≡ overwrite old 0 (i32_record (flat_map diagnostic_fields (diagnostics i))) = after ∙ ap (λ (o : Option Refused). filled o old (i32_record (flat_map diagnostic_fields (diagnostics i)))) (ap (check_refusal i role_room) long ∙ not_refused) in
      ap₂ diagnostics_in whole count_is ∙ diagnostics_read old (diagnostics i) (check_held i role_room diagnostic_room c e) (omega (arith, long, all_fit))

-- what the call answers, and what is printed of it
module _ (i : Image) (r : Result Validation Refusal) (answered : answer_of r ≡ check_answer i role_room diagnostic_room) where
  -- a refusal
  pub refusal_output : (x : Refusal) → r ≡ Err x → refusal_text (refused_of x) ≡ output_text (done i)
  unfolding answer_of output_text answer_text
  refusal_output x e = ap (answer_text (diagnostics i)) (ap answer_of (sym e) ∙ answered)

  -- a verdict
  module _ (v : Validation) (e : r ≡ Ok v) where
    accepted_is : check_answer i role_room diagnostic_room ≡ accepted (checked_of v)
    unfolding answer_of
    accepted_is = sym answered ∙ ap answer_of e

    pub result_count : v.count ≤ max_listing_diagnostics
    unfolding checked_of
    result_count = (accepted_count i (checked_of v) accepted_is).1

    pub result_output : (old new : List ℕ) → length old ≡ diagnostic_room → new ≡ diagnostics_after i role_room old → result_text (diagnostics_in new v.count) (checked_of v) ≡ output_text (done i)
    unfolding output_text answer_text checked_of
    result_output old new long after =
        ap (λ (ds : List RowDiagnostic). result_text ds (checked_of v)) (diagnostics_are i (checked_of v) accepted_is old new long after)
        ∙ ap (answer_text (diagnostics i)) (sym accepted_is)
