-- What is printed is the text of the answer.
use Rattle.std.proofs.Common.{ℕ, ap₂, arith, length-take-le, refl, sym, ◌∙◌}
use Rattle.listing_spec.specs.Packcheck.{refusal_text}
use Rattle.listing.specs.Terms.{listing_of}
use Rattle.validator.specs.Terms.{checked_of}
use Rattle.listing.proofs.AnswerLaws.{refusal_output, result_count, result_output}
use Rattle.listing.proofs.PrintLaws.{prints_as}
use Rattle.validator_spec.proofs.RecordLaws.{records_front}
use Rattle.listing.proofs.check.print_check.Goals as goal

pub slice_bounds-diagnostics-end : goal.slice_bounds-diagnostics-end
slice_bounds-diagnostics-end c = omega (arith, result_count _ _ c.validate_chunk_lua51.ensures.result_value _ c.in-Ok.is)

pub slice_bounds-result-end : goal.slice_bounds-result-end
slice_bounds-result-end c = sym (length-take-le _ _ (omega (arith, result_count _ _ c.validate_chunk_lua51.ensures.result_value _ c.in-Ok.is)))

pub result-requires : goal.result-requires
result-requires c =
    let few = result_count _ _ c.validate_chunk_lua51.ensures.result_value _ c.in-Ok.is in
    omega (arith, few, (records_front c.validate_chunk_lua51.new.diagnostics c.in-Ok.validation.count (omega (arith, few))).0)

pub returns-in-Err : goal.returns-in-Err
unfolding listing_of
returns-in-Err c =
    prints_as
    (ap₂ (λ (n f : ℕ). refusal_text (record { number = n; figure = f })) c.number.ensures c.figure.ensures ∙ refusal_output _ _ c.validate_chunk_lua51.ensures.result_value _ c.in-Err.is)
    c.refusal.ensures

pub returns-in-Ok : goal.returns-in-Ok
unfolding listing_of checked_of
returns-in-Ok c =
    let few = result_count _ _ c.validate_chunk_lua51.ensures.result_value _ c.in-Ok.is in
    let front = records_front c.validate_chunk_lua51.new.diagnostics c.in-Ok.validation.count (omega (arith, few)) in
    prints_as (result_output _ _ c.validate_chunk_lua51.ensures.result_value _ c.in-Ok.is _ _ refl c.validate_chunk_lua51.ensures.diagnostics_after) (rw (front.0, front.1) at c.result.ensures)
