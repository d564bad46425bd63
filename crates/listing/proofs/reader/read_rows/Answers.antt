-- Row by row: the line "word", a line out of form, a row too many, or a row that is stored.
use Rattle.std.proofs.Common.{arith, ◌∙◌}
use Rattle.std.proofs.lemmas.Result.{err_from_is_err_and}
use Rattle.listing_spec.specs.Text.{text}
use Rattle.listing.specs.Terms.{rows_then}
use Rattle.listing.proofs.ReadLaws.{accepted, body_first, refused, row_malformed, row_stored, rows_end, rows_missing, rows_too_many}
use Rattle.listing.proofs.reader.read_rows.Goals as goal

pub loop-line-init : goal.loop-line-init
loop-line-init c = (omega arith, omega arith, λ w e. body_first _ w e)

pub returns-then-eq-clause-reading : goal.returns-then-eq-clause-reading
unfolding rows_then text
returns-then-eq-clause-reading c = λ w e. c.loop-line.invariant.2 w e ∙ rows_end _ _ _ _ _ c.in-Some.ensures.steps w e c.if-eq.ensures

pub returns-in_err-fields-clause-reading : goal.returns-in_err-fields-clause-reading
unfolding rows_then text
returns-in_err-fields-clause-reading c =
    let p = err_from_is_err_and c.from_residual.result c.from_residual.ensures.1 in
    let q = refused _ _ _ c.in_err-fields.ensures.value in
    λ w e. c.loop-line.invariant.2 w e ∙ row_malformed _ _ _ _ _ c.in-Some.ensures.steps w e c.if-eq.ensures (q.1 ∙ c.parse_decimals.ensures) ∙ rw (p.1, p.2, q.2)

pub returns-then-rows-eq-MAX_LISTING_ROWS-clause-reading : goal.returns-then-rows-eq-MAX_LISTING_ROWS-clause-reading
unfolding rows_then text
returns-then-rows-eq-MAX_LISTING_ROWS-clause-reading c = λ w e. c.loop-line.invariant.2 w e ∙ rows_too_many _ _ _ _ _ c.in-Some.ensures.steps w e c.if-eq.ensures c.in_ok-fields.fields ((accepted _ _ _ c.in_ok-fields.ensures.value).1 ∙ c.parse_decimals.ensures) c.if-rows-eq-MAX_LISTING_ROWS.true

pub loop-line-preserved : goal.loop-line-preserved
unfolding text
loop-line-preserved c = (
  omega arith,
  omega arith,
  λ w e. c.loop-line.invariant.2 w e ∙ row_stored _ _ _ _ _ _ w e c.in_ok-fields.fields c.in-Some.ensures.steps c.if-eq.ensures ((accepted _ _ _ c.in_ok-fields.ensures.value).1 ∙ c.parse_decimals.ensures) (omega arith) c.loop-line.invariant.1 c.write_record.ensures,
)

pub returns-clause-reading : goal.returns-clause-reading
unfolding rows_then
returns-clause-reading c = λ w e. c.loop-line.invariant.2 w e ∙ rows_missing _ _ _ w e c.in_default.ensures.steps.0
