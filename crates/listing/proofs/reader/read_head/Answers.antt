-- The first line, the second, the third.
use Rattle.std.proofs.Common.{◌∙◌}
use Rattle.std.proofs.lemmas.Result.{err_from_is_err_and}
use Rattle.listing_spec.specs.Text.{text}
use Rattle.listing.specs.Terms.{head_then}
use Rattle.listing.proofs.ReadLaws.{accepted, first_other, first_there, refused, second_missing, second_malformed, second_there, third_other, third_there}
use Rattle.listing.proofs.reader.read_head.Goals as goal

pub returns-in_err-skip_line : goal.returns-in_err-skip_line
unfolding head_then text
returns-in_err-skip_line c =
    let p = err_from_is_err_and c.from_residual.result c.from_residual.ensures.1 in
    first_other _ c.in_err-skip_line.ensures.1 ∙ rw (p.1, p.2, c.in_err-skip_line.ensures.0)

pub returns-in_err-line : goal.returns-in_err-line
unfolding head_then text
returns-in_err-line c =
    let p = err_from_is_err_and c.from_residual-in_err-line.result c.from_residual-in_err-line.ensures.1 in
    let q = refused _ _ _ c.in_err-line.ensures.value in
    first_there _ _ c.in_ok-skip_line.ensures ∙ second_missing _ (rw q.0 at c.next.ensures.steps).0 ∙ rw (p.1, p.2, q.2)

pub returns-in_err-warnings : goal.returns-in_err-warnings
unfolding head_then text
returns-in_err-warnings c =
    let p = err_from_is_err_and c.from_residual-in_err-warnings.result c.from_residual-in_err-warnings.ensures.1 in
    let q = refused _ _ _ c.in_err-warnings.ensures.value in
    first_there _ _ c.in_ok-skip_line.ensures ∙ second_malformed _ _ _ (rw (accepted _ _ _ c.in_ok-line.ensures.value).0 at c.next.ensures.steps) (q.1 ∙ c.parse_decimals.ensures) ∙ rw (p.1, p.2, q.2)

pub returns-in_err-skip_line-2 : goal.returns-in_err-skip_line-2
unfolding head_then text
returns-in_err-skip_line-2 c =
    let p = err_from_is_err_and c.from_residual-in_err-skip_line-2.result c.from_residual-in_err-skip_line-2.ensures.1 in
    first_there _ _ c.in_ok-skip_line.ensures
    ∙ second_there _ _ _ (rw (accepted _ _ _ c.in_ok-line.ensures.value).0 at c.next.ensures.steps) c.in_ok-warnings.field-0 ((accepted _ _ _ c.in_ok-warnings.ensures.value).1 ∙ c.parse_decimals.ensures)
    ∙ third_other _ _ c.in_err-skip_line-2.ensures.1
    ∙ rw (p.1, p.2, c.in_err-skip_line-2.ensures.0)

pub returns : goal.returns
unfolding head_then text
returns c =
    first_there _ _ c.in_ok-skip_line.ensures
    ∙ second_there _ _ _ (rw (accepted _ _ _ c.in_ok-line.ensures.value).0 at c.next.ensures.steps) c.in_ok-warnings.field-0 ((accepted _ _ _ c.in_ok-warnings.ensures.value).1 ∙ c.parse_decimals.ensures)
    ∙ third_there _ _ _ c.in_ok-skip_line-2.ensures
