-- Nothing is left, or the first line is taken, and fewer are left.
use Rattle.std.proofs.Common.{◌<◌, ap, arith, length}
use Rattle.std.proofs.lemmas.Grind.{common_steps}
use Rattle.listing_spec.specs.Text.{lines}
use Rattle.listing.proofs.NextLineLaws.{first_line, line_is, no_lines}
use Rattle.listing.proofs.lines.LinesIterator.next.Goals as goal

pub returns-then-is_empty-clause-steps : goal.returns-then-is_empty-clause-steps
returns-then-is_empty-clause-steps c = let none = no_lines c.args.self.now.rest.now (grind (arith, common_steps)) in (none, none)

pub split_at-requires : goal.split_at-requires
split_at-requires c = omega (arith, line_is c.args.self.now.rest.now, c.line_end.ensures)

pub returns-clause-steps : goal.returns-clause-steps
returns-clause-steps c = first_line _ _ _ _ (grind (arith, common_steps)) c.line_end.ensures c.split_at.ensures.front c.split_at.ensures.back

pub returns-clause-goes : goal.returns-clause-goes
returns-clause-goes c =
    let first = first_line _ _ _ _ (grind (arith, common_steps)) c.line_end.ensures c.split_at.ensures.front c.split_at.ensures.back in
    let fewer : length (lines c.split_at.result.1.now) < length (lines c.args.self.now.rest.now) = omega (arith, ap length first) in
    record { on = λ _. (tt, tt, fewer); keeps = tt; rests = λ _. tt }
