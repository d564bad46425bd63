-- The parts of a result, one after the other, and there is room for each.
use Rattle.std.proofs.Common.{arith}
use Rattle.listing_spec.specs.Text.{text}
use Rattle.listing.proofs.PrintLaws.{diagnostics_end, prints_length, prints_result, verdict_end}
use Rattle.listing.proofs.printer.Printer.result.Goals as goal

pub diagnostics-requires : goal.diagnostics-requires
diagnostics-requires c = omega (arith, c.text.ensures.ends, prints_length c.text.ensures)

pub text-requires-2 : goal.text-requires-2
text-requires-2 c = omega (arith, c.text.ensures.ends, diagnostics_end _ _ c.diagnostics.ensures, prints_length c.text.ensures, prints_length c.diagnostics.ensures)

pub verdict-requires : goal.verdict-requires
verdict-requires c = omega (arith, c.text.ensures.ends, diagnostics_end _ _ c.diagnostics.ensures, c.text-2.ensures.ends, prints_length c.text.ensures, prints_length c.diagnostics.ensures, prints_length c.text-2.ensures)

pub number-requires : goal.number-requires
number-requires c = omega (arith, c.text.ensures.ends, diagnostics_end _ _ c.diagnostics.ensures, c.text-2.ensures.ends, verdict_end _ _ c.verdict.ensures, prints_length c.text.ensures, prints_length c.diagnostics.ensures, prints_length c.text-2.ensures, prints_length c.verdict.ensures)

pub returns : goal.returns
unfolding text
returns c = prints_result _ _ _ c.requires c.text.ensures c.diagnostics.ensures c.text-2.ensures c.verdict.ensures c.number.ensures
