-- The word, and two numbers.
use Rattle.std.proofs.Common.{arith}
use Rattle.listing_spec.specs.Text.{text}
use Rattle.listing.proofs.PrintLaws.{number_end, prints_length, prints_refusal}
use Rattle.listing.proofs.printer.Printer.refusal.Goals as goal

pub number-requires : goal.number-requires
number-requires c = omega (arith, c.text.ensures.ends, prints_length c.text.ensures)

pub number-requires-2 : goal.number-requires-2
number-requires-2 c = omega (arith, c.text.ensures.ends, number_end _ _ c.number.ensures, prints_length c.text.ensures, prints_length c.number.ensures)

pub returns : goal.returns
unfolding text
returns c = prints_refusal _ _ c.requires c.text.ensures c.number.ensures c.number-2.ensures
