-- The digits, and the byte after them.
use Rattle.std.proofs.Common.{arith}
use Rattle.listing_spec.specs.Text.{decimal}
use Rattle.listing.proofs.PrintLaws.{digits_end, prints_length, prints_next}
use Rattle.listing.proofs.printer.Printer.number.Goals as goal

pub byte-requires : goal.byte-requires
byte-requires c = omega (arith, digits_end _ _ c.digits.ensures, prints_length c.digits.ensures)

pub returns : goal.returns
unfolding decimal
returns c = prints_next (omega (arith, digits_end _ _ c.digits.ensures, c.byte.ensures.ends)) c.digits.ensures c.byte.ensures
