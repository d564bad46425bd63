-- A number that is not negative, or a sign and a number.
use Rattle.std.proofs.Common.{arith}
use Rattle.listing.proofs.PrintLaws.{prints_length, prints_negative, prints_positive}
use Rattle.listing.proofs.printer.Printer.signed.Goals as goal

pub number-requires-else-bits-lt2147483648 : goal.number-requires-else-bits-lt2147483648
number-requires-else-bits-lt2147483648 c = omega (arith, c.byte.ensures.ends, prints_length c.byte.ensures)

pub returns-then-bits-lt2147483648 : goal.returns-then-bits-lt2147483648
returns-then-bits-lt2147483648 c = prints_positive _ _ c.if-bits-lt2147483648.true c.number.ensures

pub returns-else-bits-lt2147483648 : goal.returns-else-bits-lt2147483648
returns-else-bits-lt2147483648 c = prints_negative _ _ c.if-bits-lt2147483648.false c.requires c.byte.ensures c.number-else-bits-lt2147483648.ensures
