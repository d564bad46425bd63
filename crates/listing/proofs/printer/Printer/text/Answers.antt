-- The bytes of a text are copied.
use Rattle.std.proofs.Common.{arith, refl}
use Rattle.listing.proofs.PrintLaws.{copied}
use Rattle.listing.proofs.printer.Printer.text.Goals as goal

pub returns : goal.returns
returns c = record { bytes = copied _ _ _ _ _ c.copy_from_slice.ensures.after (omega arith) c.requires; ends = refl; same = refl }
