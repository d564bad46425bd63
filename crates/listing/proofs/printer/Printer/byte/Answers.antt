-- One byte is printed.
use Rattle.std.proofs.Common.{[], ◌∷◌, arith, refl}
use Rattle.base.proofs.ByteLaws.{sets_overwrite}
use Rattle.listing.proofs.printer.Printer.byte.Goals as goal

pub returns : goal.returns
returns c = record { bytes = sets_overwrite _ _ (c.args.byte ∷ []) (omega arith); ends = refl; same = refl }
