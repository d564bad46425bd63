-- `most` falls with each call.
use Rattle.listing.proofs.printer.Printer.+digits.Given as goal

abbrev pub decreases-digits : goal.decreases-digits
decreases-digits l = l.most
