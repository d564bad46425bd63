-- The numbers so far, before those of the rest of the line.
use Rattle.std.proofs.Common.{◌≡◌, ◌-◌, length, take}
use Rattle.listing_spec.specs.Listing.{decimals}
use Rattle.listing.proofs.DecimalLineLaws.{parsed}
use Rattle.listing.proofs.numbers.parse_decimals.Given as goal

abbrev pub invariant-loop-i : goal.invariant-loop-i
invariant-loop-i g l = (length l.number-items ≡ g.row.N) × (decimals g.row.N l.line ≡ parsed (take l.i l.number-items) (decimals (g.row.N - l.i) l.rest))
