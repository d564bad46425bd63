-- The digits that are left go on from the value so far.
use Rattle.std.proofs.Common.{◌≡◌, ◌^◌, ◌<◌, drop}
use Rattle.listing_spec.specs.Text.{value_of}
use Rattle.listing.proofs.DigitLaws.{value_from}
use Rattle.listing.proofs.numbers.digits_value.Given as goal

abbrev pub invariant-loop-digit : goal.invariant-loop-digit
invariant-loop-digit l = (l.value < 2 ^ 32) × (value_of l.base l.digits ≡ value_from l.base l.value (drop l.digit-index l.digits))
