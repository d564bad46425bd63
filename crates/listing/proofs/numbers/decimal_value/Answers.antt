-- No digits, a leading zero, or the value of the digits.
use Rattle.std.proofs.Common.{arith}
use Rattle.std.proofs.lemmas.Grind.{common_steps}
use Rattle.listing.specs.Terms.{option_of}
use Rattle.listing.proofs.DigitLaws.{decimal_empty, decimal_zero, decimal_value}
use Rattle.listing.proofs.numbers.decimal_value.Goals as goal
use Rattle.listing.proofs.numbers.decimal_value.Goals.{then-is_empty-via-then-is_empty, then-is_empty-via-else-is_empty+then-digits-gt1}

pub returns-then-is_empty : goal.returns-then-is_empty
unfolding option_of
returns-then-is_empty c =
    elim c.then-is_empty.branch [
      | then-is_empty-via-then-is_empty w ↦ decimal_empty _ (grind (arith, common_steps))
      | then-is_empty-via-else-is_empty+then-digits-gt1 w ↦ decimal_zero _ (grind (arith, common_steps)) (grind (arith, common_steps))
    ]

pub returns : goal.returns
returns c = decimal_value _ _ (grind (arith, common_steps)) (λ h e. grind (arith, common_steps)) c.digits_value.ensures
