-- Each digit goes on from the value so far, up to the last.
use Rattle.std.proofs.Common.{◌≡◌, ◌+◌, ◌*◌, arith, get_or}
use Rattle.listing_spec.specs.Text.{digit_value}
use Rattle.listing.specs.Terms.{option_of}
use Rattle.listing.proofs.DigitLaws.{too_large, value_first, value_next, value_last}
use Rattle.listing.proofs.numbers.digits_value.Goals as goal

pub loop-digit-init : goal.loop-digit-init
loop-digit-init c = (omega arith, value_first _ _)

pub returns-in_err-checked_mul : goal.returns-in_err-checked_mul
unfolding option_of
returns-in_err-checked_mul c = rw c.from_residual.ensures (too_large _ _ _ _ c.loop-digit.invariant.1 c.loop-digit-test.true c.requires (omega (arith, c.in_err-checked_mul.ensures)))

pub returns-in_err-value : goal.returns-in_err-value
unfolding option_of
returns-in_err-value c = rw c.from_residual-in_err-value.ensures (too_large _ _ _ _ c.loop-digit.invariant.1 c.loop-digit-test.true c.requires (omega (arith, c.in_ok-checked_mul.ensures, c.in_err-value.ensures, c.digit_value.ensures)))

pub loop-digit-preserved : goal.loop-digit-preserved
loop-digit-preserved c =
    let more = value_next _ _ _ _ c.loop-digit-test.true c.loop-digit.invariant.1 in
    let sum : c.in_ok-value.value ≡ c.loop-digit.value * c.args.base + digit_value (get_or c.args.digits.now c.loop-digit.digit-index 0) = omega (arith, c.in_ok-checked_mul.ensures, c.in_ok-value.ensures, c.digit_value.ensures) in
    (omega (arith, c.in_ok-value.ensures), rw sum more)

pub returns : goal.returns
unfolding option_of
returns c = value_last _ _ _ _ (omega arith) c.loop-digit.invariant.0 c.loop-digit.invariant.1
