-- A line of another length or without its newline, of other bytes, or the value of its digits.
use Rattle.std.proofs.Common.{sym}
use Rattle.listing.specs.Terms.{option_of}
use Rattle.listing.proofs.DigitLaws.{word_length, word_digits, word_newline, word_value}
use Rattle.listing.proofs.numbers.parse_word.Goals as goal
use Rattle.listing.proofs.numbers.parse_word.Goals.{then-line-via-then-line, then-line-via-else-line+then-line-ne10}

pub returns-then-line : goal.returns-then-line
unfolding option_of
returns-then-line c = elim c.then-line.branch [ then-line-via-then-line w ↦ word_length _ w.if-line.true | then-line-via-else-line+then-line-ne10 w ↦ word_newline _ w.if-line-ne10.true ]

pub returns-then-not-are_hex_digits : goal.returns-then-not-are_hex_digits
unfolding option_of
returns-then-not-are_hex_digits c = word_digits _ (sym c.if-not-are_hex_digits.ensures)

pub returns : goal.returns
returns c = word_value _ _ c.if-line.false c.if-line-ne10.false (sym c.if-not-are_hex_digits.ensures) c.digits_value.ensures
