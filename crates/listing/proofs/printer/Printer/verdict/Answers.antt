-- The text of each verdict is its name and a space.
use Rattle.listing_spec.specs.Packcheck.{verdict_name}
use Rattle.listing_spec.specs.Text.{text}
use Rattle.validator.specs.Terms.{verdict_of_case}
use Rattle.listing.proofs.printer.Printer.verdict.Goals as goal

pub returns-in-ValidForParser : goal.returns-in-ValidForParser
unfolding text verdict_name verdict_of_case
returns-in-ValidForParser c = rw c.in-ValidForParser.is c.text.ensures

pub returns-in-Incomplete : goal.returns-in-Incomplete
unfolding text verdict_name verdict_of_case
returns-in-Incomplete c = rw c.in-Incomplete.is c.text-in-Incomplete.ensures

pub returns-in-Invalid : goal.returns-in-Invalid
unfolding text verdict_name verdict_of_case
returns-in-Invalid c = rw c.in-Invalid.is c.text-in-Invalid.ensures
