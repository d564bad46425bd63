-- A line ends past its newline, or with the text.
use Rattle.listing.proofs.NextLineLaws.{line_cut, line_ends}
use Rattle.listing.proofs.lines.line_end.Goals as goal

pub returns-in-Some : goal.returns-in-Some
returns-in-Some c = line_ends _ _ c.in-Some.ensures

pub returns-in-None : goal.returns-in-None
returns-in-None c = line_cut _ c.in-None.ensures
