-- The name at the code's index, and past the last the empty one.
use Rattle.listing_spec.specs.Packcheck.{code_names}
use Rattle.listing_spec.specs.Text.{text}
use Rattle.listing.proofs.PrintLaws.{name_at, no_name, now_at}
use Rattle.listing.proofs.printer.name_of.Goals as goal

pub returns-then-index-lt-CODE_COUNT : goal.returns-then-index-lt-CODE_COUNT
unfolding code_names text
returns-then-index-lt-CODE_COUNT c = rw now_at (name_at _ _ _ c.saturating_sub-index.ensures c.if-index-lt-CODE_COUNT.true)

pub returns-else-index-lt-CODE_COUNT : goal.returns-else-index-lt-CODE_COUNT
returns-else-index-lt-CODE_COUNT c = no_name _ _ c.saturating_sub-index.ensures c.if-index-lt-CODE_COUNT.false
