-- What is printed is the refusal's number and its figure.
use Rattle.std.proofs.Common.{ℕ, ap₂}
use Rattle.listing_spec.specs.Packcheck.{output_text, refusal_text}
use Rattle.listing.specs.Terms.{unread}
use Rattle.listing.proofs.PrintLaws.{prints_as}
use Rattle.listing.proofs.check.print_unread.Goals as goal

pub returns : goal.returns
unfolding output_text unread
returns c = prints_as (ap₂ (λ (n f : ℕ). refusal_text (record { number = n; figure = f })) c.number.ensures c.figure.ensures) c.refusal.ensures
