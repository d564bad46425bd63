-- The words so far are in the buffer, and the rest is read from here.
use Rattle.std.proofs.Common.{◌≡◌, ℕ, ◌*◌, ◌≤◌, List, length, take}
use Rattle.listing_spec.specs.Listing.{max_listing_words}
use Rattle.listing_spec.specs.Text.{lines}
use Rattle.listing.specs.Terms.{read_code}
use Rattle.listing.proofs.ReadLaws.{code_from}
use Rattle.listing.proofs.reader.read_words.Given as goal

abbrev pub invariant-loop-line : goal.invariant-loop-line
invariant-loop-line l =
    (l.count ≤ max_listing_words)
    × (length l.words ≡ 4 * max_listing_words)
    × ((table : List ℕ) (warnings errors : ℕ) → read_code l.first (lines l.initial.text.rest.now) table warnings errors ≡ code_from l.first l.count (take (4 * l.count) l.words) (lines l.text.rest.now) table warnings errors)
