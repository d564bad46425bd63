-- The rows so far are in the buffer, and the rest is read from here.
use Rattle.std.proofs.Common.{◌≡◌, ℕ, ◌*◌, ◌≤◌, length, take}
use Rattle.roles_spec.specs.Table.{row_bytes}
use Rattle.listing_spec.specs.Listing.{max_listing_rows}
use Rattle.listing_spec.specs.Text.{lines}
use Rattle.listing.specs.Terms.{read_body}
use Rattle.listing.proofs.ReadLaws.{body_from}
use Rattle.listing.proofs.reader.read_rows.Given as goal

abbrev pub invariant-loop-line : goal.invariant-loop-line
invariant-loop-line l =
    (l.rows ≤ max_listing_rows)
    × (length l.table ≡ row_bytes * max_listing_rows)
    × ((warnings errors : ℕ) → read_body (lines l.initial.text.rest.now) warnings errors ≡ body_from l.rows (take (row_bytes * l.rows) l.table) (lines l.text.rest.now) warnings errors)
