-- What is printed is the output, for this input and every longer one.
use Rattle.std.proofs.Common.{ap, arith, refl}
use Rattle.listing_spec.specs.Packcheck.{output_text}
use Rattle.listing.specs.Terms.{listing_of}
use Rattle.listing.proofs.OutputLaws.{written}
use Rattle.listing.proofs.check.check_listing.Goals as goal
use Rattle.listing.proofs.check.check_listing.Goals.{in-Ok, in-Err}

pub returns : goal.returns
unfolding listing_of
returns c =
    elim c.match-read_listing.branch [
      | in-Ok w ↦
          let p = written refl (omega arith) (ap output_text w.in-Ok.ensures) w.print_check.ensures in
          rw w.printer-is (record { output_written = p.0; output_length = p.1; within_output = p.2; front_decides = p.3 })
      | in-Err w ↦
          let p = written refl (omega arith) (ap output_text w.in-Err.ensures) w.print_unread.ensures in
          rw w.printer-is (record { output_written = p.0; output_length = p.1; within_output = p.2; front_decides = p.3 })
    ]
