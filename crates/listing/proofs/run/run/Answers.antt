-- What is written is the output for what was read.
use Rattle.std.proofs.Common.{arith, length-take-le}
use Rattle.listing.proofs.OutputLaws.{front_text}
use Rattle.listing.proofs.run.run.Goals as goal

pub returns : goal.returns
returns g c =
    let checked = c.check_listing-end.ensures in
    (_, record { consumed = c.read_full-got.ensures.bytes; bounded = omega (arith, length-take-le _ _ c.read_full-got.ensures.bound, c.read_full-got.ensures.bound); decides = checked.front_decides }, rw (front_text _ _ _ _ checked.output_written checked.output_length checked.within_output) at c.write_all.ensures.bytes)
