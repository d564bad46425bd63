-- The name, and a space after it.
use Rattle.std.proofs.Common.{ap, arith, length, ◌∙◌}
use Rattle.listing.proofs.PrintLaws.{length_name, prints_as, prints_length, prints_next}
use Rattle.listing.proofs.printer.Printer.code.Goals as goal

pub text-requires : goal.text-requires
text-requires c = omega (arith, ap length (c.as_bytes.ensures.value ∙ c.name_of.ensures), length_name c.args.code)

pub byte-requires : goal.byte-requires
byte-requires c = omega (arith, ap length (c.as_bytes.ensures.value ∙ c.name_of.ensures), length_name c.args.code, prints_length c.text.ensures)

pub returns : goal.returns
returns c =
    let name = c.as_bytes.ensures.value ∙ c.name_of.ensures in
    prints_next (omega (arith, c.text.ensures.ends, c.byte.ensures.ends, ap length name, length_name c.args.code)) (prints_as name c.text.ensures) c.byte.ensures
