-- The four fields of its record, one after the other.
use Rattle.std.proofs.Common.{arith}
use Rattle.listing.proofs.PrintLaws.{code_end, number_end, prints_diagnostic, prints_length, signed_end}
use Rattle.listing.proofs.printer.Printer.diagnostic.Goals as goal

pub signed-requires : goal.signed-requires
signed-requires c = omega (arith, number_end _ _ c.number.ensures, prints_length c.number.ensures)

pub code-requires : goal.code-requires
code-requires c = omega (arith, number_end _ _ c.number.ensures, signed_end _ _ c.signed.ensures, prints_length c.number.ensures, prints_length c.signed.ensures)

pub signed-requires-2 : goal.signed-requires-2
signed-requires-2 c = omega (arith, number_end _ _ c.number.ensures, signed_end _ _ c.signed.ensures, code_end _ _ c.code.ensures, prints_length c.number.ensures, prints_length c.signed.ensures, prints_length c.code.ensures)

pub returns : goal.returns
returns c = prints_diagnostic c.args.bytes.now 0 c.requires c.read_u32.ensures c.read_u32-2.ensures c.read_u32-3.ensures c.read_u32-4.ensures c.number.ensures c.signed.ensures c.code.ensures c.signed-2.ensures
