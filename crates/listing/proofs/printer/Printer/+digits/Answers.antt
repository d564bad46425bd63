-- No digits, one, or those before the last and the last.
use Rattle.std.proofs.Common.{arith}
use Rattle.listing.proofs.PrintLaws.{digits_end, prints_digit, prints_last, prints_length, prints_no_digits}
use Rattle.listing.proofs.printer.Printer.+digits.Goals as goal
use Rattle.listing.proofs.printer.Printer.+digits.Goals.{then-n-ge10, else-n-ge10}

pub returns-then-most-eq0 : goal.returns-then-most-eq0
returns-then-most-eq0 t c = prints_no_digits _ _ _ c.if-most-eq0.true

pub byte-requires : goal.byte-requires
byte-requires t c = elim c.if-n-ge10.branch [ then-n-ge10 w ↦ rw w.self-is (omega (arith, digits_end _ _ w.digits.ensures, prints_length w.digits.ensures)) | else-n-ge10 w ↦ rw w.self-is (omega arith) ]

pub returns : goal.returns
returns t c =
    elim c.if-n-ge10.branch [
      | then-n-ge10 w ↦ prints_last c.args.most c.args.n (omega arith) w.if-n-ge10.true c.requires w.digits.ensures (rw w.self-is at c.byte.ensures)
      | else-n-ge10 w ↦ prints_digit c.args.most c.args.n (omega arith) w.if-n-ge10.false (rw w.self-is at c.byte.ensures)
    ]
