-- What the accessors read from a number of diagnostics and a verdict, with the bit of an accepted check.
use Rattle.std.proofs.Common.{arith}
use Rattle.luad51_spec.proofs.ResultLaws.{read_checked}
use Rattle.luad51.proofs.pack_checked.Goals as goal

pub returns-clause-read_as : goal.returns-clause-read_as
returns-clause-read_as c = read_checked _ c.args.figure c.args.verdict (omega arith) (omega arith) c.requires
