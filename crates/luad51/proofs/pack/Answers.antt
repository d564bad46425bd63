-- What the accessors read from a figure and a refusal.
use Rattle.std.proofs.Common.{arith}
use Rattle.luad51_spec.proofs.ResultLaws.{read_plain}
use Rattle.luad51.proofs.pack.Goals as goal

pub returns-clause-read_as : goal.returns-clause-read_as
returns-clause-read_as c = read_plain _ c.args.figure c.args.refusal (omega arith) (omega arith) (omega arith)
