-- Demand 3 of the number.
use Rattle.luad51.proofs.CheckedNumberLaws.{guaranteed}
use Rattle.luad51.proofs.luad51_check.Goals as goal

pub returns-clause-guaranteed : goal.returns-clause-guaranteed
returns-clause-guaranteed c = guaranteed _ _ _ c.check_result.ensures.reads_check c.validate_chunk_lua51.ensures.guarantee
