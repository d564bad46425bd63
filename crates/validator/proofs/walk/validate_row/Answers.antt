-- The row's parts are there and describe its prototype.
use Rattle.validator.proofs.NextRowLaws.{ready, described, same_prototype, own_row}
use Rattle.validator.proofs.walk.validate_row.Goals as goal

pub invariant_of-row-2-clause-limits : goal.invariant_of-row-2-clause-limits
invariant_of-row-2-clause-limits c = same_prototype _ _ _ _ (ready _ _ _ c.args.walk c.args.counted.now.filled c.requires.begins) c.requires.there _ c.requires.limits

pub invariant_of-row-2-clause-describes : goal.invariant_of-row-2-clause-describes
invariant_of-row-2-clause-describes c = described _ _ _ _ (ready _ _ _ c.args.walk c.args.counted.now.filled c.requires.begins) c.requires.there _ c.requires.limits

pub returns : goal.returns
returns c = own_row _ _ _ _ (ready _ _ _ c.args.walk c.args.counted.now.filled c.requires.begins) c.requires.there _ c.requires.limits _ _ c.validate_own.ensures
