-- An accepted table has at most `max_rows` rows.
use Rattle.validator.proofs.NextRowLaws.{few_rows}
use Rattle.validator.proofs.calls.validate_rows.Goals as goal

pub validate_within-requires-else-image-le-FEW_ROWS-clause-rows : goal.validate_within-requires-else-image-le-FEW_ROWS-clause-rows
validate_within-requires-else-image-le-FEW_ROWS-clause-rows c = few_rows _ _ _ c.args.image.now.filled
