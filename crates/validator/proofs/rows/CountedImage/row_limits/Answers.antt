-- The prototype is read field by field.
use Rattle.std.proofs.Common.{arith}
use Rattle.validator.proofs.ChildCountLaws.{prototype_is}
use Rattle.validator.proofs.NextRowLaws.{few_rows}
use Rattle.validator.proofs.rows.CountedImage.row_limits.Goals as goal

pub overflow_cast-result : goal.overflow_cast-result
overflow_cast-result c = omega (arith, few_rows _ _ _ c.args.self.now.filled, c.requires)

pub returns : goal.returns
returns c = prototype_is _ _ _ _ _ _ _ _ (c.field.ensures.there c.requires) (c.field-2.ensures.there c.requires) (c.field-3.ensures.there c.requires) (c.field-4.ensures.there c.requires) (c.field-5.ensures.there c.requires) (c.args.self.now.counted.counted _ c.requires)
