-- The row takes the pending rows that are one deeper, and becomes one of its own depth. The lists stay long enough, and the count fits.
use Rattle.std.proofs.Common.{arith, length-set}
use Rattle.validator.proofs.ChildCountLaws.{one_fits, deep_enough, row_counted}
use Rattle.validator.proofs.child_counts.count_row.Goals as goal

pub bounds-pending-depth : goal.bounds-pending-depth
bounds-pending-depth c = deep_enough _ _ _ _ c.requires.0 c.requires.1 c.requires.2 _ (c.field-depth.ensures.there c.requires.1)

pub bounds-pending-depth-2 : goal.bounds-pending-depth-2
bounds-pending-depth-2 c = deep_enough _ _ _ _ c.requires.0 c.requires.1 c.requires.2 _ (c.field-depth.ensures.there c.requires.1)

pub bounds-pending-depth-3 : goal.bounds-pending-depth-3
bounds-pending-depth-3 c = simp length-set (omega (arith, deep_enough _ _ _ _ c.requires.0 c.requires.1 c.requires.2 _ (c.field-depth.ensures.there c.requires.1)))

pub overflow_add-pending-2 : goal.overflow_add-pending-2
overflow_add-pending-2 c = omega (arith, one_fits _ _ _ _ c.requires.0 c.requires.1 c.requires.2 _ (c.field-depth.ensures.there c.requires.1))

pub bounds-pending-depth-4 : goal.bounds-pending-depth-4
bounds-pending-depth-4 c = simp length-set (omega (arith, deep_enough _ _ _ _ c.requires.0 c.requires.1 c.requires.2 _ (c.field-depth.ensures.there c.requires.1)))

pub returns : goal.returns
returns c = row_counted _ _ _ _ c.requires.0 c.requires.1 c.requires.2 _ (c.field-depth.ensures.there c.requires.1)
