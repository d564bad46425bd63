-- Before the first turn no row is counted.
use Rattle.std.proofs.Common.{refl}
use Rattle.validator.proofs.ChildCountLaws.{counts_begin}
use Rattle.validator.proofs.child_counts.count_children.Goals as goal

pub loop-number-init : goal.loop-number-init
loop-number-init c = counts_begin _ _ _ _ refl c.requires.1 refl
