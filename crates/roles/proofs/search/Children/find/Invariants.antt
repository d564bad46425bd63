-- The row stays the same, and the children that are known come nearer to the end.
use Rattle.std.proofs.Common.{◌≡◌, ◌-◌}
use Rattle.roles.proofs.search.Children.find.Given as goal

abbrev pub invariant-loop-self : goal.invariant-loop-self
invariant-loop-self l = l.self.parent ≡ l.fn.self.parent

abbrev pub decreases-loop-self : goal.decreases-loop-self
decreases-loop-self l = l.self.end - l.self.known
