-- No child is known yet.
use Rattle.std.proofs.Common.{refl}
use Rattle.roles.proofs.SearchLaws.{begins}
use Rattle.roles.proofs.search.Children.new.Goals as goal

pub invariant_of-result : goal.invariant_of-result
invariant_of-result c = record { there = c.requires.there; few_rows = c.requires.few_rows; tracks = begins _ _ _ _ refl c.requires.room_for_children }
