-- The first child from the row on is the next one; where there is none, the children known are all.
use Rattle.std.proofs.Common.{refl, arith}
use Rattle.roles.proofs.SearchLaws.{next_child, found_child, missed, met}
use Rattle.roles.proofs.search.Children.find_next.Goals as goal

pub invariant_of-self : goal.invariant_of-self
invariant_of-self c =
    let v = c.args.self.now.tracks in
    record { there = c.args.self.now.there; few_rows = c.args.self.now.few_rows; tracks = missed _ _ _ _ _ _ _ v (next_child _ _ _ _ _ _ _ v _ _ (c.field.ensures.there c.args.self.now.there) c.in-None.ensures) }

pub overflow_cast-self : goal.overflow_cast-self
overflow_cast-self c =
    omega (
      arith,
      c.args.self.now.few_rows,
      (found_child _ _ _ _ _ (next_child _ _ _ _ _ _ _ c.args.self.now.tracks _ _ (c.field.ensures.there c.args.self.now.there) c.in-Some.ensures)).there,
    )

pub overflow_add-self-in-Some : goal.overflow_add-self-in-Some
overflow_add-self-in-Some c =
    omega (
      arith,
      c.args.self.now.few_rows,
      (found_child _ _ _ _ _ (next_child _ _ _ _ _ _ _ c.args.self.now.tracks _ _ (c.field.ensures.there c.args.self.now.there) c.in-Some.ensures)).there,
    )

pub invariant_of-self-in-Some : goal.invariant_of-self-in-Some
invariant_of-self-in-Some c =
    let v = c.args.self.now.tracks in
    let child = next_child _ _ _ _ _ _ _ v _ _ (c.field.ensures.there c.args.self.now.there) c.in-Some.ensures in
    record {
      there = c.args.self.now.there;
      few_rows = c.args.self.now.few_rows;
      tracks = met _ _ _ _ _ _ _ v c.requires.more _ _ _ _ child (c.field-in-Some.ensures.there (found_child _ _ _ _ _ child).there) refl;
    }
