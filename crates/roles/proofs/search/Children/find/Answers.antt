-- From the end on there is no child.
use Rattle.std.proofs.Common.{◌≡◌, suc, subst}
use Rattle.std.specs.declared.option.Option.TheVariants as maybe
use Rattle.roles_spec.specs.Table.{child_of_row}
use Rattle.roles.specs.Terms.{child_from}
use Rattle.roles.specs.declared.table.Row.{Row}
use Rattle.roles.proofs.SearchLaws.{past_end}
use Rattle.roles.proofs.search.Children.find.Goals as goal

pub returns-then-self-k-clause-child : goal.returns-then-self-k-clause-child
returns-then-self-k-clause-child c =
    let of = λ (p : Row). maybe.None ≡ child_from p.table.now (suc p.number) 0 (child_of_row p.table.now p.number c.args.k) in
    subst of c.loop-self.invariant (past_end _ _ _ _ _ _ _ c.loop-self.self.tracks _ c.if-self-k.true)
