-- Where there is no first child, there is none; past the first child, the search goes on in the rows after it.
use Rattle.std.proofs.Common.{refl, ◌∙◌, arith}
use Rattle.roles.proofs.SearchLaws.{find_none, find_few, first_missing, first_child}
use Rattle.roles.proofs.table.+find_child.Goals as goal
use Rattle.roles.proofs.table.+find_child.Goals.{then-rows-at-via-then-rows-at, then-rows-at-via-else-rows-at+then-rows-at-2}

pub returns-then-rows-at : goal.returns-then-rows-at
returns-then-rows-at t c =
    elim c.then-rows-at.branch [
      | then-rows-at-via-then-rows-at w ↦ find_none _ _ _ _ _ w.if-rows-at.true
      | then-rows-at-via-else-rows-at+then-rows-at-2 w ↦ find_few _ _ _ _ _ w.if-rows-at-2.true
    ]

pub returns-in_err-child : goal.returns-in_err-child
returns-in_err-child t c = rw c.from_residual.ensures (first_missing _ _ _ _ _ c.in_err-child.ensures)

pub overflow_add-child : goal.overflow_add-child
overflow_add-child t c = omega (arith, (first_child _ _ _ _ _ _ c.in_ok-child.ensures).there)

pub find_child-requires : goal.find_child-requires
find_child-requires t c = let f = first_child _ _ _ _ _ _ c.in_ok-child.ensures in (omega (arith, f.there, f.after), tt)

pub returns : goal.returns
returns t c =
    let f = first_child _ _ _ _ _ _ c.in_ok-child.ensures in
    c.find_child.ensures ∙ f.next _ _ _ (c.field.ensures.there f.there) refl c.if-k-eq0.false
