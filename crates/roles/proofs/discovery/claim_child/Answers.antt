-- What is found is the child that the CLOSURE names, and its row says how many words it owns.
use Rattle.std.proofs.Common.{sym, ◌∙◌, ap₂}
use Rattle.roles.specs.Terms.{owned_bindings, child_bindings}
use Rattle.roles.proofs.SearchLaws.{found_child, missing_child}
use Rattle.roles.proofs.discovery.claim_child.Goals as goal

pub returns-in-None-clause-owned : goal.returns-in-None-clause-owned
returns-in-None-clause-owned c = missing_child _ _ _ c.in-None.ensures.child

pub returns-in-Some-clause-owned : goal.returns-in-Some-clause-owned
unfolding child_bindings
returns-in-Some-clause-owned c =
    let f = found_child _ _ _ _ _ c.in-Some.ensures.child in
    c.binding_words.ensures ∙ ap₂ owned_bindings (c.field.ensures.there f.there ∙ sym f.upvalues) f.before
