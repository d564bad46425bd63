-- By the row that the search found.
use Rattle.std.proofs.Common.{sym, ◌∙◌}
use Rattle.roles_spec.specs.Table.{proto_of, proto_in}
use Rattle.validator.proofs.FaultLaws.{child_found, child_missed}
use Rattle.validator.proofs.fault.child_upvalues.Goals as goal

pub returns-in-None : goal.returns-in-None
unfolding proto_in proto_of
returns-in-None c words = child_missed _ _ c.args.row.now.limits _ _ c.find_child.ensures c.in-None.is

pub returns-in-Some : goal.returns-in-Some
unfolding proto_in proto_of
returns-in-Some c words = let f = child_found _ _ c.args.row.now.limits _ _ c.find_child.ensures _ c.in-Some.is in c.field.ensures.there f.there ∙ sym f.upvalues
