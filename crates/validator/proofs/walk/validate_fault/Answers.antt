-- By the kind of fault.
use Rattle.std.proofs.Common.{Some, refl, ap, ◌∙◌}
use Rattle.validator.specs.declared.fault.Lua51RoleFault.{Lua51RoleFault}
use Rattle.validator.specs.Terms.{fault_diagnostics}
use Rattle.validator.proofs.OwnStepLaws.{fault_steps_taken}
use Rattle.validator.proofs.walk.validate_fault.Goals as goal

pub returns-in_default : goal.returns-in_default
unfolding fault_diagnostics
returns-in_default c = fault_steps_taken _ _ _ _ _ c.in_default.is refl

pub returns-in-TruncatedClosure : goal.returns-in-TruncatedClosure
unfolding fault_diagnostics
returns-in-TruncatedClosure c = fault_steps_taken _ _ _ _ _ (c.in-Some.is ∙ ap (λ (x : Lua51RoleFault). Some x) c.in-TruncatedClosure.is) c.report.ensures

pub returns-in-TruncatedSetlist : goal.returns-in-TruncatedSetlist
unfolding fault_diagnostics
returns-in-TruncatedSetlist c = fault_steps_taken _ _ _ _ _ (c.in-Some.is ∙ ap (λ (x : Lua51RoleFault). Some x) c.in-TruncatedSetlist.is) c.report-in-TruncatedSetlist.ensures
