-- The companions before `next` were looked at.
use Rattle.std.proofs.Common.{◌-◌, ◌/◌, length}
use Rattle.validator.proofs.BindingLaws.{BindingPass}
use Rattle.validator.proofs.word.validate_bindings.Given as goal

abbrev pub invariant-loop-word : goal.invariant-loop-word
invariant-loop-word l = BindingPass l.body.limits l.body.code.now l.body.roles.now l.pc (l.initial.walk, l.initial.out) (l.walk, l.out) l.next

abbrev pub decreases-loop-word : goal.decreases-loop-word
decreases-loop-word l = length l.body.roles.now / 8 - l.next
