-- The limits are those of the contracts.
use Rattle.std.proofs.Common.{refl}
use Rattle.validator.specs.Clean.{slot_limits}
use Rattle.validator.proofs.clean.next_suspect.Goals as goal

pub invariant_of-test : goal.invariant_of-test
unfolding slot_limits
invariant_of-test c = record { slots_of_body = refl }
