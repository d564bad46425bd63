-- Ended at the first test or at the fault, or through to the last word.
use Rattle.validator.proofs.OwnStepLaws.{own_test, own_fault, own_words, faulted, worded}
use Rattle.validator.proofs.walk.validate_own.Goals as goal

pub returns-then-walk : goal.returns-then-walk
returns-then-walk c = own_test _ _ _ _ c.tested-walk.ensures c.if-walk.true

pub returns-then-walk-2 : goal.returns-then-walk-2
returns-then-walk-2 c =
    own_fault _ _ _ _ c.tested-walk.ensures _ (faulted _ _ _ _ _ c.args.row.now.describes _ _ _ c.find_fault.ensures c.validate_fault-walk.ensures) c.if-walk-2.true

pub returns : goal.returns
returns c =
    let d = c.args.row.now.describes in
    own_words _ _ _ _ c.tested-walk.ensures _ (faulted _ _ _ _ _ d _ _ _ c.find_fault.ensures c.validate_fault-walk.ensures) _ _ c.if-walk-2.false
    (c.validate_stack-walk.ensures _ d.limits) (worded _ _ _ _ _ d _ _ (c.validate_words.ensures _ d))
