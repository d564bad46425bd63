-- The diagnostics fit.
use Rattle.validator.proofs.CheckLaws.{judged}
use Rattle.validator.proofs.ImageWalkLaws.{walked_fits}
use Rattle.validator.proofs.calls.validate_once.Goals as goal

pub returns : goal.returns
returns c =
    let w = c.validate_rows-walk.ensures in
    record { result_value = judged _ _ _ w _ c.conclude.ensures; diagnostics_after = walked_fits _ _ _ w c.requires }
