-- A target that is a word of the prototype and no companion.
use Rattle.validator.proofs.CleanLaws.{lands}
use Rattle.validator.proofs.clean.target_is_word.Goals as goal

pub returns : goal.returns
returns c p h e = lands p _ _ h _ c.if-sum-lt-OFFSET_SBX.false c.if-body-target.false _ c.is_companion.ensures e
