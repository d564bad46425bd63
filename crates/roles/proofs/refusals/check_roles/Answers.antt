-- An image that is not refused needs 8 bytes for each of its words.
use Rattle.roles_spec.specs.Refusals.{refuse}
use Rattle.roles.specs.Terms.{refused_of, given_refusal}
use Rattle.roles.proofs.ImageCheckLaws.{roles_too_short, fits_roles}
use Rattle.roles.proofs.refusals.check_roles.Goals as goal

pub returns-then-room-words : goal.returns-then-room-words
unfolding refuse refused_of given_refusal
returns-then-room-words c = roles_too_short _ _ _ c.in_ok-check_image.ensures c.if-room-words.true

pub returns : goal.returns
unfolding given_refusal
returns c = fits_roles _ _ _ c.in_ok-check_image.ensures c.if-room-words.false
