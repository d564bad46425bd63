-- Too short, without diagnostics, or written in a second walk.
use Rattle.validator.specs.Terms.{image_in}
use Rattle.validator.proofs.CheckLaws.{judged, short, long, nothing, refused_short, accepted_long}
use Rattle.validator.proofs.calls.validate_counted.Goals as goal

pub returns-then-diagnostics-walk : goal.returns-then-diagnostics-walk
returns-then-diagnostics-walk c =
    let i = image_in c.args.image.now in
    let buffer = c.args.diagnostics.now in
    let r = refused_short i buffer _ (short i _ _ c.validate_rows-walk.ensures buffer c.if-diagnostics-walk.true) in
    record { result_value = r.said; diagnostics_after = r.left }

pub returns-then-walk-eq0 : goal.returns-then-walk-eq0
returns-then-walk-eq0 c =
    let i = image_in c.args.image.now in
    let buffer = c.args.diagnostics.now in
    let w = c.validate_rows-walk.ensures in
    let r = accepted_long i buffer _ buffer (long i _ _ w buffer c.if-diagnostics-walk.false) (judged i _ _ w _ c.conclude.ensures) (nothing i _ _ w buffer c.if-walk-eq0.true) in
    record { result_value = r.said; diagnostics_after = r.left }

pub validate_once-requires : goal.validate_once-requires
validate_once-requires c = long (image_in c.args.image.now) _ _ c.validate_rows-walk.ensures c.args.diagnostics.now c.if-diagnostics-walk.false

pub returns : goal.returns
returns c =
    let i = image_in c.args.image.now in
    let buffer = c.args.diagnostics.now in
    let once = c.validate_once.ensures in
    let r = accepted_long i buffer _ _ (long i _ _ c.validate_rows-walk.ensures buffer c.if-diagnostics-walk.false) once.result_value once.diagnostics_after in
    record { result_value = r.said; diagnostics_after = r.left }
