-- A row's own steps and then the rows below it; and, before each child, a test.
use Rattle.std.proofs.Common.{sym, ◌∙◌, arith}
use Rattle.validator.proofs.CycleLaws.{same_row, next_row, next_begins, below_walked, tested_row, tested_begins, stopped, child_stopped, rows_fall, child_passed}
use Rattle.validator.proofs.NextRowLaws.{few_rows, ready, room}
use Rattle.validator.proofs.RowStepLaws.{more, no_more, part_ended}
use Rattle.validator.proofs.walk.+walk.Goals as goal

pub validate_children-returns-then-walk : goal.validate_children-returns-then-walk
validate_children-returns-then-walk t c =
    let m = more _ _ _ (sym c.goes_on.ensures ∙ c.loop-walk-test.true) in
    stopped _ _ _ _ _ c.loop-walk.invariant m _ c.tested-walk.ensures c.if-walk.true

pub validate_children-validate_proto-walk-requires : goal.validate_children-validate_proto-walk-requires
validate_children-validate_proto-walk-requires t c =
    let pass = c.loop-walk.invariant in
    let m = more _ _ _ (sym c.goes_on.ensures ∙ c.loop-walk-test.true) in
    let e = c.tested-walk.ensures in
    let row = tested_row _ _ _ _ _ pass m _ e in
    (omega (arith, row, pass.later, m.there), (omega (arith, row, m.there), tested_begins _ _ _ _ _ pass m _ e))

pub validate_children-returns-then-walk-2 : goal.validate_children-returns-then-walk-2
validate_children-returns-then-walk-2 t c =
    let m = more _ _ _ (sym c.goes_on.ensures ∙ c.loop-walk-test.true) in
    child_stopped _ _ _ _ _ c.loop-walk.invariant m _ c.tested-walk.ensures _ c.validate_proto-walk.ensures c.if-walk-2.true

pub validate_children-loop-walk-smaller : goal.validate_children-loop-walk-smaller
validate_children-loop-walk-smaller t c =
    let m = more _ _ _ (sym c.goes_on.ensures ∙ c.loop-walk-test.true) in
    let n = rows_fall _ _ _ _ _ c.loop-walk.invariant m _ c.tested-walk.ensures _ c.validate_proto-walk.ensures c.if-walk-2.false in
    omega (arith, n.0, n.1)

pub validate_children-loop-walk-preserved : goal.validate_children-loop-walk-preserved
validate_children-loop-walk-preserved t c =
    let m = more _ _ _ (sym c.goes_on.ensures ∙ c.loop-walk-test.true) in
    child_passed _ _ _ _ _ c.loop-walk.invariant m _ c.tested-walk.ensures _ c.validate_proto-walk.ensures c.if-walk-2.false c.validate_proto-walk.auto.out

pub validate_children-returns : goal.validate_children-returns
validate_children-returns t c = no_more _ _ _ _ (sym c.goes_on.ensures ∙ c.loop-walk-test.false) ∙ c.loop-walk.invariant.leads

pub validate_proto-returns-then-own : goal.validate_proto-returns-then-own
validate_proto-returns-then-own t c = part_ended _ _ _ _ _ c.validate_row-own.ensures c.if-own.true

pub validate_proto-overflow_add-next : goal.validate_proto-overflow_add-next
validate_proto-overflow_add-next t c =
    let r = ready _ _ _ c.args.walk c.args.counted.now.filled c.requires.begins in
    let m = room _ _ _ _ r c.requires.there _ c.row_limits-limits.ensures in
    omega (arith, m.0.0, m.1)

pub validate_proto-validate_row-own-requires-clause-room : goal.validate_proto-validate_row-own-requires-clause-room
validate_proto-validate_row-own-requires-clause-room t c = room _ _ _ _ (ready _ _ _ c.args.walk c.args.counted.now.filled c.requires.begins) c.requires.there _ c.row_limits-limits.ensures

pub validate_proto-moved-requires : goal.validate_proto-moved-requires
validate_proto-moved-requires t c =
    let r = ready _ _ _ c.args.walk c.args.counted.now.filled c.requires.begins in
    let row = same_row _ _ _ _ r c.requires.there _ _ c.validate_row-own.ensures in
    omega (arith, row, c.requires.there, few_rows _ _ _ c.args.counted.now.filled)

pub validate_proto-validate_children-requires : goal.validate_proto-validate_children-requires
validate_proto-validate_children-requires t c =
    let r = ready _ _ _ c.args.walk c.args.counted.now.filled c.requires.begins in
    let own = c.validate_row-own.ensures in
    let q = c.row_limits-limits.ensures in
    let row = next_row _ _ _ _ r c.requires.there _ _ own c.if-own.false _ q _ c.moved.ensures in
    (omega (arith, row, c.requires.there), (omega (arith, row, c.requires.there), next_begins _ _ _ _ r c.requires.there _ _ own c.if-own.false _ q _ c.moved.ensures))

pub validate_proto-returns : goal.validate_proto-returns
validate_proto-returns t c =
    let r = ready _ _ _ c.args.walk c.args.counted.now.filled c.requires.begins in
    below_walked _ _ _ _ r c.requires.there _ _ c.validate_row-own.ensures c.if-own.false _ c.row_limits-limits.ensures _ c.moved.ensures _ c.validate_children.ensures
