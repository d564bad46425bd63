-- Each turn tests, passes over the words without diagnostics, and judges the next one.
use Rattle.validator.proofs.OwnStepLaws.{words_end, words_next, words_over, word_step_taken, test_stops}
use Rattle.validator.proofs.walk.validate_words.Goals as goal

pub returns-then-walk : goal.returns-then-walk
returns-then-walk c = test_stops _ _ _ _ _ _ _ c.loop-pc.invariant _ c.tested-walk.ensures c.loop-pc-test.true c.if-walk.true

pub returns-then-n-pc : goal.returns-then-n-pc
returns-then-n-pc c =
    let found = c.next_suspect-pc.ensures in
    words_end _ _ _ _ _ _ _ (words_over _ _ _ _ _ _ _ c.loop-pc.invariant _ c.tested-walk.ensures c.if-walk.false _ found.in_range.0 found.in_range.1 found.clean) c.if-n-pc.true

pub loop-pc-preserved : goal.loop-pc-preserved
loop-pc-preserved c =
    let found = c.next_suspect-pc.ensures in
    words_next _ _ _ _ _ _ _ (words_over _ _ _ _ _ _ _ c.loop-pc.invariant _ c.tested-walk.ensures c.if-walk.false _ found.in_range.0 found.in_range.1 found.clean) c.if-n-pc.false _
    (λ p d. let x = found.executable c.if-n-pc.false p d in word_step_taken _ _ _ _ _ _ _ c.loop-pc.invariant _ c.tested-walk.ensures p _ _ c.if-walk.false x (c.validate_word-walk.ensures p d x))
    c.validate_word-walk.auto.out
