-- Word by word: a line out of form, a word too many, or a word that is stored.
use Rattle.std.proofs.Common.{arith, ◌∙◌}
use Rattle.std.proofs.lemmas.Result.{err_from_is_err_and}
use Rattle.listing.specs.Terms.{words_then}
use Rattle.listing.proofs.ReadLaws.{accepted, code_first, refused, word_malformed, word_stored, words_end, words_too_many}
use Rattle.listing.proofs.reader.read_words.Goals as goal

pub loop-line-init : goal.loop-line-init
loop-line-init c = (omega arith, omega arith, λ table w e. code_first _ _ table w e)

pub returns-in_err-word-clause-reading : goal.returns-in_err-word-clause-reading
unfolding words_then
returns-in_err-word-clause-reading c =
    let p = err_from_is_err_and c.from_residual.result c.from_residual.ensures.1 in
    let q = refused _ _ _ c.in_err-word.ensures.value in
    λ table w e. c.loop-line.invariant.2 table w e ∙ word_malformed _ _ _ _ _ _ c.in-Some.ensures.steps table w e (q.1 ∙ c.parse_word.ensures) ∙ rw (p.1, p.2, q.2)

pub returns-then-count-eq-MAX_LISTING_WORDS-clause-reading : goal.returns-then-count-eq-MAX_LISTING_WORDS-clause-reading
unfolding words_then
returns-then-count-eq-MAX_LISTING_WORDS-clause-reading c = λ table w e. c.loop-line.invariant.2 table w e ∙ words_too_many _ _ _ _ _ _ c.in-Some.ensures.steps table w e c.in_ok-word.word ((accepted _ _ _ c.in_ok-word.ensures.value).1 ∙ c.parse_word.ensures) c.if-count-eq-MAX_LISTING_WORDS.true

pub loop-line-preserved : goal.loop-line-preserved
loop-line-preserved c = (
  omega arith,
  omega arith,
  λ table w e. c.loop-line.invariant.2 table w e ∙ word_stored _ _ _ _ _ _ _ table w e c.in_ok-word.word c.in-Some.ensures.steps ((accepted _ _ _ c.in_ok-word.ensures.value).1 ∙ c.parse_word.ensures) (omega arith) c.loop-line.invariant.1 c.write_u32.ensures,
)

pub returns-clause-reading : goal.returns-clause-reading
unfolding words_then
returns-clause-reading c = λ table w e. c.loop-line.invariant.2 table w e ∙ words_end _ _ _ table _ w e c.in_default.ensures.steps.0
