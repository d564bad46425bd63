-- A turn adds the weight of one word, which is what the digest of one word more adds.
use Rattle.std.proofs.Common.{◌≡◌, ◌+◌, ◌*◌, ◌≤◌, [], ◌∷◌, ◌++◌, length, refl, ap, sym, ◌∙◌, arith, length-append, length-drop, take_all}
use Rattle.std.specs.Slice.Iter.{chunks_exact_rest, chunks_exact_size}
use Rattle.base.specs.Bytes.{u32s}
use Rattle.opcodes.specs.Words.{decoded}
use Rattle.base.proofs.ByteLaws.{length_u32s}
use Rattle.words_digest.specs.Digest.{digest, weight}
use Rattle.words_digest.proofs.Laws.{cut, digest_next}
use Rattle.words_digest.proofs.words_digest.Goals as goal

pub loop-word-init : goal.loop-word-init
unfolding digest
loop-word-init c =
    let begun = c.into_iter-word-iterator.ensures.into_iter_gives in
    let items = c.chunks_exact-word-items.ensures in
    (ap chunks_exact_size begun ∙ items.size, omega arith, ap chunks_exact_rest begun ∙ items.rest, refl)

pub loop-word-preserved : goal.loop-word-preserved
loop-word-preserved c =
    let words = c.args.words.now in
    let i = length c.loop-word.yielded in
    let more : length (c.loop-word.yielded ++ c.in-Some.word ∷ []) ≡ i + 1 = length-append c.loop-word.yielded (c.in-Some.word ∷ []) in
    let step = c.in-Some.ensures.steps in
    let taken = cut words c.in-Some.word.now c.next.new.self.rest.now i c.loop-word.invariant.1 (sym c.loop-word.invariant.2 ∙ step.1.0) (step.1.1 ∙ c.loop-word.invariant.0) in
    let w = c.weigh-sum.ensures ∙ ap weight (c.decode-w.ensures ∙ ap decoded (c.read_u32.ensures ∙ taken.value)) in
    rw more (step.0 ∙ c.loop-word.invariant.0, taken.within, taken.left, rw (c.loop-word.invariant.3, w) (sym (digest_next words i (omega (arith, taken.within)))))

pub returns : goal.returns
returns c =
    let words = c.args.words.now in
    let i = length c.loop-word.yielded in
    let last = c.in-None.ensures.steps.1.0 in
    let all : length (u32s words) ≤ i = omega (arith, length_u32s words, length-drop (4 * i) words, ap length c.loop-word.invariant.2, c.loop-word.invariant.0, last) in
    c.loop-word.invariant.3 ∙ ap digest (take_all i (u32s words) all)
