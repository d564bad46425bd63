-- After i turns the sum is the digest of the first i words, and the bytes after these are left.
use Rattle.std.proofs.Common.{◌≡◌, ◌*◌, ◌≤◌, length, take, drop}
use Rattle.base.specs.Bytes.{u32s}
use Rattle.words_digest.specs.Digest.{digest}
use Rattle.words_digest.proofs.words_digest.Given as goal

abbrev pub invariant-loop-word : goal.invariant-loop-word
invariant-loop-word l =
    (l.word-iterator.size ≡ 4)
    × (4 * length l.yielded ≤ length l.words)
    × (l.word-iterator.rest.now ≡ drop (4 * length l.yielded) l.words)
    × (l.sum ≡ digest (take (length l.yielded) (u32s l.words)))
