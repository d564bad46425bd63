-- A word whose opcode is in one list: whether it is in another list. Assumes nothing.
use Prim.Native.Nat.{ℕ}
use mathlib.Core.Path.{◌≡◌}
use mathlib.Core.Bool.{false}
use mathlib.Core.List.{List}
use lib.Dec.{T}
use Rattle.base.proofs.BoolLaws.{disjoint, elem_disjoint, subset, elem_subset}
use Rattle.opcodes.specs.Words.{opcode, is}

pub is_not : (w : ℕ) (these those : List ℕ) → T (disjoint these those) → T (is w these) → is w those ≡ false
unfolding is
is_not w these those d t = elem_disjoint (opcode w) these those d t

pub is_among : (w : ℕ) (these those : List ℕ) → T (subset these those) → T (is w these) → T (is w those)
unfolding is
is_among w these those s t = elem_subset (opcode w) these those s t
