-- The opcodes' two tables agree: the list stands in the order of the numbers. Assumes nothing.
use Prim.Native.Nat.{ℕ, zero, suc, ◌≤◌, ◌<◌, suc-le-suc}
use native.Mathlib.Nat.{le_of_suc-le-suc, not-suc-le-zero}
use native.Mathlib.Omega.{arith}
use mathlib.Core.Path.{◌≡◌, refl, sym, ◌∙◌, ap}
use mathlib.Core.Bool.{Bool, true, false}
use mathlib.Core.List.{List, [], ◌∷◌, map}
use lib.Dec.{ltb}
use lib.ListN.{length, get_or}
use Rattle.std.proofs.Common.{ltb-false}
use Rattle.base.specs.Lists.{tabulate}
use Rattle.opcodes.specs.Words.{number_of, opcodes, opcode_at, opcode_number, opcode_of, opcode_count, VARARG}
use Rattle.opcodes.specs.declared.Opcode51.{Opcode51}
use Rattle.opcodes.specs.declared.OpcodeField.{OpcodeField}
use Rattle.opcodes.specs.declared.OpcodeField.TheVariants.{Known, Unknown}
use Rattle.base.proofs.ListLaws.{get_d_tabulate}

-- the numbers of the list count up from 0
in_order : map number_of opcodes ≡ tabulate opcode_count (λ n. n)
unfolding number_of opcodes
in_order = refl

-- a number past the list is not known
pub past_list : (os : List Opcode51) (k n : ℕ) → length os ≤ k → opcode_at os k n ≡ Unknown n
unfolding opcode_at
past_list [] k n h = refl
past_list (o ∷ os) zero n h = absurd (not-suc-le-zero h)
past_list (o ∷ os) (suc k) n h = past_list os k n (le_of_suc-le-suc h)

number_at : (os : List Opcode51) (k n : ℕ) (o : Opcode51) → opcode_at os k n ≡ Known o → get_or (map number_of os) k 0 ≡ number_of o
unfolding opcode_at
number_at [] k n o q = let z : ◌≡◌ {A = ℕ} 0 1 = cc in absurd (omega arith)
number_at (p ∷ os) zero n o q = cc
number_at (p ∷ os) (suc k) n o q = number_at os k n o q

below_list : (os : List Opcode51) (k n : ℕ) (o : Opcode51) → opcode_at os k n ≡ Known o → k < length os
unfolding opcode_at
below_list [] k n o q = let z : ◌≡◌ {A = ℕ} 0 1 = cc in absurd (omega arith)
below_list (p ∷ os) zero n o q = omega arith
below_list (p ∷ os) (suc k) n o q = suc-le-suc (below_list os k n o q)

-- a known opcode has the number that it was found by, which is below the number of opcodes
pub known_below : (n : ℕ) (o : Opcode51) → opcode_of n ≡ Known o → n < opcode_count
unfolding opcode_of opcodes
known_below n o q = below_list opcodes n n o q

pub known_number : (n : ℕ) (o : Opcode51) → opcode_of n ≡ Known o → n ≡ number_of o
unfolding opcode_of
known_number n o q =
    sym (get_d_tabulate (λ n. n) opcode_count n 0 (known_below n o q))
    ∙ ap (λ (ns : List ℕ). get_or ns n 0) (sym in_order)
    ∙ number_at opcodes n n o q

-- an unknown opcode keeps its number
unknown_at : (os : List Opcode51) (k n m : ℕ) → opcode_at os k n ≡ Unknown m → n ≡ m
unfolding opcode_at
unknown_at [] k n m q = cc
unknown_at (p ∷ os) zero n m q = let z : ◌≡◌ {A = ℕ} 0 1 = cc in absurd (omega arith)
unknown_at (p ∷ os) (suc k) n m q = unknown_at os k n m q

-- so no number is lost
pub number_kept : (n : ℕ) → opcode_number (opcode_of n) ≡ n
unfolding opcode_of opcode_number
number_kept n = go (opcode_of n) refl
  where
    go : (o : OpcodeField) → opcode_of n ≡ o → opcode_number o ≡ n
    go (Known o) q = sym (known_number n o q)
    go (Unknown m) q = sym (unknown_at opcodes n n m q)

-- the number of an unknown opcode is past the list
listed_known : (os : List Opcode51) (k n m : ℕ) → k < length os → opcode_at os k n ≡ Unknown m → ⊥
unfolding opcode_at
listed_known [] k n m h q = not-suc-le-zero h
listed_known (o ∷ os) zero n m h q = let z : ◌≡◌ {A = ℕ} 0 1 = cc in absurd (omega arith)
listed_known (o ∷ os) (suc k) n m h q = listed_known os k n m (le_of_suc-le-suc h) q

-- so that number is above the last known one
pub unknown_above : (n m : ℕ) → opcode_of n ≡ Unknown m → ltb VARARG n ≡ true
unfolding opcode_of opcodes
unknown_above n m q = go (ltb VARARG n) refl
  where
    go : (b : Bool) → ltb VARARG n ≡ b → ltb VARARG n ≡ true
    go true e = e
    go false e = absurd (listed_known opcodes n n m (omega (arith, ltb-false VARARG n e)) q)
