-- The lines of a text: the first, and those after it. Assumes nothing.
use Prim.Native.Nat.{ℕ, suc, ◌+◌, ◌<◌, min}
use native.Mathlib.Omega.{arith}
use mathlib.Core.Path.{◌≡◌, refl, ap}
use mathlib.Core.Bool.{Bool, true, false, cond, not}
use mathlib.Core.List.{List, [], ◌∷◌}
use lib.Dec.{eqb}
use lib.ListN.{length, take, drop}
use Rattle.std.specs.Prelude.{Some, None}
use Rattle.std.specs.List.{position, prefix_len}
use Rattle.std.proofs.lemmas.Grind.{common_steps}
use Rattle.listing_spec.specs.Text.{newline, join_first, lines}
use Rattle.listing.specs.Terms.{line_length}

-- the first line of a text that has one
lines_cons : (c : ℕ) (cs : List ℕ) → lines (c ∷ cs) ≡ take (line_length (c ∷ cs)) (c ∷ cs) ∷ lines (drop (line_length (c ∷ cs)) (c ∷ cs))
unfolding lines line_length join_first
lines_cons c [] = go (eqb c newline)
  where
    go : (b : Bool) → cond b ((c ∷ []) ∷ []) ((c ∷ []) ∷ []) ≡ take (cond b 1 1) (c ∷ []) ∷ lines (drop (cond b 1 1) (c ∷ []))
    go true = refl
    go false = refl
lines_cons c (d ∷ cs) = go (eqb c newline) (lines_cons d cs)
  where
    go : (b : Bool) → lines (d ∷ cs) ≡ take (line_length (d ∷ cs)) (d ∷ cs) ∷ lines (drop (line_length (d ∷ cs)) (d ∷ cs))
        → cond b ((c ∷ []) ∷ lines (d ∷ cs)) (join_first c (lines (d ∷ cs))) ≡ take (cond b 1 (suc (line_length (d ∷ cs)))) (c ∷ d ∷ cs) ∷ lines (drop (cond b 1 (suc (line_length (d ∷ cs)))) (c ∷ d ∷ cs))
    go true more = refl
    go false more = ap (join_first c) more

-- the line that is taken from a text, and the lines of the rest
pub first_line : (text line rest : List ℕ) (size : ℕ) → 0 < length text → size ≡ line_length text → line ≡ take size text → rest ≡ drop size text → lines text ≡ line ∷ lines rest
first_line [] line rest size some e front back = absurd (omega arith)
first_line (c ∷ cs) line rest size some e front back = rw (front, back, e) (lines_cons c cs)

-- no text, no line
pub no_lines : (text : List ℕ) → length text ≡ 0 → lines text ≡ []
unfolding lines
no_lines [] e = refl
no_lines (c ∷ cs) e = absurd (omega arith)

-- the length of the first line, by what stands before its newline
pub line_is : (text : List ℕ) → line_length text ≡ min (prefix_len (λ c. not (eqb c newline)) text + 1) (length text)
unfolding line_length
line_is [] = omega arith
line_is (c ∷ cs) = go (eqb c newline) (line_is cs)
  where
    go : (b : Bool) → line_length cs ≡ min (prefix_len (λ c. not (eqb c newline)) cs + 1) (length cs) → cond b 1 (suc (line_length cs)) ≡ min (cond (not b) (1 + prefix_len (λ c. not (eqb c newline)) cs) 0 + 1) (suc (length cs))
    go true more = omega arith
    go false more = omega arith

-- the first line ends past its newline
pub line_ends : (text : List ℕ) (at : ℕ) → Some at ≡ position (λ c. eqb c newline) text → at + 1 ≡ line_length text
line_ends text at e = let e' = line_is text in grind (arith, common_steps)

-- where there is no newline, it ends with the text
pub line_cut : (text : List ℕ) → None ≡ position (λ c. eqb c newline) text → length text ≡ line_length text
line_cut text e = let e' = line_is text in grind (arith, common_steps)
