-- Worked examples of results: what is read from each, as in the table of tests/c/header.c, where the header's own accessors compute it, and the answers of
-- some. proofs/PassLaws proves them. Assumes nothing: these are definitions.
use Rattle.std.specs.Prelude.{ℕ, Bool, true, false, List, [], ◌∷◌}
use Rattle.roles_spec.specs.Calls.{Answer, refused, accepted}
use Rattle.validator_spec.specs.Walk.{ValidForParser, Incomplete, Invalid}
use Rattle.validator_spec.specs.Check.{Checked}
use Rattle.luad51_spec.specs.Results.{Reading}

-- a result, and what is to be read from it
pub record Example : Type 0 where
  pub result : ℕ
  pub expected : Reading

-- an example: a result, and its refusal, its figure, its verdict, whether a check was accepted, and whether it is a pass
abbrev example : ℕ → ℕ → ℕ → ℕ → Bool → Bool → Example
example result refusal figure verdict checked passed =
    record { result = result; expected = record { refusal = refusal; figure = figure; verdict = verdict; checked = checked; passed = passed } }

unfoldable pub examples : List Example
examples =
    -- of an accepted check
    example 0x800000000000 0 0 0 true true
    ∷ example 0x80000000280f 0 10255 0 true true
    ∷ example 0x8000ffffffff 0 4294967295 0 true true
    ∷ example 0x810000000000 0 0 1 true false
    ∷ example 0x810000000001 0 1 1 true false
    ∷ example 0x820000000000 0 0 2 true false
    ∷ example 0x82000000280f 0 10255 2 true false
    -- a result that nobody set, and those of another accepted call
    ∷ example 0x0 0 0 0 false false
    ∷ example 0x1 0 1 0 false false
    ∷ example 0x3fc000 0 4177920 0 false false
    -- of a refused call
    ∷ example 0x100000000 1 0 0 false false
    ∷ example 0x200000000 2 0 0 false false
    ∷ example 0x300000000 3 0 0 false false
    ∷ example 0x400003fff 4 16383 0 false false
    ∷ example 0x500003fff 5 16383 0 false false
    ∷ example 0x600000000 6 0 0 false false
    ∷ example 0x700000000 7 0 0 false false
    ∷ example 0x8003fc000 8 4177920 0 false false
    -- of no call: each accessor reads its own bits
    ∷ example 0x00007f0000000000 0 0 127 false false
    ∷ example 0x000000ff00000000 255 0 0 false false
    ∷ example 0x000080ff00000000 255 0 0 true false
    ∷ example 0x0000ff0000000000 0 0 127 true false
    -- of no call, with some of bits 48 to 63
    ∷ example 0x0001800000000000 0 0 0 true false
    ∷ example 0x8000800000000001 0 1 0 true false
    ∷ example 0xffff800000000000 0 0 0 true false
    ∷ example 0xffff7fffffffffff 255 4294967295 127 false false
    ∷ example 0xffffffffffffffff 255 4294967295 127 true false
    ∷ []

-- answers of the check call
unfoldable pub check_answers : List (Answer Checked)
check_answers =
    accepted (record { verdict = ValidForParser; count = 10255 })
    ∷ accepted (record { verdict = Incomplete; count = 1 })
    ∷ accepted (record { verdict = Invalid; count = 10255 })
    ∷ refused (record { number = 5; figure = 16383 })
    ∷ []

-- the results of these answers
unfoldable pub check_results : List ℕ
check_results = 0x80000000280f ∷ 0x810000000001 ∷ 0x82000000280f ∷ 0x500003fff ∷ []

-- answers of the roles call and the bindings call
unfoldable pub count_answers : List (Answer ℕ)
count_answers = accepted 4177920 ∷ refused (record { number = 8; figure = 4177920 }) ∷ []

-- the results of these answers
unfoldable pub count_results : List ℕ
count_results = 0x3fc000 ∷ 0x8003fc000 ∷ []
