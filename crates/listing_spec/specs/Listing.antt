-- The listing that packcheck reads (document 01, "What the counter hears"): an image, or refusal 9 or 10 at the first line that gives it.
-- Assumes nothing: these are definitions.
use Rattle.std.specs.Prelude.{ℕ, zero, suc, ◌+◌, ◌-◌, ◌&&◌, cond, eqb, length, get_or, take, drop}
use Prim.Native.String.{String}
use mathlib.Core.List.{List, [], ◌∷◌, flatten}
use Rattle.std.proofs.Math.Option.{Option, none, some}
use Rattle.base.specs.Lists.{take_while, every}
use Rattle.base.specs.Bytes.{u32_record}
use Rattle.roles_spec.specs.Table.{row_fields}
use Rattle.roles_spec.specs.Refusals.{Refused}
use Rattle.validator_spec.specs.Image.{Image}
use Rattle.listing_spec.specs.Text.{text, newline, space, same, lines, is_digit, is_hex_digit, value_of, is_decimal}

-- ---- the forms of a line

-- "The names lines of the input are fixed": before the incoming numbers, before the rows, before the words
abbrev pub incoming_names : String
incoming_names = "warnings errors\n"

abbrev pub row_names : String
row_names = "depth words constants upvalues stack\n"

abbrev pub word_names : String
word_names = "word\n"

-- a line, where it is this names line
unfoldable pub named : String → List ℕ → Option (List ℕ)
named s l = cond (same l (text s)) (some l) none

-- the byte after a number, by how many numbers are still to come
unfoldable pub separator : ℕ → ℕ
separator zero = newline
separator (suc left) = space

-- a number and those read after it, where these were read
unfoldable pub cons_number : ℕ → Option (List ℕ) → Option (List ℕ)
cons_number n none = none
cons_number n (some ns) = some (n ∷ ns)

-- `decimals n` reads a line of n decimals "with single spaces"
unfoldable pub decimals : ℕ → List ℕ → Option (List ℕ)
decimals zero [] = some []
decimals zero (c ∷ cs) = none
decimals (suc left) cs =
    let ds = take_while is_digit cs in
    let rest = drop (length ds) cs in
    let more = decimals left (drop 1 rest) in
    cond (is_decimal ds && eqb (get_or rest 0 0) (separator left)) (cons_number (value_of 10 ds) more) none

-- "words are eight lower-case hexadecimal digits"
abbrev pub word_digits : ℕ
word_digits = 8

unfoldable pub hex_word : List ℕ → Option ℕ
hex_word l =
    let ds = take word_digits l in
    cond (eqb (length l) (word_digits + 1) && every is_hex_digit ds && eqb (get_or l word_digits 0) newline) (some (value_of 16 ds)) none

-- ---- reading

-- what was read, or the refusal
pub data Read (A : Type 0) : Type 0 where
  stopped : Refused → Read A
  done : A → Read A

-- one reading after another, up to the first refusal
unfoldable pub and_then : {A B : Type 0} → Read A → (A → Read B) → Read B
and_then (stopped r) f = stopped r
and_then (done a) f = f a

-- refusal 9, unreadable: "a line not in form"; or 10, too long: one row or word too many, "well formed"
unfoldable pub refused_at : {A : Type 0} → ℕ → ℕ → Read A
refused_at number at = stopped (record { number = number; figure = at })

-- line number `at`, where at most `left` lines of its kind are still read
unfoldable pub read_as : {A : Type 0} → ℕ → ℕ → Option A → Read A
read_as at left none = refused_at 9 at
read_as at zero (some a) = refused_at 10 at
read_as at (suc left) (some a) = done a

-- a line that must be there: "a line missing or cut by the end of input is 9"
unfoldable pub read_line : {A : Type 0} → ℕ → (List ℕ → Option A) → List (List ℕ) → Read A
read_line at form [] = refused_at 9 at
read_line at form (l ∷ ls) = read_as at 1 (form l)

-- the rows, at most `left`, up to the line "word"
unfoldable pub read_rows : ℕ → ℕ → List (List ℕ) → Read (List (List ℕ))
read_rows at left [] = refused_at 9 at
read_rows at left (l ∷ ls) =
    let more = read_rows (suc at) (left - 1) ls in
    cond (same l (text word_names)) (done []) (and_then (read_as at left (decimals row_fields l)) (λ r. and_then more (λ rs. done (r ∷ rs))))

-- The words, at most `left`, to the end of the input. (Decided here: fewer or more word lines than the rows state are refusal 6; no line is missing)
unfoldable pub read_words : ℕ → ℕ → List (List ℕ) → Read (List ℕ)
read_words at left [] = done []
read_words at left (l ∷ ls) =
    let more = read_words (suc at) (left - 1) ls in
    and_then (read_as at left (hex_word l)) (λ w. and_then more (λ ws. done (w ∷ ws)))

-- "row 65 or word 2,049"
abbrev pub max_listing_rows : ℕ
max_listing_rows = 64

-- the most words that are read
abbrev pub max_listing_words : ℕ
max_listing_words = 2048

-- the whole input; lines are counted from 1
unfoldable pub read_listing : List ℕ → Read Image
read_listing input =
    let ls = lines input in
    and_then (read_line 1 (named incoming_names) ls) (λ _.
    and_then (read_line 2 (decimals 2) (drop 1 ls)) (λ ns.
    and_then (read_line 3 (named row_names) (drop 2 ls)) (λ _.
    and_then (read_rows 4 max_listing_rows (drop 3 ls)) (λ rs.
    and_then (read_words (5 + length rs) max_listing_words (drop (4 + length rs) ls)) (λ ws.
    done (record { table = u32_record (flatten rs); words = u32_record ws; warnings = get_or ns 0 0; errors = get_or ns 1 0 }))))))
