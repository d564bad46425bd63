-- What the code's own types stand for, and where it stands in a reading or a text: the terms in which its contracts cite the definitions of `listing_spec`.
-- Assumes nothing: these are definitions.
use Rattle.std.specs.Prelude.{ℕ, suc, ◌+◌, ◌*◌, ◌/◌, ◌^◌, ◌≤◌, ◌≡◌, cond, eqb, ltb, length, take, drop}
use Prim.Native.String.{len}
use mathlib.Core.List.{List, [], ◌∷◌, flatten}
use Rattle.std.proofs.Math.Option.{Option, none, some}
use Rattle.base.specs.Bytes.{overwrite, u32_record}
use Rattle.roles_spec.specs.Refusals.{Refused}
use Rattle.roles_spec.specs.Table.{row_bytes}
use Rattle.validator_spec.specs.Image.{Image}
use Rattle.validator_spec.specs.Walk.{diagnostic_bytes}
use Rattle.listing_spec.specs.Text.{newline, is_decimal, value_of, number_room}
use Rattle.listing_spec.specs.Longest.{input_bytes}
use Rattle.listing_spec.specs.Packcheck.{diagnostic_names, verdict_names, longest_name, max_listing_diagnostics, packcheck}
use Rattle.listing_spec.specs.Listing.{Read, done, stopped, and_then, read_rows, read_words, max_listing_rows, max_listing_words}
use Rattle.std.specs.Io.KnownBytes.{Consumes}
use Rattle.std.specs.Prelude.{Option as Optional, Some, None, Result, Ok, Err}
use Rattle.listing.specs.declared.printer.Printer.{Printer}
use Rattle.listing.specs.declared.reader.Head.{Head}
use Rattle.listing.specs.declared.reader.Listing.{Listing}
use Rattle.listing.specs.declared.reader.Unread.{Unread}
use Rattle.listing.specs.declared.reader.Unread.TheVariants.{MalformedLine, ListingTooLong}

-- ---- lines and numbers

-- an `Option` of the code, as the definitions have it
unfoldable pub option_of : {A : Type 0} → Optional A → Option A
option_of (Some a) = some a
option_of None = none

-- the length of a text's first line
unfoldable pub line_length : List ℕ → ℕ
line_length [] = 0
line_length (c ∷ cs) = let more = line_length cs in cond (eqb c newline) 1 (suc more)

-- a number that a u32 holds
unfoldable pub as_u32 : ℕ → Option ℕ
as_u32 n = cond (ltb n (2 ^ 32)) (some n) none

-- the value of digits that are a decimal
unfoldable pub decimal_of : List ℕ → Option ℕ
decimal_of ds = cond (is_decimal ds) (some (value_of 10 ds)) none

-- ---- reading

-- refusals 9 and 10
unfoldable pub refused_of : Unread → Refused
refused_of (MalformedLine at) = record { number = 9; figure = at }
refused_of (ListingTooLong at) = record { number = 10; figure = at }

-- a reading that such a refusal stops
unfoldable pub unread : {A : Type 0} → Unread → Read A
unread u = stopped (refused_of u)

-- the words that start at line number `at`, after a table
unfoldable pub read_code : ℕ → List (List ℕ) → List ℕ → ℕ → ℕ → Read Image
read_code at ls table warnings errors =
    and_then (read_words at max_listing_words ls) (λ ws. done (record { table = table; words = u32_record ws; warnings = warnings; errors = errors }))

-- the rows and the words, from line 4 on
unfoldable pub read_body : List (List ℕ) → ℕ → ℕ → Read Image
read_body ls warnings errors =
    and_then (read_rows 4 max_listing_rows ls) (λ rs. read_code (5 + length rs) (drop (1 + length rs) ls) (u32_record (flatten rs)) warnings errors)

-- the reading of what follows the first three lines
unfoldable pub head_then : List (List ℕ) → Result Head Unread → Read Image
head_then ls (Ok head) = read_body ls head.warnings head.errors
head_then ls (Err u) = unread u

-- the reading of what follows the rows, which are in a buffer
unfoldable pub rows_then : List (List ℕ) → ℕ → ℕ → List ℕ → Result ℕ Unread → Read Image
rows_then ls warnings errors buffer (Ok n) = read_code (5 + n) ls (take (row_bytes * n) buffer) warnings errors
rows_then ls warnings errors buffer (Err u) = unread u

-- the reading at its end, after the words, which are in a buffer
unfoldable pub words_then : List ℕ → ℕ → ℕ → List ℕ → Result ℕ Unread → Read Image
words_then table warnings errors buffer (Ok n) = done (record { table = table; words = take (4 * n) buffer; warnings = warnings; errors = errors })
words_then table warnings errors buffer (Err u) = unread u

-- the reading of a whole listing
unfoldable pub listing_of : Result Listing Unread → Read Image
listing_of (Ok l) = done (record { table = l.table.now; words = l.words.now; warnings = l.warnings; errors = l.errors })
listing_of (Err u) = unread u

-- ---- texts

-- The text t was written, where it fits, at the end of a printer's text, which then ends after t
pub record Prints (old : Printer) (t : List ℕ) (new : Printer) : Type 0 where
  pub bytes : new.out.now ≡ overwrite old.out.now old.end t
  pub ends : new.end ≡ old.end + length t
  -- into the same buffer
  pub same : new.out.ghost_name ≡ old.out.ghost_name

-- how many records a diagnostics buffer has
abbrev pub records : List ℕ → ℕ
records buffer = length buffer / diagnostic_bytes

-- room for a signed number, a code's name, a verdict's name, each with the byte after it
abbrev pub signed_room : ℕ
signed_room = number_room + 1

abbrev pub code_room : ℕ
code_room = longest_name + 1

abbrev pub verdict_room : ℕ
verdict_room = len "ValidForParser" + 1

-- room for a refusal
abbrev pub refusal_room : ℕ
refusal_room = len "refused " + 2 * number_room

-- the longest line of a diagnostic
abbrev pub longest_diagnostic : ℕ
longest_diagnostic = number_room + signed_room + code_room + signed_room

-- the longest text of `count` diagnostics and a verdict: with the names lines, the longest name of a verdict and the number
abbrev pub longest_answer : ℕ → ℕ
longest_answer count = len diagnostic_names + longest_diagnostic * count + len verdict_names + verdict_room + number_room

-- no output is longer
abbrev pub output_bytes : ℕ
output_bytes = longest_answer max_listing_diagnostics

-- A printer has printed nothing, and has room for every output
abbrev pub HasRoom : Printer → Type 0
HasRoom p = (p.end ≡ 0) × (output_bytes ≤ length p.out.now)

-- A printer has room for a text of n bytes
abbrev pub HasRoomFor : Printer → ℕ → Type 0
HasRoomFor p n = p.end + n ≤ length p.out.now

-- ---- inputs

-- `front` was read from an input. It fits the program's buffer, and decides the output of every input whose first `input_bytes` bytes it is
pub record FrontRead (old new : Optional (List ℕ)) (front : List ℕ) : Type 0 where
  pub consumed : Consumes old new front
  pub bounded : length front ≤ input_bytes
  pub decides : (whole : List ℕ) → take input_bytes whole ≡ front → packcheck whole ≡ packcheck front
