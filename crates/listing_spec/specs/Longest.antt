-- The longest input that is read without refusal 9 or 10, and the program's buffer. Assumes nothing: these are definitions.
use Rattle.std.specs.Prelude.{ℕ, ◌+◌, ◌*◌, ◌≡◌, List, take}
use Prim.Native.String.{len}
use Rattle.roles_spec.specs.Table.{row_fields}
use Rattle.listing_spec.specs.Text.{number_room}
use Rattle.listing_spec.specs.Listing.{incoming_names, row_names, word_names, word_digits, max_listing_rows, max_listing_words}
use Rattle.listing_spec.specs.Packcheck.{packcheck}

-- ---- the most bytes of lines in form

-- `count` numbers, each with the byte after it
abbrev pub longest_numbers : ℕ → ℕ
longest_numbers count = number_room * count

-- the digits of a word and the newline
abbrev pub longest_word : ℕ
longest_word = word_digits + 1

-- the lines before the rows: names, what came in, names
abbrev pub longest_head : ℕ
longest_head = len incoming_names + longest_numbers 2 + len row_names

-- the rows and the line "word"
abbrev pub longest_rows : ℕ → ℕ
longest_rows rows = longest_numbers row_fields * rows + len word_names

-- ---- the bytes of an input

-- the longest listing that is not refused by 9 or 10
abbrev pub longest_listing : ℕ
longest_listing = longest_head + longest_rows max_listing_rows + longest_word * max_listing_words

-- the program's buffer: it reads no more bytes of its input
abbrev pub input_bytes : ℕ
input_bytes = 65536

-- the first n bytes of an input decide the whole output
abbrev pub DecidedBy : ℕ → Type 0
DecidedBy n = (input : List ℕ) → packcheck (take n input) ≡ packcheck input
