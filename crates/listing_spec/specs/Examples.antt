-- Inputs of packcheck with the whole output of each, document 01's own first. proofs/ExampleLaws proves them. Assumes nothing: these are definitions.
use Rattle.std.specs.Prelude.{ℕ}
use Prim.Native.String.{String}
use mathlib.Core.List.{List, [], ◌∷◌, ◌++◌, map, flat_map}
use Rattle.roles_spec.specs.Samples.{row}
use Rattle.listing_spec.specs.Text.{text, line, decimal}
use Rattle.listing_spec.specs.Listing.{incoming_names, row_names, word_names}
use Rattle.listing_spec.specs.Packcheck.{diagnostic_names, verdict_names}

-- an input and the whole output
pub record Example : Type 0 where
  pub input : List ℕ
  pub output : List ℕ

-- texts one after the other
unfoldable pub texts : List String → List ℕ
texts ss = flat_map text ss

-- a row's line
unfoldable pub row_line : List ℕ → List ℕ
row_line fields = line (map decimal fields)

-- an input with all its names lines: what came in, the rows, the words
unfoldable pub listing : String → List (List ℕ) → String → List ℕ
listing incoming rows words = texts (incoming_names ∷ incoming ∷ row_names ∷ []) ++ flat_map row_line rows ++ texts (word_names ∷ words ∷ [])

-- an example: such an input, and what is written for it
abbrev judged : String → List (List ℕ) → String → String → String → Example
judged incoming rows words found verdict =
    record { input = listing incoming rows words; output = texts (diagnostic_names ∷ found ∷ verdict_names ∷ verdict ∷ []) }

-- an example: such an input that is refused
abbrev refused_listing : String → List (List ℕ) → String → String → Example
refused_listing incoming rows words output = record { input = listing incoming rows words; output = text output }

-- an example: an input of any lines that is refused
abbrev refused_texts : List String → String → Example
refused_texts input output = record { input = texts input; output = text output }

-- the table of examples
unfoldable pub examples : List Example
examples =
    -- the document's example, with its names lines written out
    record {
      input = text "warnings errors\n0 0\ndepth words constants upvalues stack\n0 2 1 0 2\nword\n00004001\n0080001e\n";
      output = text "row place code value\n0 0 L51-CONST-003 1\nverdict findings\nInvalid 1\n";
    }
    -- nothing wrong; a warning, with pc -1; a binding word of value 300
    ∷ judged "0 0\n" (row 0 1 0 0 1 ∷ []) "0080001e\n" "" "ValidForParser 0\n"
    ∷ judged "0 0\n" (row 0 0 0 0 251 ∷ []) "" "0 -1 L51-STACK-001 251\n" "ValidForParser 1\n"
    ∷ judged "0 0\n" (row 0 2 0 0 2 ∷ row 1 1 0 1 2 ∷ []) "00000024\n96000000\n0080001e\n" "0 1 L51-REG-002 300\n" "Invalid 1\n"
    -- the limit, from what came in
    ∷ judged "10000 0\n" (row 0 0 0 0 2 ∷ []) "" "" "Incomplete 0\n"
    ∷ judged "4294967295 4294967295\n" (row 0 0 0 0 2 ∷ []) "" "" "Invalid 0\n"
    -- 9: no line; a line cut; a number that is no u32, or has a leading zero; a carriage return; no line "word"; an upper-case digit
    ∷ refused_texts [] "refused 9 1\n"
    ∷ refused_texts (incoming_names ∷ "0 0" ∷ []) "refused 9 2\n"
    ∷ refused_texts (incoming_names ∷ "0 4294967296\n" ∷ []) "refused 9 2\n"
    ∷ refused_texts (incoming_names ∷ "00 0\n" ∷ []) "refused 9 2\n"
    ∷ refused_texts ("warnings errors\r\n0 0\r\n" ∷ []) "refused 9 1\n"
    ∷ record { input = texts (incoming_names ∷ "0 0\n" ∷ row_names ∷ []) ++ row_line (row 0 1 0 0 1); output = text "refused 9 5\n" }
    ∷ refused_listing "0 0\n" (row 0 1 0 0 1 ∷ []) "0080001E\n" "refused 9 6\n"
    ∷ refused_texts (incoming_names ∷ "0 0\n" ∷ row_names ∷ []) "refused 9 4\n"
    -- 1: no rows. 4 and 5: the row. 6: fewer words than the rows state. 9 comes before them
    ∷ refused_listing "0 0\n" [] "" "refused 1 0\n"
    ∷ refused_listing "0 0\n" (row 0 0 0 0 0 ∷ row 2 0 0 0 0 ∷ []) "" "refused 4 1\n"
    ∷ refused_listing "0 0\n" (row 0 0 0 0 256 ∷ []) "" "refused 5 0\n"
    ∷ refused_listing "0 0\n" (row 0 2 0 0 1 ∷ []) "0080001e\n" "refused 6 0\n"
    ∷ refused_listing "0 0\n" (row 0 0 0 0 256 ∷ []) "\n" "refused 9 6\n"
    ∷ []
