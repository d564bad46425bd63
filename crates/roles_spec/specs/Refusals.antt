-- Refusals 1 to 8 (document 01, "What the counter hears"): each call gives the least number that applies. Assumes nothing: these are definitions.
use Rattle.std.specs.Prelude.{ℕ, suc, ◌*◌, ◌%◌, Bool, ◌&&◌, ◌||◌, cond, not, List, [], ◌∷◌, map, eqb, ltb, leb, length}
use Rattle.std.proofs.Math.Option.{Option, none, some}
use Rattle.base.specs.Lists.{total}
use Rattle.roles_spec.specs.Table.{Row, row_bytes, rows}
use Rattle.roles_spec.specs.Roles.{role_bytes}

-- a refusal's number and figure: "the first guilty row for 4 and 5, the records needed for 8, otherwise 0"; the line for packcheck's 9 and 10
pub record Refused : Type 0 where
  pub number : ℕ
  pub figure : ℕ

-- the refusal with this number and figure
unfoldable pub refuse : ℕ → ℕ → Option Refused
refuse number figure = some (record { number = number; figure = figure })

-- the refusal with this number and figure where a test passes, else none
unfoldable pub refuse_if : Bool → ℕ → ℕ → Option Refused
refuse_if b number figure = cond b (refuse number figure) none

-- the first of two refusals that applies
unfoldable pub or_else : Option Refused → Option Refused → Option Refused
or_else (some r) o = some r
or_else none o = o

-- the greatest depth of a row
abbrev pub max_depth : ℕ
max_depth = 199

-- 4, loose part: the first row whose depth breaks its rule. "Row 0 has depth 0; a later row has depth 1 to the previous depth plus 1"
unfoldable pub depth_fits : ℕ → ℕ → Row → Bool
depth_fits least most r = leb least r.depth && leb r.depth most && leb r.depth max_depth

-- refusal 4 of rows, where the first must have depth `least` to `most`
unfoldable pub bad_depth : ℕ → ℕ → List Row → Option Refused
bad_depth least most [] = none
bad_depth least most (r ∷ rs) = or_else (refuse_if (not (depth_fits least most r)) 4 r.row) (bad_depth 1 (suc r.depth) rs)

-- "constants 2,147,483,647"
abbrev pub max_constants : ℕ
max_constants = 2147483647

-- "upvalues and stack 255"
abbrev pub max_upvalues : ℕ
max_upvalues = 255

abbrev pub max_stack : ℕ
max_stack = 255

-- 5, odd figure: the first row with "constants, upvalues or stack over limit"
unfoldable pub fields_fit : Row → Bool
fields_fit r = leb r.constants max_constants && leb r.upvalues max_upvalues && leb r.stack max_stack

-- refusal 5 of rows
unfoldable pub bad_field : List Row → Option Refused
bad_field [] = none
bad_field (r ∷ rs) = or_else (refuse_if (not (fields_fit r)) 5 r.row) (bad_field rs)

-- the words that the rows state
unfoldable pub word_total : List Row → ℕ
word_total rs = total (map (λ (r : Row). r.words) rs)

-- "above 16,384 rows"
abbrev pub max_rows : ℕ
max_rows = 16384

-- "word slice above 4,194,304 bytes"
abbrev pub max_word_bytes : ℕ
max_word_bytes = 4194304

-- 1 to 6, of the table and the words as bytes: no parts, ragged sheet, overfull, loose part, odd figure, miscount
unfoldable pub image_refusal : List ℕ → List ℕ → Option Refused
image_refusal table words =
    let rs = rows table in
    or_else (refuse_if (eqb (length table) 0) 1 0)
    (or_else (refuse_if (not (eqb (length table % row_bytes) 0)) 2 0)
    (or_else (refuse_if (ltb max_rows (length rs) || ltb max_word_bytes (length words)) 3 0)
    (or_else (bad_depth 0 0 rs)
    (or_else (bad_field rs)
    (refuse_if (not (eqb (length words) (4 * word_total rs))) 6 0)))))

-- 1 to 7: short role tray, "below 8 bytes a word". The role buffer is given by its length
unfoldable pub roles_refusal : List ℕ → List ℕ → ℕ → Option Refused
roles_refusal table words role_length =
    or_else (image_refusal table words) (refuse_if (ltb role_length (role_bytes * word_total (rows table))) 7 0)

-- 8, short tray: `records` records of `size` bytes each do not fit into `length` bytes
unfoldable pub too_short : ℕ → ℕ → ℕ → Option Refused
too_short records size length = refuse_if (ltb length (records * size)) 8 records
