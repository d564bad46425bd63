-- The prototype table and the prototypes that it and the words make (document 01, "The sheet and the words": the sheet and its parts).
-- Assumes nothing: these are definitions.
use Rattle.std.specs.Prelude.{ℕ, suc, ◌+◌, ◌*◌, ◌/◌, List, [], ◌∷◌, map, eqb, ltb, length, take, drop}
use Rattle.std.proofs.Math.Option.{Option}
use Rattle.std.proofs.Math.ListN.{get_elem?}
use Rattle.base.specs.Lists.{tabulate, select, take_while}
use Rattle.base.specs.Bytes.{u32_from, u32s}

-- a row of the table with its number: "five a row, one row a part: depth, words, constants, upvalues, stack"
pub record Row : Type 0 where
  pub row : ℕ
  pub depth : ℕ
  pub words : ℕ
  pub constants : ℕ
  pub upvalues : ℕ
  pub stack : ℕ

-- the number of a row's fields
abbrev pub row_fields : ℕ
row_fields = 5

-- the length of a row in bytes: each field is a u32, of four bytes
abbrev pub row_bytes : ℕ
row_bytes = 4 * row_fields

-- field k of row i of a table as bytes
abbrev pub field_at : List ℕ → ℕ → ℕ → ℕ
field_at table i k = u32_from table (row_bytes * i + 4 * k)

-- row i
unfoldable pub row_at : List ℕ → ℕ → Row
row_at table i =
    record {
      row = i;
      depth = field_at table i 0;
      words = field_at table i 1;
      constants = field_at table i 2;
      upvalues = field_at table i 3;
      stack = field_at table i 4;
    }

-- how many whole rows a table has
abbrev pub row_count : List ℕ → ℕ
row_count table = length table / row_bytes

-- all whole rows
unfoldable pub rows : List ℕ → List Row
rows table = tabulate (row_count table) (row_at table)

-- the rows below a row of depth d, among those after it: up to "any row of its own depth or less"
unfoldable pub below : ℕ → List Row → List Row
below d later = take_while (λ (r : Row). ltb d r.depth) later

-- its children: "later row one deeper, before any row of its own depth or less"
unfoldable pub children : ℕ → List Row → List Row
children d later = select (λ (r : Row). eqb r.depth (suc d)) (below d later)

-- "Child k of a row, from 0, is the k-th later row one deeper"
unfoldable pub child_at : ℕ → List Row → ℕ → Option Row
child_at d later k = get_elem? (children d later) k

-- child k of the prototype in row `parent`
unfoldable pub child_of_row : List ℕ → ℕ → ℕ → Option Row
child_of_row table parent k = child_at (row_at table parent).depth (drop (suc parent) (rows table)) k

-- A prototype (the document's part) by itself: its words, its limits, and the number of upvalues of each of its children.
-- A pc (the document's place) is an index into `code`
pub record Proto : Type 0 where
  pub code : List ℕ
  pub constants : ℕ
  pub upvalues : ℕ
  pub stack : ℕ
  pub children : List ℕ

-- the prototype of a row; `later` are the rows after it, and `words` begins with its first word
unfoldable pub proto_of : Row → List Row → List ℕ → Proto
proto_of r later words =
    record {
      code = take r.words words;
      constants = r.constants;
      upvalues = r.upvalues;
      stack = r.stack;
      children = map (λ (c : Row). c.upvalues) (children r.depth later);
    }

-- the prototype of row i; `words` begins with its first word
unfoldable pub proto_in : List ℕ → ℕ → List ℕ → Proto
proto_in table i words = proto_of (row_at table i) (drop (suc i) (rows table)) words

-- "All parts' words stand end to end, in row order"
unfoldable pub protos_of : List Row → List ℕ → List Proto
protos_of [] words = []
protos_of (r ∷ rs) words = proto_of r rs words ∷ protos_of rs (drop r.words words)

-- the prototypes of a table and its words, both as bytes
unfoldable pub protos : List ℕ → List ℕ → List Proto
protos table words = protos_of (rows table) (u32s words)
