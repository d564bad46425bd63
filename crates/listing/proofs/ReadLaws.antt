-- The reading of a listing, step by step as the code does it: the first three lines, row by row, word by word. Assumes nothing.
use Prim.Native.Nat.{ℕ, suc, ◌+◌, ◌-◌, ◌*◌, ◌<◌, ◌≤◌}
use Prim.Native.String.{String}
use native.Mathlib.Omega.{arith}
use native.Mathlib.Nat.{add-zero, zero-add}
use mathlib.Core.Path.{◌≡◌, refl, sym, ap, ap₂, ◌∙◌}
use mathlib.Core.Bool.{Bool, true, false, ◌&&◌}
use mathlib.Core.List.{List, [], ◌∷◌, ◌++◌, append_assoc, append-nil, flatten, flat_map}
use mathlib.Core.Option.{none, some}
use lib.Dec.{eqb}
use lib.ListN.{length, length-append, get_or, take, drop}
use lib.Seq.{drop-drop, length-take-le, take_at}
use Rattle.std.specs.Prelude.{Option as Optional, Some, None, Ok, Err, ok_or}
use Rattle.std.specs.Str.{bytes_eq}
use Rattle.std.proofs.lemmas.Slice.Eq.{bytes_eq-Decides}
use Rattle.base.specs.Bytes.{overwrite, u32_bytes, u32_record}
use Rattle.base.proofs.ByteLaws.{length_u32_bytes, length_u32_record, overwrite_fits, u32_record_append}
use Rattle.validator_spec.specs.Image.{Image}
use Rattle.roles_spec.specs.Table.{row_bytes, row_fields}
use Rattle.listing_spec.specs.Text.{text as text_of, lines, same}
use Rattle.listing_spec.specs.Listing.{Read, stopped, done, and_then, refused_at, read_as, read_line, named, decimals, hex_word, read_rows, read_words, read_listing, max_listing_rows, max_listing_words, incoming_names, word_names, row_names}
use Rattle.listing_spec.proofs.PrefixLaws.{and_then_same}
use Rattle.listing_spec.proofs.RefusalNumberLaws.{decimals_count}
use Rattle.listing.specs.Terms.{option_of, read_body, read_code, refused_of, unread}
use Rattle.listing.specs.declared.reader.Unread.{Unread}
use Rattle.listing.specs.declared.reader.Unread.TheVariants.{MalformedLine, ListingTooLong}

-- two texts are the same where their bytes are
same_is : (a b : List ℕ) → same a b ≡ bytes_eq a b
unfolding same
same_is [] [] = refl
same_is [] (y ∷ b) = refl
same_is (x ∷ a) [] = refl
same_is (x ∷ a) (y ∷ b) = ap (λ (t : Bool). eqb x y && t) (same_is a b)

-- one reading after two others
and_then_assoc : {A B C : Type 0} (x : Read A) (f : A → Read B) (g : B → Read C) → and_then (and_then x f) g ≡ and_then x (λ a. and_then (f a) g)
unfolding and_then
and_then_assoc (stopped r) f g = refl
and_then_assoc (done a) f g = refl

-- a buffer's front, and bytes written right after it
front_next : (old new bytes : List ℕ) (at next : ℕ) → new ≡ overwrite old at bytes → at + length bytes ≡ next → next ≤ length old → take at old ++ bytes ≡ take next new
front_next old new bytes at next e ends fits =
    sym (ap (take next) (e ∙ overwrite_fits old at bytes (omega arith)) ∙ take_at (take at old ++ bytes) (drop (at + length bytes) old) next (length-append (take at old) bytes ∙ ap (λ (n : ℕ). n + length bytes) (length-take-le at old (omega arith)) ∙ ends))

-- ---- what a line must have

module _ {A : Type 0} (o : Optional A) (refusal : Unread) where
  -- it does not
  pub refused : (u : Unread) → Err u ≡ ok_or o refusal → (o ≡ None) × (none ≡ option_of o) × (u ≡ refusal)
  unfolding option_of
  refused u e = go o e
    where
      go : (o : Optional A) → Err u ≡ ok_or o refusal → (o ≡ None) × (none ≡ option_of o) × (u ≡ refusal)
      go None e = (refl, refl, cc)
      go (Some a) e = cc

  -- it does
  pub accepted : (a : A) → Ok a ≡ ok_or o refusal → (o ≡ Some a) × (some a ≡ option_of o)
  unfolding option_of
  accepted a e = go o e
    where
      go : (o : Optional A) → Ok a ≡ ok_or o refusal → (o ≡ Some a) × (some a ≡ option_of o)
      go None e = cc
      go (Some b) e = (cc, cc)

-- ---- the rows

-- the reading of rows and words, after n rows
unfoldable pub body_from : ℕ → List ℕ → List (List ℕ) → ℕ → ℕ → Read Image
body_from n table ls warnings errors =
    and_then (read_rows (4 + n) (max_listing_rows - n) ls) (λ rs. read_code (5 + (n + length rs)) (drop (1 + length rs) ls) (table ++ u32_record (flatten rs)) warnings errors)

-- before the first row
pub body_first : (ls : List (List ℕ)) (warnings errors : ℕ) → read_body ls warnings errors ≡ body_from 0 [] ls warnings errors
unfolding read_body body_from
body_first ls warnings errors =
    and_then_same (read_rows 4 max_listing_rows ls) (read_rows 4 max_listing_rows ls) _ _ refl (λ rs _. ap (λ (k : ℕ). read_code (5 + k) (drop (1 + length rs) ls) (u32_record (flatten rs)) warnings errors) (sym (zero-add (length rs))))

-- no line is left
pub rows_missing : (n : ℕ) (table : List ℕ) (ls : List (List ℕ)) (warnings errors : ℕ) → ls ≡ [] → body_from n table ls warnings errors ≡ unread (MalformedLine (4 + n))
unfolding body_from read_rows and_then refused_at refused_of unread
rows_missing n table ls warnings errors here = rw here refl

-- the next line, and those after it
module _ (n : ℕ) (table l : List ℕ) (ls all : List (List ℕ)) (here : all ≡ l ∷ ls) (warnings errors : ℕ) where
  -- the line "word"
  pub rows_end : true ≡ bytes_eq l (text_of word_names) → body_from n table all warnings errors ≡ read_code (5 + n) ls table warnings errors
  unfolding body_from read_rows and_then u32_record flatten flat_map
  rows_end e = rw (here, same_is l (text_of word_names), ← e, add-zero n) (ap (λ (t : List ℕ). read_code (5 + n) ls t warnings errors) (append-nil table))

  module _ (e : false ≡ bytes_eq l (text_of word_names)) where
    -- a line out of form
    pub row_malformed : none ≡ decimals row_fields l → body_from n table all warnings errors ≡ unread (MalformedLine (4 + n))
    unfolding body_from read_rows and_then read_as refused_at refused_of unread
    row_malformed value = rw (here, same_is l (text_of word_names), ← e, ← value) refl

    -- one row too many
    pub rows_too_many : (ns : List ℕ) → some ns ≡ decimals row_fields l → n ≡ max_listing_rows → body_from n table all warnings errors ≡ unread (ListingTooLong (4 + n))
    unfolding body_from read_rows and_then read_as refused_at refused_of unread
    rows_too_many ns value full = rw (here, same_is l (text_of word_names), ← e, ← value, full) refl

    -- a row
    row_read : (ns : List ℕ) → some ns ≡ decimals row_fields l → n < max_listing_rows → read_rows (4 + n) (max_listing_rows - n) (l ∷ ls) ≡ and_then (read_rows (4 + (n + 1)) (max_listing_rows - (n + 1)) ls) (λ rs. done (ns ∷ rs))
    unfolding read_rows and_then read_as
    row_read ns value room =
        let left : max_listing_rows - n ≡ suc (max_listing_rows - (n + 1)) = omega arith in
        let line : suc (4 + n) ≡ 4 + (n + 1) = omega arith in
        let rest : suc (max_listing_rows - (n + 1)) - 1 ≡ max_listing_rows - (n + 1) = omega arith in
        ap (λ (k : ℕ). read_rows (4 + n) k (l ∷ ls)) left ∙ rw (same_is l (text_of word_names), ← e, ← value) (ap₂ (λ (a k : ℕ). and_then (read_rows a k ls) (λ rs. done (ns ∷ rs))) line rest)

    -- and those after it
    row_then : (ns : List ℕ) (rs : List (List ℕ)) → read_code (5 + (n + length (ns ∷ rs))) (drop (1 + length (ns ∷ rs)) (l ∷ ls)) (table ++ u32_record (flatten (ns ∷ rs))) warnings errors ≡ read_code (5 + (n + 1 + length rs)) (drop (1 + length rs) ls) (table ++ u32_record ns ++ u32_record (flatten rs)) warnings errors
    unfolding flatten
    row_then ns rs =
        let line : n + suc (length rs) ≡ n + 1 + length rs = omega arith in
        let after : 1 + suc (length rs) ≡ suc (1 + length rs) = omega arith in
        let bytes : table ++ u32_record (ns ++ flatten rs) ≡ table ++ u32_record ns ++ u32_record (flatten rs) = ap (λ (b : List ℕ). table ++ b) (u32_record_append ns (flatten rs)) ∙ sym (append_assoc table (u32_record ns) (u32_record (flatten rs))) in
        ap₂ (λ (k : ℕ) (t : List ℕ). read_code (5 + k) (drop (1 + suc (length rs)) (l ∷ ls)) t warnings errors) line bytes
        ∙ ap (λ (k : ℕ). read_code (5 + (n + 1 + length rs)) (drop k (l ∷ ls)) (table ++ u32_record ns ++ u32_record (flatten rs)) warnings errors) after

    body_row : (ns : List ℕ) → some ns ≡ decimals row_fields l → n < max_listing_rows → body_from n table all warnings errors ≡ body_from (n + 1) (table ++ u32_record ns) ls warnings errors
    unfolding body_from and_then
    body_row ns value room =
        let more = read_rows (4 + (n + 1)) (max_listing_rows - (n + 1)) ls in
        ap (λ (ls : List (List ℕ)). body_from n table ls warnings errors) here
        ∙ ap (λ (x : Read (List (List ℕ))). and_then x (λ rs. read_code (5 + (n + length rs)) (drop (1 + length rs) (l ∷ ls)) (table ++ u32_record (flatten rs)) warnings errors)) (row_read ns value room)
        ∙ and_then_assoc more _ _
        ∙ and_then_same more more _ _ refl (λ rs _. row_then ns rs)

-- a row is stored after those before it
pub row_stored : (n : ℕ) (buffer new l : List ℕ) (ls all : List (List ℕ)) (warnings errors : ℕ) (ns : List ℕ) → all ≡ l ∷ ls → false ≡ bytes_eq l (text_of word_names) → some ns ≡ decimals row_fields l → n < max_listing_rows → length buffer ≡ row_bytes * max_listing_rows → new ≡ overwrite buffer (row_bytes * n) (u32_record ns)
    → body_from n (take (row_bytes * n) buffer) all warnings errors ≡ body_from (n + 1) (take (row_bytes * (n + 1)) new) ls warnings errors
row_stored n buffer new l ls all warnings errors ns here e value room long stored =
    let five = decimals_count row_fields l ns (sym value) in
    let size = length_u32_record ns in
    let next : row_bytes * n + length (u32_record ns) ≡ row_bytes * (n + 1) = omega arith in
    body_row n (take (row_bytes * n) buffer) l ls all here warnings errors e ns value room
    ∙ ap (λ (t : List ℕ). body_from (n + 1) t ls warnings errors) (front_next buffer new (u32_record ns) (row_bytes * n) (row_bytes * (n + 1)) stored next (omega arith))

-- ---- the words

-- the reading of words, after n words
unfoldable pub code_from : ℕ → ℕ → List ℕ → List (List ℕ) → List ℕ → ℕ → ℕ → Read Image
code_from line n code ls table warnings errors =
    and_then (read_words (line + n) (max_listing_words - n) ls) (λ ws. done (record { table = table; words = code ++ u32_record ws; warnings = warnings; errors = errors }))

-- before the first word
pub code_first : (line : ℕ) (ls : List (List ℕ)) (table : List ℕ) (warnings errors : ℕ) → read_code line ls table warnings errors ≡ code_from line 0 [] ls table warnings errors
unfolding read_code code_from
code_first line ls table warnings errors =
    ap (λ (k : ℕ). and_then (read_words k max_listing_words ls) (λ ws. done (record { table = table; words = u32_record ws; warnings = warnings; errors = errors }))) (sym (add-zero line))

-- no line is left
pub words_end : (line n : ℕ) (code table : List ℕ) (ls : List (List ℕ)) (warnings errors : ℕ) → ls ≡ [] → code_from line n code ls table warnings errors ≡ done (record { table = table; words = code; warnings = warnings; errors = errors })
unfolding code_from read_words and_then u32_record flat_map
words_end line n code table ls warnings errors here = rw here (ap (λ (w : List ℕ). done (record { table = table; words = w; warnings = warnings; errors = errors })) (append-nil code))

-- the next line, and those after it
module _ (line n : ℕ) (code l : List ℕ) (ls all : List (List ℕ)) (here : all ≡ l ∷ ls) (table : List ℕ) (warnings errors : ℕ) where
  -- a line out of form
  pub word_malformed : none ≡ hex_word l → code_from line n code all table warnings errors ≡ unread (MalformedLine (line + n))
  unfolding code_from read_words and_then read_as refused_at refused_of unread
  word_malformed value = rw (here, ← value) refl

  -- one word too many
  pub words_too_many : (w : ℕ) → some w ≡ hex_word l → n ≡ max_listing_words → code_from line n code all table warnings errors ≡ unread (ListingTooLong (line + n))
  unfolding code_from read_words and_then read_as refused_at refused_of unread
  words_too_many w value full = rw (here, ← value, full) refl

  -- a word
  word_read : (w : ℕ) → some w ≡ hex_word l → n < max_listing_words → read_words (line + n) (max_listing_words - n) (l ∷ ls) ≡ and_then (read_words (line + (n + 1)) (max_listing_words - (n + 1)) ls) (λ ws. done (w ∷ ws))
  unfolding read_words and_then read_as
  word_read w value room =
      let left : max_listing_words - n ≡ suc (max_listing_words - (n + 1)) = omega arith in
      let next : suc (line + n) ≡ line + (n + 1) = omega arith in
      let rest : suc (max_listing_words - (n + 1)) - 1 ≡ max_listing_words - (n + 1) = omega arith in
      ap (λ (k : ℕ). read_words (line + n) k (l ∷ ls)) left ∙ rw (← value) (ap₂ (λ (a k : ℕ). and_then (read_words a k ls) (λ ws. done (w ∷ ws))) next rest)

  code_word : (w : ℕ) → some w ≡ hex_word l → n < max_listing_words → code_from line n code all table warnings errors ≡ code_from line (n + 1) (code ++ u32_bytes w) ls table warnings errors
  unfolding code_from and_then u32_record flat_map
  code_word w value room =
      let more = read_words (line + (n + 1)) (max_listing_words - (n + 1)) ls in
      ap (λ (ls : List (List ℕ)). code_from line n code ls table warnings errors) here
      ∙ ap (λ (x : Read (List ℕ)). and_then x (λ ws. done (record { table = table; words = code ++ u32_record ws; warnings = warnings; errors = errors }))) (word_read w value room)
      ∙ and_then_assoc more _ _
      ∙ and_then_same more more _ _ refl (λ ws _. ap (λ (b : List ℕ). done (record { table = table; words = b; warnings = warnings; errors = errors })) (sym (append_assoc code (u32_bytes w) (u32_record ws))))

-- a word is stored after those before it
pub word_stored : (line n : ℕ) (buffer new l : List ℕ) (ls all : List (List ℕ)) (table : List ℕ) (warnings errors w : ℕ) → all ≡ l ∷ ls → some w ≡ hex_word l → n < max_listing_words → length buffer ≡ 4 * max_listing_words → new ≡ overwrite buffer (4 * n) (u32_bytes w)
    → code_from line n (take (4 * n) buffer) all table warnings errors ≡ code_from line (n + 1) (take (4 * (n + 1)) new) ls table warnings errors
word_stored line n buffer new l ls all table warnings errors w here value room long stored =
    let size = length_u32_bytes w in
    let next : 4 * n + length (u32_bytes w) ≡ 4 * (n + 1) = omega arith in
    code_word line n (take (4 * n) buffer) l ls all here table warnings errors w value room
    ∙ ap (λ (b : List ℕ). code_from line (n + 1) b ls table warnings errors) (front_next buffer new (u32_bytes w) (4 * n) (4 * (n + 1)) stored next (omega arith))

-- ---- the first three lines

-- the third line and what follows, of these lines
unfoldable pub third_on : List ℕ → List (List ℕ) → Read Image
third_on ns ls = and_then (read_line 3 (named row_names) ls) (λ _. read_body (drop 1 ls) (get_or ns 0 0) (get_or ns 1 0))

-- and the second
unfoldable pub second_on : List (List ℕ) → Read Image
second_on ls = and_then (read_line 2 (decimals 2) ls) (λ ns. third_on ns (drop 1 ls))

-- and the first
unfoldable pub first_on : List (List ℕ) → Read Image
first_on ls = and_then (read_line 1 (named incoming_names) ls) (λ _. second_on (drop 1 ls))

-- the whole
pub listing_first : (input : List ℕ) → read_listing input ≡ first_on (lines input)
unfolding read_listing first_on second_on third_on read_body read_code
listing_first input =
    let ls = lines input in
    let two : drop 2 ls ≡ drop 1 (drop 1 ls) = sym (drop-drop 1 1 ls) in
    let three : drop 3 ls ≡ drop 1 (drop 1 (drop 1 ls)) = sym (ap (drop 1) (drop-drop 1 1 ls) ∙ drop-drop 1 2 ls) in
    and_then_same (read_line 1 (named incoming_names) ls) (read_line 1 (named incoming_names) ls) _ _ refl (λ _ _.
    and_then_same (read_line 2 (decimals 2) (drop 1 ls)) (read_line 2 (decimals 2) (drop 1 ls)) _ _ refl (λ ns _.
    and_then_same (read_line 3 (named row_names) (drop 2 ls)) (read_line 3 (named row_names) (drop 1 (drop 1 ls))) _ _ (ap (read_line 3 (named row_names)) two) (λ _ _.
    and_then_same (read_rows 4 max_listing_rows (drop 3 ls)) (read_rows 4 max_listing_rows (drop 1 (drop 1 (drop 1 ls)))) _ _ (ap (read_rows 4 max_listing_rows) three) (λ rs _.
    let place : 4 + length rs ≡ 3 + (1 + length rs) = omega arith in
    let after : drop (4 + length rs) ls ≡ drop (1 + length rs) (drop 1 (drop 1 (drop 1 ls))) = ap (λ (k : ℕ). drop k ls) place ∙ sym (drop-drop (1 + length rs) 3 ls) ∙ ap (drop (1 + length rs)) three in
    ap (λ (l : List (List ℕ)). and_then (read_words (5 + length rs) max_listing_words l) (λ ws. done (record { table = u32_record (flatten rs); words = u32_record ws; warnings = get_or ns 0 0; errors = get_or ns 1 0 }))) after))))

-- a line of names that is there, or is not
module _ (s : String) (n : ℕ) (ls : List (List ℕ)) where
  names_there : (rest : List (List ℕ)) → ls ≡ text_of s ∷ rest → read_line n (named s) ls ≡ done (text_of s)
  unfolding read_line named read_as
  names_there rest here =
      let same_text : same (text_of s) (text_of s) ≡ true = same_is (text_of s) (text_of s) ∙ (bytes_eq-Decides (text_of s) (text_of s)).1 refl in
      rw (here, same_text) refl

  names_other : ((rest : List (List ℕ)) → ls ≡ text_of s ∷ rest → ⊥) → read_line n (named s) ls ≡ refused_at 9 n
  unfolding read_line named read_as
  names_other h = go ls h
    where
      go : (ls : List (List ℕ)) → ((rest : List (List ℕ)) → ls ≡ text_of s ∷ rest → ⊥) → read_line n (named s) ls ≡ refused_at 9 n
      go [] h = refl
      go (l ∷ rest) h = test (same l (text_of s)) refl
        where
          test : (b : Bool) → same l (text_of s) ≡ b → read_line n (named s) (l ∷ rest) ≡ refused_at 9 n
          test true e = absurd (h rest (ap (λ (x : List ℕ). x ∷ rest) ((bytes_eq-Decides l (text_of s)).0 (sym (same_is l (text_of s)) ∙ e))))
          test false e = rw e refl

-- the first line
pub first_other : (input : List ℕ) → ((rest : List (List ℕ)) → lines input ≡ text_of incoming_names ∷ rest → ⊥) → read_listing input ≡ unread (MalformedLine 1)
unfolding first_on and_then refused_at refused_of unread
first_other input h = listing_first input ∙ ap (λ (x : Read (List ℕ)). and_then x (λ _. second_on (drop 1 (lines input)))) (names_other incoming_names 1 (lines input) h)

pub first_there : (input : List ℕ) (rest : List (List ℕ)) → lines input ≡ text_of incoming_names ∷ rest → read_listing input ≡ second_on rest
unfolding first_on and_then
first_there input rest here =
    listing_first input
    ∙ ap (λ (x : Read (List ℕ)). and_then x (λ _. second_on (drop 1 (lines input)))) (names_there incoming_names 1 (lines input) rest here)
    ∙ ap (λ (ls : List (List ℕ)). second_on (drop 1 ls)) here

-- the second
pub second_missing : (ls : List (List ℕ)) → ls ≡ [] → second_on ls ≡ unread (MalformedLine 2)
unfolding second_on read_line and_then refused_at refused_of unread
second_missing ls here = rw here refl

module _ (ls rest : List (List ℕ)) (l : List ℕ) (here : ls ≡ l ∷ rest) where
  pub second_malformed : none ≡ decimals 2 l → second_on ls ≡ unread (MalformedLine 2)
  unfolding second_on read_line and_then read_as refused_at refused_of unread
  second_malformed value = rw (here, ← value) refl

  pub second_there : (ns : List ℕ) → some ns ≡ decimals 2 l → second_on ls ≡ third_on ns rest
  unfolding second_on read_line and_then read_as
  second_there ns value = rw (here, ← value) refl

-- the third
module _ (ls : List (List ℕ)) (ns : List ℕ) where
  pub third_other : ((rest : List (List ℕ)) → ls ≡ text_of row_names ∷ rest → ⊥) → third_on ns ls ≡ unread (MalformedLine 3)
  unfolding third_on and_then refused_at refused_of unread
  third_other h = ap (λ (x : Read (List ℕ)). and_then x (λ _. read_body (drop 1 ls) (get_or ns 0 0) (get_or ns 1 0))) (names_other row_names 3 ls h)

  pub third_there : (rest : List (List ℕ)) → ls ≡ text_of row_names ∷ rest → third_on ns ls ≡ read_body rest (get_or ns 0 0) (get_or ns 1 0)
  unfolding third_on and_then
  third_there rest here =
      ap (λ (x : Read (List ℕ)). and_then x (λ _. read_body (drop 1 ls) (get_or ns 0 0) (get_or ns 1 0))) (names_there row_names 3 ls rest here)
      ∙ ap (λ (ls : List (List ℕ)). read_body (drop 1 ls) (get_or ns 0 0) (get_or ns 1 0)) here
