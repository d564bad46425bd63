-- Text as bytes: lines, and numbers in them. Assumes nothing: these are definitions.
use Rattle.std.specs.Prelude.{ℕ, zero, suc, ◌+◌, ◌-◌, ◌*◌, ◌/◌, ◌%◌, ◌^◌, Bool, true, false, ◌&&◌, ◌||◌, cond, not, eqb, ltb, leb, length, get_or, ℤ, pos, negsuc}
use Prim.Native.Char.{code}
use Prim.Native.String.{String, len, char_at}
use mathlib.Core.List.{List, [], ◌∷◌, ◌++◌, foldl}
use Rattle.base.specs.Lists.{tabulate}

-- a text of ASCII characters
unfoldable pub text : String → List ℕ
text s = tabulate (len s) (λ i. code (char_at s i))

-- "Lines end in a newline"
abbrev pub newline : ℕ
newline = 10

-- "single spaces"
abbrev pub space : ℕ
space = 32

-- two texts are the same
unfoldable pub same : List ℕ → List ℕ → Bool
same [] [] = true
same [] (y ∷ ys) = false
same (x ∷ xs) [] = false
same (x ∷ xs) (y ∷ ys) = eqb x y && same xs ys

-- ---- lines

-- lines with one more byte in front of the first
unfoldable pub join_first : ℕ → List (List ℕ) → List (List ℕ)
join_first c [] = (c ∷ []) ∷ []
join_first c (l ∷ ls) = (c ∷ l) ∷ ls

-- the lines of a text, each with its newline; the last has none where the end of the text cuts it
unfoldable pub lines : List ℕ → List (List ℕ)
lines [] = []
lines (c ∷ cs) = let ls = lines cs in cond (eqb c newline) ((c ∷ []) ∷ ls) (join_first c ls)

-- items with single spaces between them, as a line
unfoldable pub line : List (List ℕ) → List ℕ
line [] = newline ∷ []
line (x ∷ []) = x ++ (newline ∷ [])
line (x ∷ y ∷ ys) = x ++ (space ∷ line (y ∷ ys))

-- ---- numbers, read

-- 0 to 9
unfoldable pub is_digit : ℕ → Bool
is_digit c = leb 48 c && leb c 57

-- "lower-case hexadecimal"
unfoldable pub is_hex_digit : ℕ → Bool
is_hex_digit c = is_digit c || leb 97 c && leb c 102

-- the value of a decimal or hexadecimal digit
unfoldable pub digit_value : ℕ → ℕ
digit_value c = cond (is_digit c) (c - 48) (c - 87)

-- the value of digits at a base
unfoldable pub value_of : ℕ → List ℕ → ℕ
value_of base ds = foldl (λ n d. n * base + digit_value d) 0 ds

-- digits that are a decimal: at least one, "no leading zero", a u32
unfoldable pub is_decimal : List ℕ → Bool
is_decimal ds = ltb 0 (length ds) && (eqb (length ds) 1 || not (eqb (get_or ds 0 0) 48)) && ltb (value_of 10 ds) (2 ^ 32)

-- ---- numbers, written

-- the last `most` decimal digits of a number: all of them, with no leading zero, where it is below 10 ^ most
unfoldable pub digits : ℕ → ℕ → List ℕ
digits zero n = []
digits (suc most) n = let front = digits most (n / 10) in cond (ltb n 10) [] front ++ ((48 + n % 10) ∷ [])

-- the most digits of a u32
abbrev pub longest_number : ℕ
longest_number = 10

-- the most bytes of a number and the byte after it
abbrev pub number_room : ℕ
number_room = longest_number + 1

-- a number of at most `longest_number` digits
unfoldable pub decimal : ℕ → List ℕ
decimal n = digits longest_number n

-- an integer, with a sign where it is negative
unfoldable pub integer : ℤ → List ℕ
integer (pos n) = decimal n
integer (negsuc n) = text "-" ++ decimal (suc n)
