-- Numbers in byte lists, least byte first (document 01, "The sheet and the words"), and a buffer after a write. Assumes nothing: these are definitions.
use Rattle.std.specs.Prelude.{ℕ, suc, ◌+◌, ◌-◌, ◌*◌, ◌/◌, ◌%◌, cond, leb, length, get_or, take, drop, ℤ, pos, negsuc}
use mathlib.Core.List.{List, [], ◌∷◌, ◌++◌, flat_map, map}
use Rattle.base.specs.Lists.{tabulate}

-- the u32 whose least byte stands at index `at`; bytes past the end count as 0
unfoldable pub u32_from : List ℕ → ℕ → ℕ
u32_from s at = get_or s at 0 + get_or s (at + 1) 0 * 0x100 + get_or s (at + 2) 0 * 0x1_0000 + get_or s (at + 3) 0 * 0x100_0000

-- all the u32 of a byte list, end to end: "four bytes each". Bytes past the last whole u32 are left out
unfoldable pub u32s : List ℕ → List ℕ
u32s s = tabulate (length s / 4) (λ i. u32_from s (4 * i))

-- a u32 as four bytes
unfoldable pub u32_bytes : ℕ → List ℕ
u32_bytes n = n % 256 ∷ n / 0x100 % 256 ∷ n / 0x1_0000 % 256 ∷ n / 0x100_0000 % 256 ∷ []

-- the 32 bits of an i32, two's complement, as a u32
unfoldable pub i32_bits : ℤ → ℕ
i32_bits (pos n) = n
i32_bits (negsuc n) = 0x1_0000_0000 - suc n

-- an i32 as four bytes
unfoldable pub i32_bytes : ℤ → List ℕ
i32_bytes z = u32_bytes (i32_bits z)

-- a record of u32, and of i32, as bytes
unfoldable pub u32_record : List ℕ → List ℕ
u32_record ns = flat_map u32_bytes ns

unfoldable pub i32_record : List ℤ → List ℕ
i32_record zs = u32_record (map i32_bits zs)

-- a buffer after `new` is written to it from index `at` on: "what lies past the records is unchanged", and so is what lies before them.
-- A write that does not fit changes nothing
unfoldable pub overwrite : List ℕ → ℕ → List ℕ → List ℕ
overwrite old at new = cond (leb (at + length new) (length old)) (take at old ++ new ++ drop (at + length new) old) old
