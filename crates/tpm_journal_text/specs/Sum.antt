-- The checksum of bytes: 64-bit FNV-1a (Fowler, Noll, Vo), called the sum. Each step maps different
-- sums to different sums, and different bytes to different sums. Therefore, changing a single byte
-- changes the sum.
use Rattle.std.specs.Prelude.{ℕ, ◌*◌, ◌%◌, ◌^◌, bit_xor, List, [], ◌∷◌}

-- the checksum of the empty list
abbrev pub offset_basis : ℕ
offset_basis = 0xcbf29ce484222325

abbrev pub prime : ℕ
prime = 0x100000001b3

-- a checksum extended by one byte
abbrev pub with_byte : (sum : ℕ) → (byte : ℕ) → ℕ
with_byte sum byte = (bit_xor sum byte * prime) % 2 ^ 64

-- a checksum extended by these bytes
abbrev pub sum_from : (sum : ℕ) → List ℕ → ℕ
sum_from sum [] = sum
sum_from sum (byte ∷ bytes) = sum_from (with_byte sum byte) bytes

abbrev pub sum_of : List ℕ → ℕ
sum_of bytes = sum_from offset_basis bytes
