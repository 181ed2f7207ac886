-- A comment line of a script that contains bytes and a checksum in hex.
use Rattle.std.specs.Prelude.{ℕ, ◌+◌, ◌*◌, List, [], ◌∷◌, ◌++◌, length}
use Rattle.std.specs.Int.{w64, to_be_bytes}
use Rattle.hex.specs.Hex.{encode_lower}

-- a word, then bytes in hex, then a checksum in hex
unfoldable pub marked_line : (word bytes : List ℕ) → (sum : ℕ) → List ℕ
marked_line word bytes sum =
    word ++ encode_lower bytes ++ 32 ∷ [] ++ encode_lower (to_be_bytes w64 sum) ++ 10 ∷ []

-- the size of a marked line with `count` bytes
abbrev pub marked_size : (word : List ℕ) → (count : ℕ) → ℕ
marked_size word count = length word + 2 * count + 18
