-- Words of four bytes, as little-endian numbers.
use Rattle.std.specs.Prelude.{ℕ, List}
use Rattle.std.specs.Int.{to_le_bytes, w32}
use Rattle.std.specs.List.{flat_map}

-- the bytes of these words, word by word
abbrev pub bytes_of : List ℕ → List ℕ
bytes_of words = flat_map (to_le_bytes w32) words
