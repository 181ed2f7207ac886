-- Bytes that are given another size.
use Rattle.std.specs.Prelude.{ℕ, List, ◌++◌, replicate, take}

-- the first `size` bytes of these bytes with 32 zeros after them: the bytes are cut to this size, or
-- filled with zeros. The size is at most 32
abbrev pub resized : (size : ℕ) → List ℕ → List ℕ
resized size bytes = take size (bytes ++ replicate 32 0)
