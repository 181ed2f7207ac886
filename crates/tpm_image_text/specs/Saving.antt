-- The result of saving into a buffer, and the buffer after it.
use Rattle.std.specs.Prelude.{◌≡◌, ℕ, ◌≤◌, ◌<◌, List, ◌++◌, drop, length}

-- If the buffer is large enough, the bytes were written to its beginning, and the rest of the
-- buffer is unchanged. A smaller buffer is unchanged. The result is the number of bytes in both
-- cases.
abbrev pub PutsFront : List ℕ → (old : List ℕ) → (size : ℕ) → (new : List ℕ) → Type 0
PutsFront text old size new =
    (size ≡ length text) × (size ≤ length old → new ≡ text ++ drop size old)
    × (length old < size → new ≡ old)
