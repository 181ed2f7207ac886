-- Writes to a buffer of fixed capacity: a write appends either all of its bytes or none.
use Rattle.std.specs.Prelude.{◌≡◌, ℕ, ◌+◌, ◌≤◌, ◌<◌, ◌^◌, ◌↔◌, List, ◌++◌, length}
use Rattle.std.specs.Prelude.{Result, IsOk, OnOk, OnErr}
use Rattle.std.specs.Int.{w16, to_be_bytes}

-- a sized buffer (TPM 2.0 Library, Part 2, section 10.4): the size of the bytes, then the bytes
abbrev pub sized_text : List ℕ → List ℕ
sized_text bytes = to_be_bytes w16 (length bytes) ++ bytes

-- A write to a buffer of this capacity appends all bytes if they fit. Otherwise it appends nothing.
abbrev pub Puts : {E : Type 0} → ℕ → List ℕ → List ℕ → Result (Unit {0}) E → List ℕ → Type 0
Puts capacity text old result new =
    (IsOk result ↔ (length old + length text ≤ capacity))
    × OnOk result (new ≡ old ++ text)
    × OnErr result (new ≡ old)

-- Writing bytes as a sized buffer appends the whole sized buffer if the number of bytes fits in the
-- two-byte size and the capacity is sufficient. Otherwise it appends nothing.
abbrev pub PutsSized : {E : Type 0} → ℕ → List ℕ → List ℕ → Result (Unit {0}) E → List ℕ → Type 0
PutsSized capacity bytes old result new =
    (IsOk result ↔ ((length bytes < 2 ^ 16) × (length old + (2 + length bytes) ≤ capacity)))
    × OnOk result (new ≡ old ++ sized_text bytes)
    × OnErr result (new ≡ old)
