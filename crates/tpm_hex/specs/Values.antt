-- Whether a text is hex follows from the largest value of its digits, because a byte that is not a
-- digit has the value 255. Therefore a loop need not stop at the first bad byte.
use Rattle.std.specs.Prelude.{◌≡◌, ℕ, ◌<◌, ◌≤◌, List, Ok, Err}
use Rattle.hex.specs.Hex.{decode_pairs}
use Rattle.hex.specs.declared.error.FromHexError.{FromHexError}

-- If the largest digit value is below 16, the digits decode to these bytes. Otherwise decoding them
-- fails.
abbrev pub PairsTell : List ℕ → (largest : ℕ) → (bytes : List ℕ) → Type 0
PairsTell digits largest bytes =
    (largest < 16 → decode_pairs 0 digits ≡ Ok bytes)
    × (16 ≤ largest → (fault : FromHexError) × (decode_pairs 0 digits ≡ Err fault))
