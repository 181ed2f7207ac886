-- The sized buffer at the start of the parameters. Sessions encrypt its bytes, but not its size
-- field. TPM 2.0 Library, Part 1, section 21.
use Rattle.std.specs.Prelude.{◌≡◌, ℕ, ◌+◌, ◌≤◌, ◌&&◌, nat_le, Bool, true, false, List, ◌++◌, length, take, drop, if◌then◌else◌, Option, Some, None}
use Rattle.std.specs.Int.{w16, from_be_bytes}

-- the value of the size field at the start of the bytes
abbrev pub first_size : List ℕ → ℕ
first_size text = from_be_bytes w16 (take 2 text)

-- whether the bytes start with a complete sized buffer
abbrev pub has_first_buffer : List ℕ → Bool
has_first_buffer text = nat_le 2 (length text) && nat_le (2 + first_size text) (length text)

-- the bytes with `f` applied to the contents of the sized buffer at their start; the bytes are
-- unchanged if they do not start with a complete sized buffer
unfoldable pub with_first_buffer : (List ℕ → List ℕ) → List ℕ → List ℕ
with_first_buffer f text =
    if has_first_buffer text
    then take 2 text ++ f (take (first_size text) (drop 2 text)) ++ drop (2 + first_size text) text
    else text

-- The call returned the size of the sized buffer at the start of the bytes, or None if the bytes do
-- not start with a complete sized buffer.
abbrev pub FindsFirst : List ℕ → Option ℕ → Type 0
FindsFirst text (Some size) =
    (has_first_buffer text ≡ true) × (size ≡ first_size text) × (2 + size ≤ length text)
FindsFirst text None = has_first_buffer text ≡ false
