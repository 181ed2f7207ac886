-- Reading parts of a journal at their offsets.
use Rattle.std.specs.Prelude.{ℕ, ◌*◌, Bool, true, false, bytes_eq}
use Rattle.std.specs.Prelude.{List, [], drop, length, take, Option, Some, None, Result, Ok, Err}
use Rattle.hex.specs.Hex.{decode_of}

-- a value if the test holds, and None otherwise
abbrev pub where_so : {A : Type 0} → Bool → A → Option A
where_so true value = Some value
where_so false value = None

-- the bytes that were read; the empty list if the read failed
abbrev pub read_or_none : {E : Type 0} → Result (List ℕ) E → List ℕ
read_or_none (Ok bytes) = bytes
read_or_none (Err fault) = []

-- the bytes that hex digits encode; the empty list if they are not hex
abbrev pub decoded_bytes : (digits : List ℕ) → List ℕ
decoded_bytes digits = read_or_none (decode_of digits)

-- the `count` bytes that are written in hex at an offset
abbrev pub hex_at : (place count : ℕ) → (text : List ℕ) → List ℕ
hex_at place count text = decoded_bytes (take (2 * count) (drop place text))

-- whether the first list begins with the second
abbrev pub begins_with : (text front : List ℕ) → Bool
begins_with text front = bytes_eq (take (length front) text) front
