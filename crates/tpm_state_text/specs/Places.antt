-- The kinds of field that are in a state text but not in an image: enumerated values encoded as
-- numbers, optional values, and slots that are free or occupied. A field that is truncated, or
-- contains a value that is not allowed, is malformed.
use Rattle.std.specs.Prelude.{ℕ, Bool, true, false, List, ◌++◌, ok_or, Option, Some, None, Result, Ok}
use Rattle.std.specs.Int.{Width}
use Rattle.std.specs.List.{flat_map}
use Rattle.tpm_bytes.specs.Many.{many_at}
use Rattle.tpm_bytes.specs.Reading.{◌>>=◌}
use Rattle.tpm_image_text.specs.Fields.{malformed_fault, number_in, yes_no_in, yes_no_text}
use Rattle.tpm_image_text.specs.declared.fault.Malformed.{Malformed}

-- decodes a number, and returns the value that it stands for
abbrev pub named_in : {X : Type 0}
    → Width → (named : ℕ → Option X) → List ℕ → Result (X × List ℕ) Malformed
named_in width named text = do
  number ← number_in width text
  one ← ok_or (named number.0) malformed_fault
  Ok (one, number.1)

-- ---- an optional value

-- the encoding of an optional value: a byte that says whether there is a value, followed by the
-- encoded value
abbrev pub optional_text : {X : Type 0} → (X → List ℕ) → Option X → List ℕ
optional_text text_of None = yes_no_text false
optional_text text_of (Some x) = yes_no_text true ++ text_of x

-- decodes the rest of an optional value, after the byte that says whether there is a value
abbrev pub optional_after : {X : Type 0}
    → (List ℕ → Result (X × List ℕ) Malformed)
    → (is_there : Bool) → List ℕ → Result (Option X × List ℕ) Malformed
optional_after at false text = Ok (None, text)
optional_after at true text = do
  x ← at text
  Ok (Some x.0, x.1)

abbrev pub optional_in : {X : Type 0}
    → (List ℕ → Result (X × List ℕ) Malformed)
    → List ℕ → Result (Option X × List ℕ) Malformed
optional_in at text = do
  is_there ← yes_no_in text
  optional_after at is_there.0 is_there.1

-- ---- slots

-- the encoding of the slots, from the first to the last: for each slot, a byte that says whether
-- the slot is occupied, followed by the value of an occupied slot
abbrev pub places_text : {X : Type 0} → (X → List ℕ) → List (Option X) → List ℕ
places_text text_of places = flat_map (optional_text text_of) places

-- decodes the given number of slots
abbrev pub places_in : {X : Type 0}
    → ℕ → (List ℕ → Result (X × List ℕ) Malformed)
    → List ℕ → Result (List (Option X) × List ℕ) Malformed
places_in count at text = many_at (optional_in at) count text
