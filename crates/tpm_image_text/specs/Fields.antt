-- The fields of an image: how each is encoded and decoded. A field that is truncated, or contains a
-- value that is not allowed, is malformed, whatever fault other decoders return for the same field.
use Rattle.std.specs.Prelude.{ℕ, ◌==◌, nat_lt, not, Bool, true, false, List, ◌++◌, length, Result, Ok}
use Rattle.std.specs.Int.{Width, w8, w16, to_be_bytes}
use Rattle.std.specs.List.{flat_map, list_all}
use Rattle.std.specs.Str.{bytes_eq}
use Rattle.tpm_bytes.specs.Many.{many_at}
use Rattle.tpm_bytes.specs.Reading.{◌>>=◌, bytes_at, number_at, or_fault, refused_if}
use Rattle.tpm_types_common.specs.AuthValue.{trimmed}
use Rattle.tpm_types_common.specs.Buffer.{buffer_at}
use Rattle.tpm_types_common.specs.YesNo.{yes_no_at}
use Rattle.tpm_image_text.specs.declared.fault.Malformed.{Malformed}

abbrev pub malformed_fault : Malformed
malformed_fault = record {}

-- decodes a field, and turns every fault into `malformed_fault`
abbrev pub in_body : {X E : Type 0}
    → (List ℕ → Result (X × List ℕ) E)
    → List ℕ → Result (X × List ℕ) Malformed
in_body at text = or_fault (at text) malformed_fault

-- decodes a value that must pass a test
abbrev pub passing : {X : Type 0}
    → (X → Bool)
    → (List ℕ → Result (X × List ℕ) Malformed)
    → List ℕ → Result (X × List ℕ) Malformed
passing test at text = do
  x ← at text
  passed ← refused_if (not (test x.0)) malformed_fault
  Ok x

-- decodes a value that must take up all of the bytes
abbrev pub filling : {X : Type 0}
    → (List ℕ → Result (X × List ℕ) Malformed)
    → List ℕ → Result X Malformed
filling at text = do
  x ← at text
  ended ← refused_if (not (length x.1 == 0)) malformed_fault
  Ok x.0

-- ---- numbers, yes-or-no values, and bytes of a field

abbrev pub number_in : Width → List ℕ → Result (ℕ × List ℕ) Malformed
number_in width text = in_body (number_at width) text

-- the byte for yes (1) or no (0)
abbrev pub yes_no_number : Bool → ℕ
yes_no_number true = 1
yes_no_number false = 0

abbrev pub yes_no_text : Bool → List ℕ
yes_no_text is_yes = to_be_bytes w8 (yes_no_number is_yes)

abbrev pub yes_no_in : List ℕ → Result (Bool × List ℕ) Malformed
yes_no_in text = in_body yes_no_at text

-- reads `count` bytes
abbrev pub bytes_in : ℕ → List ℕ → Result (List ℕ × List ℕ) Malformed
bytes_in count text = in_body (bytes_at count) text

-- decodes a sized buffer of at most the given size
abbrev pub buffer_in : ℕ → List ℕ → Result (List ℕ × List ℕ) Malformed
buffer_in limit text = in_body (buffer_at limit) text

-- whether a value does not end with a zero byte
abbrev pub is_trimmed : List ℕ → Bool
is_trimmed value = bytes_eq (trimmed value) value

-- decodes an authorization value: a sized buffer of at most 32 bytes, without a zero byte at its
-- end
unfoldable pub auth_value_in : List ℕ → Result (List ℕ × List ℕ) Malformed
auth_value_in text = passing is_trimmed (buffer_in 32) text

-- whether each number of a list is below 256
abbrev pub are_bytes : List ℕ → Bool
are_bytes bytes = list_all (λ byte. nat_lt byte 256) bytes

-- ---- lists

-- the encoding of a list: the number of its elements, followed by each element
abbrev pub counted_text : {X : Type 0} → (X → List ℕ) → List X → List ℕ
counted_text text_of things = to_be_bytes w16 (length things) ++ flat_map text_of things

-- decodes a list of at most the given number of elements
abbrev pub counted_in : {X : Type 0}
    → (most : ℕ)
    → (List ℕ → Result (X × List ℕ) Malformed)
    → List ℕ → Result (List X × List ℕ) Malformed
counted_in most at text = do
  count ← number_in w16 text
  few ← refused_if (nat_lt most count.0) malformed_fault
  many_at at count.0 count.1
