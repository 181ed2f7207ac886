-- The state of the completing layer, for devices that have this layer: the contexts that the layer
-- has made, and its sequence objects. TPM 2.0 Library, Part 1, sections 30 (context management) and
-- 32.4 (hash, HMAC and event sequences). `Completion` in tpm_completion has the same fields.
use Rattle.std.specs.Prelude.{◌≡◌, ℕ, ◌<◌, ◌^◌, ◌==◌, Bool, true, false, List, [], ◌++◌, length, if◌then◌else◌, Option, Some, None, Result, Ok}
use Rattle.std.specs.Int.{w8, w64, to_be_bytes}
use Rattle.std.specs.List.{All, flat_map}
use Rattle.tpm_bytes.specs.Many.{many_at}
use Rattle.tpm_bytes.specs.Reading.{◌>>=◌}
use Rattle.tpm_image_text.specs.Fields.{number_in}
use Rattle.tpm_image_text.specs.declared.fault.Malformed.{Malformed}
use Rattle.tpm_sequence_text.specs.Slot.{IsSlot}
use Rattle.tpm_types_common.specs.Limits.{session_limit}
use Rattle.tpm_state_text.specs.Places.{named_in, optional_after}
use Rattle.tpm_state_text.specs.Sequences.{has_sequence, sequence_slots, slots_in, slots_text}
use Rattle.tpm_state_text.specs.declared.layer.Layer.{Layer}
use Rattle.tpm_state_text.specs.declared.layer.LayerKind.{LayerKind}
use Rattle.tpm_state_text.specs.declared.layer.LayerKind.TheVariants as kind

-- Every number in the layer's state fits its integer type. There is one slot for each session, and
-- there are three slots for sequence objects.
pub record IsLayer (layer : Layer) : Type 0 where
  pub start : layer.start < 2 ^ 64
  pub count : layer.count < 2 ^ 64
  pub sessions : length layer.sessions ≡ session_limit
  pub each_session : All (λ context. context < 2 ^ 64) layer.sessions
  pub sequences : length layer.sequences ≡ sequence_slots
  pub each_sequence : All IsSlot layer.sequences

-- the encoding of a layer: its start number, its count, the sessions, and the slots of sequence
-- objects if one of them is used
unfoldable pub layer_text : Layer → List ℕ
layer_text layer =
    to_be_bytes w64 layer.start ++ to_be_bytes w64 layer.count
    ++ flat_map (to_be_bytes w64) layer.sessions ++ slots_text layer.sequences

-- decodes a layer, with sequence objects if `is_used` is true, and without sequence objects
-- otherwise
unfoldable pub layer_in : (is_used : Bool) → List ℕ → Result (Layer × List ℕ) Malformed
layer_in is_used text = do
  start ← number_in w64 text
  count ← number_in w64 start.1
  sessions ← many_at (number_in w64) session_limit count.1
  sequences ← slots_in is_used sessions.1
  Ok (
    record {
      start = start.0;
      count = count.0;
      sessions = sessions.0;
      sequences = sequences.0;
    },
    sequences.1,
  )

-- ---- whether the device has a layer

-- the kind of a layer, or of no layer
abbrev pub used_kind : (is_used : Bool) → LayerKind
used_kind false = kind.Plain
used_kind true = kind.WithSequences

abbrev pub kind_of : Option Layer → LayerKind
kind_of None = kind.Absent
kind_of (Some layer) = used_kind (has_sequence layer.sequences)

-- the number that stands for a kind: 0 for no layer, 1 for a layer without sequence objects, 2 for
-- a layer with sequence objects
abbrev pub kind_number : LayerKind → ℕ
kind_number kind.Absent = 0
kind_number kind.Plain = 1
kind_number kind.WithSequences = 2

abbrev pub kind_named : ℕ → Option LayerKind
kind_named number =
    if number == 0 then Some kind.Absent
    else (if number == 1 then Some kind.Plain
    else (if number == 2 then Some kind.WithSequences else None))

unfoldable pub kind_in : List ℕ → Result (LayerKind × List ℕ) Malformed
kind_in text = named_in w8 kind_named text

-- the part of a body after the number of the layer's kind: the encoded layer, or nothing if there
-- is no layer
abbrev pub layer_behind : Option Layer → List ℕ
layer_behind None = []
layer_behind (Some layer) = layer_text layer

-- decodes the part of a body after the number of this kind: a layer, or nothing
abbrev pub layer_after : LayerKind → List ℕ → Result (Option Layer × List ℕ) Malformed
layer_after kind.Absent text = Ok (None, text)
layer_after kind.Plain text = optional_after (layer_in false) true text
layer_after kind.WithSequences text = optional_after (layer_in true) true text

-- the part of a body that encodes the layer: the number of the layer's kind, followed by the
-- encoded layer, if the device has one
unfoldable pub layer_part_text : Option Layer → List ℕ
layer_part_text layer = to_be_bytes w8 (kind_number (kind_of layer)) ++ layer_behind layer

unfoldable pub layer_part_in : List ℕ → Result (Option Layer × List ℕ) Malformed
layer_part_in text = do
  kind ← kind_in text
  layer_after kind.0 kind.1
