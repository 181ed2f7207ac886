-- The seed from which a device is created, and its encoding: random bytes, an image, or a state
-- text.
use Rattle.std.specs.Prelude.{ℕ, ◌==◌, List, length, if◌then◌else◌, Option, Some, None, Result, Ok, Err}
use Rattle.std.specs.Int.{w8, w64}
use Rattle.tpm_bytes.specs.Reading.{◌>>=◌}
use Rattle.tpm_completion.specs.Completion.{new_completion}
use Rattle.tpm_completion.specs.declared.completion.Completion.{Completion}
use Rattle.tpm_image_text.specs.Fields.{number_in}
use Rattle.tpm_image_text.specs.Image.{image_of}
use Rattle.tpm_image_text.specs.NonVolatile.{NonVolatile, powered_on}
use Rattle.tpm_image_text.specs.declared.fault.ImageFault.{ImageFault}
use Rattle.tpm_image_text.specs.declared.fault.Malformed.{Malformed}
use Rattle.tpm_record.specs.Record.{Record, manufactured}
use Rattle.tpm_snapshot.specs.Layer.{completion_of}
use Rattle.tpm_state_text.specs.Body.{WholeState}
use Rattle.tpm_state_text.specs.State.{state_of_text}
use Rattle.tpm_state_text.specs.declared.fault.StateFault.{StateFault}
use Rattle.tpm_state_text.specs.declared.layer.Layer.{Layer}
use Rattle.tpm_kept_journal.specs.State.{DeviceState}

-- a seed: its kind; the host's clock in milliseconds; a start number for the completing layer,
-- which no earlier layer had; and its content: random bytes (kind 0), an image (1) or a state text
-- (2)
pub record Seed : Type 0 where
  pub kind : ℕ
  pub now : ℕ
  pub start : ℕ
  pub content : List ℕ

-- the seed that the bytes encode: a byte for the kind, eight for the clock, eight for the start
-- number, and the content
unfoldable pub seed_in : List ℕ → Result Seed Malformed
seed_in text = do
  kind ← number_in w8 text
  now ← number_in w64 kind.1
  start ← number_in w64 now.1
  Ok (record { kind = kind.0; now = now.0; start = start.0; content = start.1 })

-- the state that consists of this device and a new completing layer
abbrev pub started_anew : Seed → Record → DeviceState
started_anew seed device =
    record { time = seed.now; layer = new_completion seed.start; device = device }

-- the state of a new device; the 256 random bytes of the seed become its secrets
abbrev pub state_made : Seed → Option DeviceState
state_made seed =
    if length seed.content == 256 then Some (started_anew seed (manufactured seed.content)) else None

-- the device that an image contains, after a power cycle
abbrev pub state_opened : Seed → Result NonVolatile ImageFault → Option DeviceState
state_opened seed (Ok kept) = Some (started_anew seed (powered_on kept))
state_opened seed (Err why) = None

-- the layer of a device that is restored from a state text. It gets a new start number, because the
-- original device may have made more contexts since, with sequence numbers that this device uses
-- again. Therefore, contexts that were made before do not load
abbrev pub layer_restored : (start : ℕ) → Option Layer → Completion
layer_restored start (Some layer) = record (completion_of (Some layer)) { start = start }
layer_restored start None = new_completion start

-- the device that a state text contains, with the completing layer in the state text, or with a new
-- layer if the state text contains none
abbrev pub state_restored : Seed → Result WholeState StateFault → Option DeviceState
state_restored seed (Ok whole) = Some (record {
  time = seed.now;
  layer = layer_restored seed.start whole.layer;
  device = whole.device;
})
state_restored seed (Err why) = None

-- the state in which a device with this seed begins; None if the seed is not valid
unfoldable pub begun_of : Seed → Option DeviceState
begun_of seed =
    if seed.kind == 0 then state_made seed
    else (if seed.kind == 1 then state_opened seed (image_of seed.content)
    else (if seed.kind == 2 then state_restored seed (state_of_text seed.content) else None))

abbrev pub begun_by : Result Seed Malformed → Option DeviceState
begun_by (Ok seed) = begun_of seed
begun_by (Err why) = None

-- the state in which a device with the encoded seed begins; None if the bytes do not encode a valid
-- seed
abbrev pub begun_in : List ℕ → Option DeviceState
begun_in text = begun_by (seed_in text)
