-- What a new device has from its seed.
use Rattle.std.specs.Prelude.{◌≡◌, ℕ, ◌<◌, List, length, Some, None, Ok}
use Rattle.tpm_completion.specs.Completion.{new_completion}
use Rattle.tpm_image_text.specs.Image.{image_of}
use Rattle.tpm_image_text.specs.NonVolatile.{NonVolatile, powered_on}
use Rattle.tpm_record.specs.Record.{manufactured}
use Rattle.tpm_state_text.specs.Body.{WholeState}
use Rattle.tpm_state_text.specs.State.{state_of_text}
use Rattle.tpm_kept_journal.specs.Seed.{Seed, begun_of, layer_restored}

-- a seed of this kind
abbrev pub seed_of : (kind now start : ℕ) → (content : List ℕ) → Seed
seed_of kind now start content =
    record { kind = kind; now = now; start = start; content = content }

-- Kind 0: a device is manufactured from exactly the 256 random bytes of the seed.
abbrev pub MadeOfRandom : Type 0
MadeOfRandom = (now start : ℕ) (random : List ℕ) → length random ≡ 256
    → begun_of (seed_of 0 now start random)
    ≡ Some (record {
      time = now;
      layer = new_completion start;
      device = manufactured random;
    })

-- Kind 1: the device is the one in the image, after a power cycle.
abbrev pub OpenedFromImage : Type 0
OpenedFromImage = (now start : ℕ) (image : List ℕ) (kept : NonVolatile) → image_of image ≡ Ok kept
    → begun_of (seed_of 1 now start image)
    ≡ Some (record {
      time = now;
      layer = new_completion start;
      device = powered_on kept;
    })

-- Kind 2: the device is the one in the state text, unchanged.
abbrev pub RestoredFromState : Type 0
RestoredFromState = (now start : ℕ) (text : List ℕ) (whole : WholeState)
    → state_of_text text ≡ Ok whole
    → begun_of (seed_of 2 now start text)
    ≡ Some (record {
      time = now;
      layer = layer_restored start whole.layer;
      device = whole.device;
    })

-- A seed of another kind makes no device.
abbrev pub NoOtherKind : Type 0
NoOtherKind = (kind now start : ℕ) (content : List ℕ) → 2 < kind
    → begun_of (seed_of kind now start content) ≡ None
