-- The body of a state text: the body of the device's image, followed by the state that a power
-- cycle would clear (TPM 2.0 Library, Part 1, section 12.2.2, _TPM_Init, and docs/table/README.md,
-- "Events"), and by the state of the completing layer, if the device has this layer.
use Rattle.std.specs.Prelude.{ℕ, nat_lt, ◌^◌, Bool, List, ◌++◌, IfSome, Option, Result, Ok}
use Rattle.std.specs.Int.{w64, to_be_bytes}
use Rattle.tpm_bytes.specs.Reading.{◌>>=◌}
use Rattle.tpm_image_text.specs.Body.{image_body_text, kept_in}
use Rattle.tpm_image_text.specs.Fields.{filling, number_in, passing, yes_no_in, yes_no_text}
use Rattle.tpm_image_text.specs.NonVolatile.{NonVolatile, kept_of, nv_of}
use Rattle.tpm_image_text.specs.declared.fault.Malformed.{Malformed}
use Rattle.tpm_commands.specs.declared.profile.Profile.{Profile}
use Rattle.tpm_image_text.specs.Version.{version_of}
use Rattle.tpm_lockout.specs.Lockout.{milliseconds}
use Rattle.tpm_record.specs.IsRecord.{IsRecord}
use Rattle.tpm_record.specs.Record.{Record}
use Rattle.tpm_state_text.specs.Banks.{banks_in, banks_text}
use Rattle.tpm_state_text.specs.Layer.{IsLayer, layer_part_in, layer_part_text}
use Rattle.tpm_state_text.specs.declared.layer.Layer.{Layer}
use Rattle.tpm_state_text.specs.Objects.{transients_in, transients_text}
use Rattle.tpm_state_text.specs.Sessions.{sessions_in, sessions_text}

-- the whole state of a device: its record, and the state of its completing layer, if the device has
-- this layer
pub record WholeState : Type 0 where
  pub device : Record
  pub layer : Option Layer

-- A device can have this state: each of its parts has an allowed size, and each number fits its
-- integer type.
pub record IsWholeState (state : WholeState) : Type 0 where
  pub device : IsRecord state.device
  pub layer : IfSome state.layer IsLayer

-- ---- what a power cycle clears

-- whether a lockout timer, in milliseconds, is less than 2^32 seconds
abbrev pub is_lockout_time : ℕ → Bool
is_lockout_time time = nat_lt time (milliseconds (2 ^ 32))

unfoldable pub lockout_time_in : List ℕ → Result (ℕ × List ℕ) Malformed
lockout_time_in text = passing is_lockout_time (number_in w64) text

-- the encoding of the state that a power cycle clears: whether the device is started; the banks;
-- Time; both lockout timers; the sessions; and the transient objects
unfoldable pub volatile_text : Record → List ℕ
volatile_text r =
    yes_no_text r.fixed.started ++ banks_text r.fixed.banks
    ++ to_be_bytes w64 r.fixed.time
    ++ to_be_bytes w64 r.fixed.lockout.forgiving_time
    ++ to_be_bytes w64 r.fixed.lockout.closed_time
    ++ sessions_text r.sessions ++ transients_text r.objects

-- decodes the state that a power cycle clears, and returns the whole device; `kept` is the rest of
-- the device's state
unfoldable pub resumed_in : NonVolatile → List ℕ → Result (Record × List ℕ) Malformed
resumed_in kept text = do
  started ← yes_no_in text
  banks ← banks_in started.1
  time ← number_in w64 banks.1
  forgiving_time ← lockout_time_in time.1
  closed_time ← lockout_time_in forgiving_time.1
  sessions ← sessions_in closed_time.1
  objects ← transients_in sessions.1
  Ok (
    record {
      fixed = record {
        started = started.0;
        saved = kept.state.saved;
        hierarchies = kept.state.hierarchies;
        disable_clear = kept.state.disable_clear;
        lockout = record {
          fields = kept.state.lockout;
          forgiving_time = forgiving_time.0;
          closed_time = closed_time.0;
        };
        banks = banks.0;
        time = time.0;
        clock = kept.state.clock;
        reset_count = kept.state.reset_count;
        restart_count = kept.state.restart_count;
        profile = kept.profile;
      };
      sessions = sessions.0;
      objects = objects.0;
      persistent = kept.persistent;
      nv = nv_of kept;
    },
    objects.1,
  )

-- ---- the device

-- the encoding of a device of this profile: the body of its image, followed by the state that a power
-- cycle clears
unfoldable pub device_text : Profile → Record → List ℕ
device_text profile r = image_body_text (version_of profile) (kept_of r) ++ volatile_text r

unfoldable pub device_in : Profile → List ℕ → Result (Record × List ℕ) Malformed
device_in profile text = do
  kept ← kept_in (version_of profile) text
  resumed_in kept.0 kept.1

-- ---- the body

-- the encoding of a body: the encoded device of this profile, followed by the encoded layer, or no
-- layer
unfoldable pub body_text : Profile → WholeState → List ℕ
body_text profile state = device_text profile state.device ++ layer_part_text state.layer

unfoldable pub body_in : Profile → List ℕ → Result (WholeState × List ℕ) Malformed
body_in profile text = do
  device ← device_in profile text
  layer ← layer_part_in device.1
  Ok (record { device = device.0; layer = layer.0 }, layer.1)

-- the state that a body encodes, if the device is of this profile; a body with more bytes after the
-- state is malformed
unfoldable pub state_of_body : Profile → List ℕ → Result WholeState Malformed
state_of_body profile text = filling (body_in profile) text
