-- The state text of a device: its complete state, as bytes. A device that is restored from these
-- bytes continues from the same state. TPM 2.0 Library, Part 1, section 12.2, defines the state of
-- a TPM; the encoding is specific to this device (docs/table/state_text.md). The version of the
-- encoding says of which profile the device is.
use Rattle.std.specs.Prelude.{◌≡◌, ℕ, List, length, take, drop, ok_or, Result}
use Rattle.tpm_bytes.specs.Reading.{◌>>=◌, or_fault}
use Rattle.tpm_image_text.specs.Frame.{head_bytes, within_frame}
use Rattle.tpm_state_text.specs.Body.{WholeState, body_text, state_of_body}
use Rattle.tpm_state_text.specs.Frame.{framed_state, state_format}
use Rattle.tpm_state_text.specs.Version.{state_profile, state_version_of}
use Rattle.tpm_state_text.specs.declared.fault.StateFault.{StateFault}
use Rattle.tpm_state_text.specs.declared.fault.StateFault.TheVariants as fault

-- the state text of a device, in the version of its profile
unfoldable pub state_text : WholeState → List ℕ
state_text state =
    framed_state (state_version_of state.device.fixed.profile)
    (body_text state.device.fixed.profile state)

-- the state that the bytes encode, or the first fault found in the bytes: Short, Magic, Version,
-- Length, Digest, Earlier (version 1), Body
abbrev pub state_of_text : List ℕ → Result WholeState StateFault
state_of_text text = do
  framed ← within_frame state_format text
  profile ← ok_or (state_profile framed.0) fault.Earlier
  or_fault (state_of_body profile framed.1) fault.Body

-- The bytes `part` directly follow the head of a state text.
abbrev pub HasBehindHead : (text part : List ℕ) → Type 0
HasBehindHead text part = take (length part) (drop head_bytes text) ≡ part
