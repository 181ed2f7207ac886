-- The frame of a state text: like the frame of an image, but with its own magic word, versions and
-- faults. The format is specific to this device (docs/table/state_text.md).
use Rattle.std.specs.Prelude.{ℕ, List}
use Rattle.std.specs.Str.{bytes_eq}
use Rattle.tpm_image_text.specs.Frame.{Format, framed_in, word_of}
use Rattle.tpm_state_text.specs.Version.{state_version_number, state_version_numbered}
use Rattle.tpm_state_text.specs.declared.fault.StateFault.{StateFault}
use Rattle.tpm_state_text.specs.declared.fault.StateFault.TheVariants as fault
use Rattle.tpm_state_text.specs.declared.version.StateVersion.{StateVersion}

-- the last letter of the magic word of a state text, TPMS
abbrev pub state_letter : ℕ
state_letter = 0x53

-- the format of a state text
abbrev pub state_format : Format StateVersion StateFault
state_format = record {
  letter = λ version. state_letter;
  number = state_version_number;
  is_word = λ word. bytes_eq word (word_of state_letter);
  numbered = λ word number. state_version_numbered number;
  short = fault.Short;
  magic = fault.Magic;
  version = fault.Version;
  whole = fault.Length;
  digest = fault.Digest;
}

-- the body of a state text, in the frame of this version
abbrev pub framed_state : StateVersion → List ℕ → List ℕ
framed_state version body = framed_in state_format version body
