-- The image of a device: the state that it keeps without power, in a frame. TPM 2.0 Library, Part
-- 1, section 37, defines the contents of NV memory; the encoding is specific to this device. The
-- encoding has versions: a device of the symmetric profile writes version 2 and reads versions 1 and
-- 2; a device of the complete profile has a version of its own, with another magic word.
use Rattle.std.specs.Prelude.{◌≡◌, ℕ, ◌≤◌, ◌+◌, nat_lt, not, List, length, take, Result}
use Rattle.std.specs.Str.{bytes_eq}
use Rattle.tpm_record.specs.Record.{Record}
use Rattle.tpm_bytes.specs.Reading.{◌>>=◌, or_fault, refused_if}
use Rattle.tpm_image_text.specs.Body.{body_of, bytes_of, image_body_text}
use Rattle.tpm_image_text.specs.Frame.{digest_bytes, framed_body, framed_text, head_bytes, symmetric_word}
use Rattle.tpm_image_text.specs.NonVolatile.{NonVolatile, kept_of}
use Rattle.tpm_image_text.specs.Version.{index_limit, profile_of, space_limit, version_of}
use Rattle.tpm_image_text.specs.declared.fault.ImageFault.{ImageFault}
use Rattle.tpm_image_text.specs.declared.fault.ImageFault.TheVariants as fault
use Rattle.tpm_image_text.specs.declared.version.Version.{Version}

-- the image of a non-volatile state, in the given version
unfoldable pub image_text : Version → NonVolatile → List ℕ
image_text version kept = framed_text version (image_body_text version kept)

-- the image of a device, in the version of its profile
abbrev pub device_image : Record → List ℕ
device_image r = image_text (version_of r.fixed.profile) (kept_of r)

-- A non-volatile state fits the limits of a version.
pub record IsWithin (version : Version) (kept : NonVolatile) : Type 0 where
  pub few : length kept.indices ≤ index_limit version
  pub small : bytes_of kept.indices ≤ space_limit version
  pub profile : kept.profile ≡ profile_of version

-- The bytes are the image of a non-volatile state in this version, and the state fits the limits of
-- the version.
abbrev pub IsImage : Version → NonVolatile → List ℕ → Type 0
IsImage version kept text = IsWithin version kept × (text ≡ image_text version kept)

-- the non-volatile state that an image encodes, or the first fault of the bytes: Short, Magic,
-- Version, Length, Digest, Body
abbrev pub image_of : List ℕ → Result NonVolatile ImageFault
image_of text = do
  framed ← framed_body text
  or_fault (body_of framed.0 framed.1) fault.Body

-- the non-volatile state that an image encodes if the device is of the symmetric profile, or the first
-- fault of the bytes; the magic word of the complete profile is the fault Magic
abbrev pub symmetric_image_of : List ℕ → Result NonVolatile ImageFault
symmetric_image_of text = do
  long ← refused_if (nat_lt (length text) (head_bytes + digest_bytes)) fault.Short
  word ← refused_if (not (bytes_eq (take 4 text) symmetric_word)) fault.Magic
  image_of text
