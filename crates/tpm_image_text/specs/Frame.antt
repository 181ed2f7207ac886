-- The frame of an image or of a state text: a head before the body, and a digest after both. The
-- formats are specific to this device.
use Rattle.std.specs.Prelude.{ℕ, ◌+◌, ◌-◌, ◌==◌, nat_lt, not, ◌||◌, Bool, List, [], ◌∷◌, ◌++◌, length, take, drop}
use Rattle.std.specs.Prelude.{ok_or, Option, Result, Ok}
use Rattle.std.specs.Int.{w16, w32, from_be_bytes, to_be_bytes}
use Rattle.std.specs.Str.{bytes_eq}
use Rattle.tpm_bytes.specs.Reading.{◌>>=◌, refused_if}
use Rattle.tpm_mac.specs.Digest.{hash_of}
use Rattle.tpm_mac.specs.declared.algorithm.HashAlg.TheVariants.{Sha256}
use Rattle.tpm_image_text.specs.Version.{complete_letter, symmetric_letter, version_letter, version_number, version_numbered}
use Rattle.tpm_image_text.specs.declared.fault.ImageFault.{ImageFault}
use Rattle.tpm_image_text.specs.declared.fault.ImageFault.TheVariants as fault
use Rattle.tpm_image_text.specs.declared.version.Version.{Version}

-- a format of framed bytes: the last letter of each version's magic word, and the version's number;
-- whether a word is a magic word of the format; the version with a magic word and a number; and the
-- faults in the order of the checks; `whole` is the fault of a wrong length
pub record Format (V E : Type 0) : Type 0 where
  pub letter : V → ℕ
  pub number : V → ℕ
  pub is_word : List ℕ → Bool
  pub numbered : (word : List ℕ) → ℕ → Option V
  pub short : E
  pub magic : E
  pub version : E
  pub whole : E
  pub digest : E

-- the magic word at the beginning of a frame: TPM and the letter of the format
abbrev pub word_of : ℕ → List ℕ
word_of letter = 0x54 ∷ 0x50 ∷ 0x4d ∷ letter ∷ []

-- the head of a frame: the magic word, the number of the version, and the size of the whole frame
abbrev pub head_in : {V E : Type 0} → Format V E → V → (whole : ℕ) → List ℕ
head_in format version whole =
    word_of (format.letter version)
    ++ to_be_bytes w16 (format.number version) ++ to_be_bytes w32 whole

abbrev pub head_bytes : ℕ
head_bytes = 10

abbrev pub digest_bytes : ℕ
digest_bytes = 32

-- bytes followed by their digest
abbrev pub digested_text : List ℕ → List ℕ
digested_text text = text ++ hash_of Sha256 text

-- a body in its frame: the head before it, and the digest of both after it
abbrev pub framed_in : {V E : Type 0} → Format V E → V → List ℕ → List ℕ
framed_in format version body =
    digested_text (head_in format version (head_bytes + length body + digest_bytes) ++ body)

-- ---- the parts of framed bytes, by their offsets

-- the version's number in the head of a frame
abbrev pub number_of : List ℕ → ℕ
number_of text = from_be_bytes w16 (take 2 (drop 4 text))

abbrev pub length_of : List ℕ → ℕ
length_of text = from_be_bytes w32 (take 4 (drop 6 text))

-- the part of a frame before the digest
abbrev pub before_digest : List ℕ → List ℕ
before_digest text = take (length text - digest_bytes) text

-- the digest at the end of a frame
abbrev pub digest_of : List ℕ → List ℕ
digest_of text = drop (length text - digest_bytes) text

-- the version and the body in a frame, or the first fault of the frame
unfoldable pub within_frame : {V E : Type 0} → Format V E → List ℕ → Result (V × List ℕ) E
within_frame format text = do
  long ← refused_if (nat_lt (length text) (head_bytes + digest_bytes)) format.short
  word ← refused_if (not (format.is_word (take 4 text))) format.magic
  version ← ok_or (format.numbered (take 4 text) (number_of text)) format.version
  whole ← refused_if (not (length_of text == length text)) format.whole
  digest ← refused_if
      (not (bytes_eq (hash_of Sha256 (before_digest text)) (digest_of text))) format.digest
  Ok (version, drop head_bytes (before_digest text))

-- ---- the frame of an image

-- the magic words of images: TPMI, and TPMC for a device of the complete profile
abbrev pub symmetric_word : List ℕ
symmetric_word = word_of symmetric_letter

abbrev pub complete_word : List ℕ
complete_word = word_of complete_letter

abbrev pub is_image_word : List ℕ → Bool
is_image_word word = bytes_eq word symmetric_word || bytes_eq word complete_word

abbrev pub image_version : (word : List ℕ) → ℕ → Option Version
image_version word number = version_numbered (bytes_eq word complete_word) number

abbrev pub image_format : Format Version ImageFault
image_format = record {
  letter = version_letter;
  number = version_number;
  is_word = is_image_word;
  numbered = image_version;
  short = fault.Short;
  magic = fault.Magic;
  version = fault.Version;
  whole = fault.Length;
  digest = fault.Digest;
}

-- the head of an image: the magic word, the number of the version, and the size of the whole image
abbrev pub head_text : Version → (whole : ℕ) → List ℕ
head_text version whole = head_in image_format version whole

-- the body of an image, in its frame
abbrev pub framed_text : Version → List ℕ → List ℕ
framed_text version body = framed_in image_format version body

-- the version and the body of an image, or the first fault of the frame
abbrev pub framed_body : List ℕ → Result (Version × List ℕ) ImageFault
framed_body text = within_frame image_format text
