-- Lemmas about opening an image: how the frame and the body of the bytes determine the result.
use Rattle.std.proofs.Common.{◌≡◌, ℕ, Bool, true, false, List, length, Option, Some, None, Result, Ok, Err, refl}
use Rattle.std.specs.Prelude.{◌==◌, is_ok, nat_lt, not, ok_or, take}
use Rattle.std.specs.Str.{bytes_eq}
use Rattle.tpm_bytes.specs.Reading.{◌>>=◌, or_fault, refused_if}
use Rattle.tpm_mac.specs.Digest.{hash_of}
use Rattle.tpm_mac.specs.declared.algorithm.HashAlg.TheVariants.{Sha256}
use Rattle.tpm_record.specs.Record.{Record}
use Rattle.tpm_image_text.specs.Body.{body_of}
use Rattle.tpm_image_text.specs.Frame.{before_digest, within_frame, digest_of, framed_body, image_version, is_image_word, length_of, number_of}
use Rattle.tpm_image_text.specs.Image.{image_of}
use Rattle.tpm_image_text.specs.NonVolatile.{NonVolatile}
use Rattle.tpm_image_text.specs.Opening.{Opens}
use Rattle.tpm_image_text.specs.declared.fault.ImageFault.{ImageFault}
use Rattle.tpm_image_text.specs.declared.fault.ImageFault.TheVariants as fault
use Rattle.tpm_image_text.specs.declared.fault.Malformed.{Malformed}
use Rattle.tpm_image_text.specs.declared.version.Version.{Version}

-- decoding the frame never returns NoMemory
frame_fits : (text : List ℕ) → framed_body text ≡ Err fault.NoMemory → ⊥
unfolding within_frame
frame_fits text is =
    by (nat_lt (length text) 42) (not (is_image_word (take 4 text)))
    (image_version (take 4 text) (number_of text)) (not (length_of text == length text))
    (not (bytes_eq (hash_of Sha256 (before_digest text)) (digest_of text))) _ is
  where
    by : (a b : Bool) (c : Option Version) (d e : Bool) (body : List ℕ)
        → (refused_if a fault.Short >>= λ long. refused_if b fault.Magic
        >>= λ word. ok_or c fault.Version >>= λ version. refused_if d fault.Length
        >>= λ whole. refused_if e fault.Digest >>= λ digest. let said : Version × List ℕ =
        (version, body) in Ok said) ≡ Err fault.NoMemory → ⊥
    by true b c d e body is = absurd cc
    by false true c d e body is = absurd cc
    by false false None d e body is = absurd cc
    by false false (Some version) true e body is = absurd cc
    by false false (Some version) false true body is = absurd cc
    by false false (Some version) false false body is = absurd cc

module _ {M : Type 0} (record_of : M → Record) (can : Bool) where
  pub unframed : (text : List ℕ) (f : ImageFault) → framed_body text ≡ Err f
      → Opens record_of can text (Err f)
  unframed text fault.NoMemory is = absurd (frame_fits text is)
  unframed text f is = rw is refl

-- if the body in a frame encodes a state, the framed bytes are an image
pub is_image : (text : List ℕ) (version : Version) (body : List ℕ)
    → framed_body text ≡ Ok (version, body) → is_ok (body_of version body) ≡ true
    → (kept : NonVolatile) × (image_of text ≡ Ok kept)
is_image text version body framed ok = rw framed (by (body_of version body) ok)
  where
    by : (r : Result NonVolatile Malformed) → is_ok r ≡ true
        → (kept : NonVolatile) × (or_fault r fault.Body ≡ Ok kept)
    by (Ok kept) is = (kept, refl)
    by (Err f) is = absurd cc
