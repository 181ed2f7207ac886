-- Images: decoding returns a non-volatile state exactly when the bytes are its image. No proper
-- prefix of an image is an image.
use Rattle.std.proofs.Common.{◌≡◌, ℕ, ◌+◌, ◌<◌, ◌≤◌, List, length, take, Result, Ok, Err, refl, ap, ◌∙◌, arith}
use Rattle.std.specs.Prelude.{◌↔◌}
use Rattle.std.proofs.lemmas.List.{length-take}
use Rattle.tpm_bytes.specs.Reading.{◌>>=◌, or_fault}
use Rattle.tpm_bytes.proofs.Fields.{AreBytes, bind_ok, or_fault_ok}
use Rattle.tpm_record.specs.Cycle.{after_cycle}
use Rattle.tpm_record.specs.IsRecord.{IsRecord}
use Rattle.tpm_record.specs.Record.{Record}
use Rattle.tpm_image_text.specs.Body.{body_of, image_body_text}
use Rattle.tpm_image_text.specs.Frame.{digest_bytes, framed_body, framed_text, head_bytes, image_format}
use Rattle.tpm_image_text.specs.Image.{IsImage, IsWithin, image_of, image_text}
use Rattle.tpm_image_text.specs.Sizes.{image_size}
use Rattle.tpm_image_text.specs.NonVolatile.{IsNonVolatile, NonVolatile, kept_of, powered_on}
use Rattle.tpm_image_text.specs.declared.fault.ImageFault.{ImageFault}
use Rattle.tpm_image_text.specs.declared.fault.ImageFault.TheVariants as fault
use Rattle.tpm_image_text.specs.declared.version.Version.{Version}
use Rattle.tpm_image_text.proofs.BodyLaws.{body_again, body_small, body_taken}
use Rattle.tpm_image_text.proofs.FrameLaws.{cut_behind, cut_short, framed_again, framed_taken, image_numbered, length-framed}

-- ---- encoding and decoding an image

-- the non-volatile state in the body, if the frame is valid
abbrev kept_by : Result (Version × List ℕ) ImageFault → Result NonVolatile ImageFault
kept_by framed = framed >>= λ said. or_fault (body_of said.0 said.1) fault.Body

pub image_again : (version : Version) (kept : NonVolatile) → IsNonVolatile kept
    → IsWithin version kept → image_of (image_text version kept) ≡ Ok kept
unfolding image_text
image_again version kept is within =
    ap kept_by (framed_again image_format image_numbered version (image_body_text version kept)
    (omega (arith, body_small version kept is)))
    ∙ ap (λ r. or_fault r fault.Body) (body_again version kept is within)

pub image_taken : (text : List ℕ) (kept : NonVolatile) → AreBytes text → image_of text ≡ Ok kept
    → (version : Version) × IsNonVolatile kept × IsImage version kept text
unfolding image_text
image_taken text kept fits e =
    let a = bind_ok (framed_body text) (λ said. or_fault (body_of said.0 said.1) fault.Body) kept
    e in
    let frame = framed_taken image_format image_numbered text a.0 fits a.1 in
    let body = body_taken a.0.0 a.0.1 kept frame.1
    (or_fault_ok (body_of a.0.0 a.0.1) fault.Body kept a.2) in
    (a.0.0, body.1, (body.2, frame.0 ∙ ap (framed_text a.0.0) body.0))

-- decoding bytes returns a non-volatile state if and only if they are its image in some version
pub image_is : (text : List ℕ) (kept : NonVolatile) → AreBytes text
    → (image_of text ≡ Ok kept) ↔ ((version : Version) × IsNonVolatile kept
    × IsImage version kept text)
image_is text kept fits =
    (image_taken text kept fits, λ is. ap image_of is.2.1 ∙ image_again is.0 kept is.1 is.2.0)

-- ---- the size of an image

pub length-image_text : (version : Version) (kept : NonVolatile)
    → length (image_text version kept) ≡ head_bytes + length (image_body_text version kept)
    + digest_bytes
unfolding image_text
length-image_text version kept = length-framed image_format version (image_body_text version kept)

pub image_small : (version : Version) (kept : NonVolatile) → IsNonVolatile kept
    → length (image_text version kept) ≤ image_size
image_small version kept is =
    omega (arith, length-image_text version kept, body_small version kept is)

-- ---- a prefix of an image

-- a prefix that is too short to contain a head and a digest is refused with Short
pub front_short : (text : List ℕ) (n : ℕ) → n < head_bytes + digest_bytes
    → image_of (take n text) ≡ Err fault.Short
front_short text n few =
    ap kept_by (cut_short image_format (take n text) (omega (arith, few, length-take n text)))

pub front_cut : (version : Version) (kept : NonVolatile) (n : ℕ) → IsNonVolatile kept
    → head_bytes + digest_bytes ≤ n → n < length (image_text version kept)
    → image_of (take n (image_text version kept)) ≡ Err fault.Length
unfolding image_text
front_cut version kept n is long less =
    let size = length-framed image_format version (image_body_text version kept) in
    ap kept_by (cut_behind image_format image_numbered version (image_body_text version kept) n
    (omega (arith, body_small version kept is)) long (omega (arith, less, size)))

-- ---- records

-- powering on with the non-volatile state of a record has the same result as a power cycle
pub powered_again : (r : Record) → powered_on (kept_of r) ≡ after_cycle r
powered_again r = refl

pub kept_is : (r : Record) → IsRecord r → IsNonVolatile (kept_of r)
kept_is r is = record {
  state = record {
    hierarchies = is.hierarchies;
    lockout = record {
      failed_tries = is.lockout.failed_tries;
      max_tries = is.lockout.max_tries;
      recovery_time = is.lockout.recovery_time;
      lockout_recovery = is.lockout.lockout_recovery;
      forgiving_time = omega arith;
      closed_time = omega arith;
    };
    clock = is.clock;
    reset_count = is.reset_count;
    restart_count = is.restart_count;
    saved = is.saved;
  };
  persistent = is.persistent;
  nv = is.nv;
}
