-- Lemmas about the images of records, and about the devices that are opened from these images.
use Rattle.std.proofs.Common.{◌≡◌, ℕ, ◌+◌, ◌<◌, ◌≤◌, Bool, List, length, take, Result, Ok, Err, IfOk, refl, sym, ap, subst, ◌∙◌, arith}
use Rattle.std.specs.Prelude.{nat_lt, not}
use Rattle.std.specs.Str.{bytes_eq}
use Rattle.std.proofs.lemmas.Bool.{le-ltb}
use Rattle.std.proofs.lemmas.Slice.Eq.{bytes_eq-Decides}
use Rattle.tpm_bytes.specs.Reading.{◌>>=◌, refused_if}
use Rattle.tpm_bytes.proofs.Fields.{AreBytes, bind_ok, ok_is}
use Rattle.tpm_record.specs.IsRecord.{IsRecord}
use Rattle.tpm_record.specs.Record.{Record}
use Rattle.tpm_image_text.specs.Body.{body_of}
use Rattle.tpm_image_text.specs.Image.{IsImage, IsWithin, image_of, image_text, symmetric_image_of}
use Rattle.tpm_image_text.specs.Frame.{digest_bytes, head_bytes, symmetric_word}
use Rattle.tpm_image_text.specs.KeptText.{kept_but_clock, kept_text}
use Rattle.tpm_image_text.specs.Sizes.{image_size}
use Rattle.tpm_image_text.specs.NonVolatile.{IsNonVolatile, NonVolatile, kept_of, powered_on}
use Rattle.tpm_image_text.specs.Opening.{Opens, OpensAgain, OpensBy, OpensSymmetric}
use Rattle.tpm_image_text.specs.declared.fault.ImageFault.{ImageFault}
use Rattle.tpm_image_text.specs.declared.fault.ImageFault.TheVariants as fault
use Rattle.tpm_image_text.specs.declared.fault.Malformed.{Malformed}
use Rattle.tpm_image_text.specs.declared.version.Version.{Version}
use Rattle.tpm_image_text.specs.declared.version.Version.TheVariants.{One, Two, CompleteOne}
use Rattle.tpm_image_text.specs.Version.{profile_of, version_of}
use Rattle.tpm_commands.specs.declared.profile.Profile.{Profile}
use Rattle.tpm_commands.specs.declared.profile.Profile.TheVariants.{Symmetric}
use Rattle.tpm_image_text.proofs.BodyLaws.{body_again, within_device}
use Rattle.tpm_image_text.proofs.ImageLaws.{front_cut, image_again, image_small, image_taken, kept_is, length-image_text}

pub record_image : (r : Record) → IsRecord r → IsImage (version_of r.fixed.profile) (kept_of r)
    (image_text (version_of r.fixed.profile) (kept_of r))
record_image r is = (within_device (kept_of r) (kept_is r is), refl)

pub record_again : (version : Version) (r : Record) → IsRecord r → IsWithin version (kept_of r)
    → image_of (image_text version (kept_of r)) ≡ Ok (kept_of r)
record_again version r is within = image_again version (kept_of r) (kept_is r is) within

pub record_small : (version : Version) (r : Record) → IsRecord r
    → length (image_text version (kept_of r)) ≤ image_size
record_small version r is = image_small version (kept_of r) (kept_is r is)

pub record_cut : (version : Version) (r : Record) (n : ℕ) → IsRecord r → 42 ≤ n
    → n < length (image_text version (kept_of r))
    → image_of (take n (image_text version (kept_of r))) ≡ Err fault.Length
record_cut version r n is long less = front_cut version (kept_of r) n (kept_is r is) long less

-- ---- the non-volatile state without Clock

without_clock : (r : Record) → IsRecord r → IsNonVolatile (kept_but_clock r)
without_clock r is =
    let kept = kept_is r is in
    record {
      state = record {
        hierarchies = kept.state.hierarchies;
        lockout = kept.state.lockout;
        clock = omega arith;
        reset_count = kept.state.reset_count;
        restart_count = kept.state.restart_count;
        saved = kept.state.saved;
      };
      persistent = kept.persistent;
      nv = kept.nv;
    }

pub kept_alike : (r s : Record) → IsRecord r → IsRecord s → r.fixed.profile ≡ s.fixed.profile
    → kept_text r ≡ kept_text s → kept_but_clock r ≡ kept_but_clock s
kept_alike r s is are alike same =
    ok_is {E = Malformed} (kept_but_clock r) (kept_but_clock s)
    (sym (again r is) ∙ ap (body_of (version_of r.fixed.profile)) same
    ∙ ap (λ (p : Profile). body_of (version_of p) (kept_text s)) alike ∙ again s are)
  where
    again : (r : Record) → IsRecord r
        → body_of (version_of r.fixed.profile) (kept_text r) ≡ Ok (kept_but_clock r)
    again r is =
        let kept = without_clock r is in
        body_again (version_of r.fixed.profile) (kept_but_clock r) kept
        (within_device (kept_but_clock r) kept)

module _ {M : Type 0} (record_of : M → Record) (can : Bool) (text : List ℕ) where
  -- bytes that can be opened are an image of the opened device's non-volatile state
  pub opened_found : (result : Result M ImageFault) → AreBytes text
      → Opens record_of can text result
      → IfOk result (λ machine. (version : Version) × (kept : NonVolatile) × IsNonVolatile kept
      × IsImage version kept text × (record_of machine ≡ powered_on kept))
  opened_found (Ok machine) fits opens =
      let t = image_taken text opens.0 fits opens.1 in
      (t.0, opens.0, t.1, t.2, opens.2)
  opened_found (Err f) fits opens = tt

  -- opening the image of a record yields the record after a power cycle, unless an allocation fails
  pub opened_only : (version : Version) (r : Record) (result : Result M ImageFault) → IsRecord r
      → IsImage version (kept_of r) text → Opens record_of can text result
      → OpensAgain record_of can r result
  opened_only version r result is image opens = by result opens
    where
      told : image_of text ≡ Ok (kept_of r)
      told = ap image_of image.1 ∙ record_again version r is image.0

      one : (kept : NonVolatile) → image_of text ≡ Ok kept → kept_of r ≡ kept
      one kept other = ok_is {E = ImageFault} (kept_of r) kept (sym told ∙ other)

      never : (f : ImageFault)
          → (let done : Result NonVolatile ImageFault = Ok (kept_of r) in done ≡ Err f) → ⊥
      never f e = absurd cc

      by : (result : Result M ImageFault) → Opens record_of can text result
          → OpensAgain record_of can r result
      by (Ok machine) opens = opens.2 ∙ ap powered_on (sym (one opens.0 opens.1))
      by (Err fault.NoMemory) opens = opens.0
      by (Err f) opens = absurd (never f (sym told ∙ opens))

-- ---- images of the symmetric profile

symmetric_read : (text : List ℕ) (kept : NonVolatile) → symmetric_image_of text ≡ Ok kept
    → image_of text ≡ Ok kept
symmetric_read text kept e =
    let a = bind_ok (refused_if (nat_lt (length text) (head_bytes + digest_bytes)) fault.Short)
    (λ long. refused_if (not (bytes_eq (take 4 text) symmetric_word)) fault.Magic
    >>= λ word. image_of text) kept e in
    (bind_ok (refused_if (not (bytes_eq (take 4 text) symmetric_word)) fault.Magic)
    (λ word. image_of text) kept a.2).2

-- bytes that begin with the magic word of the symmetric profile are read as an image of either
-- profile is
worded_same : (text : List ℕ) → head_bytes + digest_bytes ≤ length text
    → take 4 text ≡ symmetric_word → symmetric_image_of text ≡ image_of text
worded_same text long word =
    let tests = (bytes_eq-Decides (take 4 text) symmetric_word).1 word in
    rw (le-ltb (length text) (head_bytes + digest_bytes) long, tests) refl

-- the image of a record of the symmetric profile is read as such
symmetric_same : (version : Version) (r : Record) (text : List ℕ) → r.fixed.profile ≡ Symmetric
    → IsImage version (kept_of r) text → symmetric_image_of text ≡ image_of text
unfolding image_text
symmetric_same version r text profile image =
    worded_same text (long version) (ap (take 4) image.1 ∙ by version (sym image.0.profile ∙ profile))
  where
    long : (v : Version) → head_bytes + digest_bytes ≤ length text
    long v = omega (arith, ap length image.1, length-image_text version (kept_of r))

    by : (v : Version) → profile_of v ≡ Symmetric
        → take 4 (image_text v (kept_of r)) ≡ symmetric_word
    by One is = refl
    by Two is = refl
    by CompleteOne is = absurd cc

module _ {M : Type 0} (record_of : M → Record) (can : Bool) (text : List ℕ) where
  -- bytes that can be opened are an image of the opened device's non-volatile state
  pub symmetric_found : (result : Result M ImageFault) → AreBytes text
      → OpensSymmetric record_of can text result
      → IfOk result (λ machine. (version : Version) × (kept : NonVolatile) × IsNonVolatile kept
      × IsImage version kept text × (record_of machine ≡ powered_on kept))
  symmetric_found (Ok machine) fits opens =
      opened_found record_of can text (Ok machine) fits
      (opens.0, symmetric_read text opens.0 opens.1, opens.2)
  symmetric_found (Err f) fits opens = tt

  -- opening the image of a record of the symmetric profile yields the record after a power cycle,
  -- unless an allocation fails
  pub symmetric_only : (version : Version) (r : Record) (result : Result M ImageFault) → IsRecord r
      → r.fixed.profile ≡ Symmetric → IsImage version (kept_of r) text
      → OpensSymmetric record_of can text result → OpensAgain record_of can r result
  symmetric_only version r result is profile image opens =
      opened_only record_of can text version r result is image
      (subst (λ (read : Result NonVolatile ImageFault). OpensBy record_of can read result)
      (symmetric_same version r text profile image) opens)
