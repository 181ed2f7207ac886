-- Decoding returns a state exactly when the bytes are the body of its state text.
use Rattle.std.proofs.Common.{◌≡◌, ℕ, ◌^◌, ◌<◌, Bool, List, [], ◌++◌, length, Option, Ok, refl, subst, ◌∙◌, append_assoc, append-nil, arith}
use Rattle.std.specs.Int.{w64, to_be_bytes}
use Rattle.std.proofs.lemmas.Bool.{lt-ltb, ltb-true}
use Rattle.tpm_bytes.proofs.Fields.{AreBytes}
use Rattle.tpm_lockout.specs.Lockout.{IsLockout, milliseconds}
use Rattle.tpm_object.specs.Object.{IsObject}
use Rattle.tpm_containers.specs.Slots.{AreAll}
use Rattle.tpm_types_common.specs.Limits.{object_limit}
use Rattle.tpm_object.specs.declared.object.Object.{Object}
use Rattle.tpm_pcr.specs.Values.{BankValues, IsBank, IsBanks}
use Rattle.tpm_record.specs.IsRecord.{IsRecord}
use Rattle.tpm_record.specs.Record.{Record}
use Rattle.tpm_session.specs.declared.session.Session.{Session}
use Rattle.tpm_types_common.proofs.Spelled.{Spelled, all_read, first, respelled, then, two_texts}
use Rattle.tpm_image_text.specs.Body.{image_body_text}
use Rattle.tpm_image_text.specs.Fields.{yes_no_text}
use Rattle.tpm_image_text.specs.NonVolatile.{NonVolatile, kept_of, nv_of}
use Rattle.tpm_commands.specs.declared.profile.Profile.{Profile}
use Rattle.tpm_commands.specs.declared.profile.Profile.TheVariants.{Symmetric, Complete}
use Rattle.tpm_image_text.specs.Image.{IsWithin}
use Rattle.tpm_image_text.specs.Version.{profile_of, version_of}
use Rattle.tpm_image_text.proofs.FieldSpelling.{bytes_spelled, filling_again, filling_taken, number_in_spelled, passing_spelled, three_texts, wide64, yes_no_spelled}
use Rattle.tpm_image_text.proofs.BodyLaws.{kept_spelled, within_device}
use Rattle.tpm_image_text.proofs.ImageLaws.{kept_is}
use Rattle.tpm_image_text.proofs.ObjectLaws.{object_fields_spelled}
use Rattle.tpm_state_text.specs.Banks.{bank_in, bank_text, banks_in, banks_text}
use Rattle.tpm_state_text.specs.Body.{IsWholeState, WholeState, body_in, body_text, device_in, device_text, is_lockout_time, lockout_time_in, resumed_in, state_of_body, volatile_text}
use Rattle.tpm_state_text.specs.Layer.{layer_part_text}
use Rattle.tpm_state_text.specs.declared.layer.Layer.{Layer}
use Rattle.tpm_state_text.specs.Objects.{transients_in, transients_text}
use Rattle.tpm_state_text.specs.Sessions.{sessions_text}
use Rattle.tpm_state_text.proofs.LayerLaws.{all_spelled, layer_part_spelled}
use Rattle.tpm_state_text.proofs.PlaceLaws.{places_spelled}
use Rattle.tpm_state_text.proofs.SessionLaws.{sessions_spelled}

-- ---- the banks

bank_spelled : (size : ℕ) → Spelled bank_text (IsBank size) (bank_in size)
unfolding bank_in
bank_spelled size = all_spelled 24 (bytes_spelled size)

abbrev bank_fields : BankValues → (List (List ℕ) × List (List ℕ)) × ℕ
bank_fields b = ((b.sha1, b.sha256), b.update_count)

abbrev banks_of : (List (List ℕ) × List (List ℕ)) × ℕ → BankValues
banks_of f = record { sha1 = f.0.0; sha256 = f.0.1; update_count = f.1 }

banks_spelled : Spelled banks_text IsBanks banks_in
unfolding banks_in banks_text
banks_spelled =
    respelled
    (first (bank_spelled 20)
    (then (bank_spelled 32)
    (then (number_in_spelled w64 (2 ^ 64) wide64)
    (all_read bank_fields banks_of (λ _. refl) (λ _. refl)))))
    (λ b. three_texts (bank_text b.sha1) (bank_text b.sha256) (to_be_bytes w64 b.update_count))
    (λ b is. record { sha1 = is.0; sha256 = is.1.0; count = is.1.1.0 })
    (λ b is. (is.sha1, (is.sha256, (is.count, tt))))

-- ---- lockout timers

lockout_time_spelled : Spelled (to_be_bytes w64) (λ n. n < milliseconds (2 ^ 32)) lockout_time_in
unfolding lockout_time_in
lockout_time_spelled =
    respelled (passing_spelled is_lockout_time (number_in_spelled w64 (2 ^ 64) wide64)) (λ n. refl)
    (λ n is. ltb-true n (milliseconds (2 ^ 32)) is.1)
    (λ n few. (omega (arith, few), lt-ltb n (milliseconds (2 ^ 32)) few))

-- ---- transient objects

transients_spelled : Spelled transients_text
    (λ objects. (length objects ≡ object_limit) × AreAll IsObject objects) transients_in
unfolding transients_in transients_text
transients_spelled = places_spelled object_fields_spelled object_limit

-- ---- the device

abbrev Fields : Type 0
Fields = ((((((NonVolatile × Bool) × BankValues) × ℕ) × ℕ) × ℕ) × List (Option Session))
    × List (Option Object)

abbrev fields_of : Record → Fields
fields_of r = (
  (
    (
      (
        (((kept_of r, r.fixed.started), r.fixed.banks), r.fixed.time),
        r.fixed.lockout.forgiving_time,
      ),
      r.fixed.lockout.closed_time,
    ),
    r.sessions,
  ),
  r.objects,
)

abbrev record_of : Fields → Record
record_of f =
    let state = f.0.0.0.0.0.0.0.state in
    record {
      fixed = record {
        started = f.0.0.0.0.0.0.1;
        saved = state.saved;
        hierarchies = state.hierarchies;
        disable_clear = state.disable_clear;
        lockout = record {
          fields = state.lockout;
          forgiving_time = f.0.0.0.1;
          closed_time =
              f.0.0.1;
        };
        banks = f.0.0.0.0.0.1;
        time = f.0.0.0.0.1;
        clock = state.clock;
        reset_count = state.reset_count;
        restart_count = state.restart_count;
        profile = f.0.0.0.0.0.0.0.profile;
      };
      sessions = f.0.1;
      objects = f.1;
      persistent = f.0.0.0.0.0.0.0.persistent;
      nv = nv_of f.0.0.0.0.0.0.0;
    }

-- the non-volatile state of a device of this profile fits the version of this profile
within_profile : (profile : Profile) (r : Record) → IsRecord r → r.fixed.profile ≡ profile
    → IsWithin (version_of profile) (kept_of r)
within_profile profile r is same =
    subst (λ (p : Profile). IsWithin (version_of p) (kept_of r)) same
    (within_device (kept_of r) (kept_is r is))

-- the version of a profile is that of devices of this profile
profile_again : (profile : Profile) → profile_of (version_of profile) ≡ profile
profile_again Symmetric = refl
profile_again Complete = refl

-- A record is of this profile, and a device can have it.
pub record IsOf (profile : Profile) (r : Record) : Type 0 where
  pub device : IsRecord r
  pub same : r.fixed.profile ≡ profile

pub device_spelled : (profile : Profile)
    → Spelled (device_text profile) (IsOf profile) (device_in profile)
unfolding device_in resumed_in device_text volatile_text
device_spelled profile =
    let places =
    then sessions_spelled
    (then transients_spelled (all_read fields_of record_of (λ _. refl) (λ _. refl))) in
    let times = then (number_in_spelled w64 (2 ^ 64) wide64)
    (then lockout_time_spelled (then lockout_time_spelled places)) in
    respelled (first (kept_spelled (version_of profile)) (then yes_no_spelled (then banks_spelled times)))
    (λ r. parts (image_body_text (version_of profile) (kept_of r)) (yes_no_text r.fixed.started)
    (banks_text r.fixed.banks) (to_be_bytes w64 r.fixed.time)
    (to_be_bytes w64 r.fixed.lockout.forgiving_time)
    (to_be_bytes w64 r.fixed.lockout.closed_time) (sessions_text r.sessions)
    (transients_text r.objects))
    (λ r is.
    let kept = is.0.0.state in
    let times = is.1.1.1 in
    let sessions = times.1.1.1.0 in
    let objects = times.1.1.1.1.0 in
    let lockout : IsLockout r.fixed.lockout =
    record {
      failed_tries = kept.lockout.failed_tries;
      max_tries =
          kept.lockout.max_tries;
      recovery_time = kept.lockout.recovery_time;
      lockout_recovery =
          kept.lockout.lockout_recovery;
      forgiving_time = times.1.0;
      closed_time = times.1.1.0;
    } in
    record {
      device = record {
        saved = kept.saved;
        hierarchies = kept.hierarchies;
        lockout = lockout;
        banks = is.1.1.0;
        sessions = sessions.0;
        each_session = sessions.1;
        objects = objects.0;
        each_object = objects.1;
        persistent = is.0.0.persistent;
        nv = is.0.0.nv;
        time = times.0;
        clock = kept.clock;
        reset_count = kept.reset_count;
        restart_count = kept.restart_count;
      };
      same = is.0.1.profile ∙ profile_again profile;
    })
    (λ r of. let is = of.device in (
      (kept_is r is, within_profile profile r is of.same),
      (
        tt,
        (
          is.banks,
          (
            is.time,
            (
              is.lockout.forgiving_time,
              (
                is.lockout.closed_time,
                ((is.sessions, is.each_session), ((is.objects, is.each_object), tt)),
              ),
            ),
          ),
        ),
      ),
    ))
  where
    parts : (kept a b c d e f g : List ℕ) → kept ++ (a ++ b ++ c ++ d ++ e ++ f ++ g)
        ≡ kept ++ (a ++ (b ++ (c ++ (d ++ (e ++ (f ++ (g ++ [])))))))
    parts kept a b c d e f g = simp (append_assoc, append-nil) refl

-- ---- the body

abbrev state_fields : WholeState → Record × Option Layer
state_fields s = (s.device, s.layer)

abbrev state_of : Record × Option Layer → WholeState
state_of f = record { device = f.0; layer = f.1 }

-- A device of this profile can have this state.
pub record IsStateOf (profile : Profile) (state : WholeState) : Type 0 where
  pub whole : IsWholeState state
  pub same : state.device.fixed.profile ≡ profile

body_spelled : (profile : Profile)
    → Spelled (body_text profile) (IsStateOf profile) (body_in profile)
unfolding body_in body_text
body_spelled profile =
    respelled
    (first (device_spelled profile)
    (then layer_part_spelled (all_read state_fields state_of (λ _. refl) (λ _. refl))))
    (λ s. two_texts (device_text profile s.device) (layer_part_text s.layer))
    (λ s is. record {
      whole = record { device = is.0.device; layer = is.1.0 };
      same = is.0.same;
    })
    (λ s is. (
      record { device = is.whole.device; same = is.same },
      (is.whole.layer, tt),
    ))

pub body_taken : (profile : Profile) (text : List ℕ) (state : WholeState) → AreBytes text
    → state_of_body profile text ≡ Ok state
    → (text ≡ body_text profile state) × IsStateOf profile state
unfolding state_of_body
body_taken profile text state fits e = filling_taken (body_spelled profile) text state fits e

pub body_again : (profile : Profile) (state : WholeState) → IsStateOf profile state
    → state_of_body profile (body_text profile state) ≡ Ok state
unfolding state_of_body
body_again profile state is = filling_again (body_spelled profile) state is
