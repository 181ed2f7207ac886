-- The state text of a device encodes the state that the device keeps without power, and the state
-- that a power cycle clears. Together, these two parts are the record of the restored device.
use Rattle.std.proofs.Common.{◌≡◌, ℕ, Bool, List, Option, Ok, refl}
use Rattle.tpm_image_text.specs.NonVolatile.{kept_of}
use Rattle.tpm_lockout.specs.Lockout.{LockoutState}
use Rattle.tpm_lockout.specs.declared.fields.LockoutFields.{LockoutFields}
use Rattle.tpm_object.specs.declared.object.Object.{Object}
use Rattle.tpm_pcr.specs.Values.{BankValues}
use Rattle.tpm_record.specs.Record.{Record}
use Rattle.tpm_record.specs.declared.fixed.Fixed.{Fixed}
use Rattle.tpm_session.specs.declared.session.Session.{Session}
use Rattle.tpm_state_text.specs.Banks.{banks_in}
use Rattle.tpm_state_text.specs.Body.{lockout_time_in, resumed_in}
use Rattle.tpm_state_text.specs.Objects.{transients_in}
use Rattle.tpm_state_text.specs.Sessions.{sessions_in}
use Rattle.tpm_image_text.specs.Fields.{number_in, yes_no_in}
use Rattle.std.specs.Int.{w64}

-- reading one field after another of the state that a power cycle clears yields the device that the
-- bytes encode
pub resumes : (r : Record) (old : Fixed) (lockout : LockoutState) (fields : LockoutFields)
    (started : Bool) (banks : BankValues) (time forgiving_time closed_time : ℕ)
    (sessions : List (Option Session)) (objects : List (Option Object)) (new : Record)
    (text behind_started behind_banks behind_time behind_forgiving behind_closed behind_sessions
    rest : List ℕ) → old ≡ r.fixed → fields ≡ old.lockout.fields
    → lockout ≡ record {
      fields = fields;
      forgiving_time = forgiving_time;
      closed_time =
          closed_time;
    }
    → new ≡ record r {
      fixed =
          record old { started = started; banks = banks; time = time; lockout = lockout };
      sessions =
          sessions;
      objects = objects;
    } → yes_no_in text ≡ Ok (started, behind_started)
    → banks_in behind_started ≡ Ok (banks, behind_banks)
    → number_in w64 behind_banks ≡ Ok (time, behind_time)
    → lockout_time_in behind_time ≡ Ok (forgiving_time, behind_forgiving)
    → lockout_time_in behind_forgiving ≡ Ok (closed_time, behind_closed)
    → sessions_in behind_closed ≡ Ok (sessions, behind_sessions)
    → transients_in behind_sessions ≡ Ok (objects, rest)
    → resumed_in (kept_of r) text ≡ Ok (new, rest)
unfolding resumed_in
resumes r old lockout fields started banks time forgiving_time closed_time sessions objects new text
    behind_started behind_banks behind_time behind_forgiving behind_closed behind_sessions rest is
    same made written first second third fourth fifth sixth seventh =
    rw (written, made, same, is, first, second, third, fourth, fifth, sixth, seventh) refl
