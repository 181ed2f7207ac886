-- TPM2_StartAuthSession. TPM 2.0 Library, Part 3, section 11.1, and Part 1, section 19.6.
use Rattle.tpm_types_common.specs.declared.action_check.ActionCheck.TheVariants as action
use Rattle.std.specs.Prelude.{ℕ, ◌==◌, not, Bool, false, List, length, take, Option, Some, None, if◌then◌else◌, Result, Ok, ok_or, slice_set}
use Rattle.tpm_bytes.specs.Reading.{◌>>=◌, refused_if}
use Rattle.tpm_mac.specs.declared.algorithm.HashAlg.{HashAlg}
use Rattle.tpm_containers.specs.Slots.{lowest_free}
use Rattle.tpm_session.specs.declared.session.Binding.{Binding}
use Rattle.tpm_session.specs.declared.session.Session.{Session}
use Rattle.tpm_types_common.specs.declared.session_type.SessionType.{SessionType}
use Rattle.tpm_session.specs.Key.{is_nonce_size}
use Rattle.tpm_session.specs.Sessions.{handle_of, new_session}
use Rattle.tpm_types_common.specs.declared.handle.Handle.{Handle}
use Rattle.tpm_types_common.specs.declared.rc.ResponseCode.TheVariants as code
use Rattle.tpm_types_common.specs.declared.symmetric.SymmetricDefinition.{SymmetricDefinition}
use Rattle.tpm_types_common.specs.Buffer.{buffer_at}
use Rattle.tpm_types_common.specs.Handle.{null_handle}
use Rattle.tpm_types_common.specs.Rc.{plain}
use Rattle.tpm_types_common.specs.SessionType.{session_type_at}
use Rattle.tpm_types_common.specs.Algorithm.{hash_at, hash_number}
use Rattle.tpm_types_common.specs.Symmetric.{symmetric_at}
use Rattle.tpm_types_common.specs.declared.symmetric.SymmetricDefinition.TheVariants as symmetric
use Rattle.tpm_record.specs.Entity.{auth_value_of, name_of, protection_of}
use Rattle.tpm_record.specs.Record.{Record}
use Rattle.tpm_types_common.specs.declared.refused.Refused.{Refused}
use Rattle.tpm_actions_device.specs.declared.start_auth_session.SessionParameters.{SessionParameters}
use Rattle.tpm_record.specs.rows.Request.{Request, second_handle}
use Rattle.tpm_record.specs.rows.Answer.{AnswerParts, Sized}
use Rattle.tpm_record.specs.rows.Refusals.{action_refusal, parameter_refusal}
use Rattle.tpm_record.specs.rows.Rows.{Success, all_read, parameter}

-- the parameters nonceCaller, encryptedSalt, sessionType, symmetric and authHash
pub record Parameters : Type 0 where
  pub nonce_caller : List ℕ
  pub salt : List ℕ
  pub kind : SessionType
  pub symmetric : SymmetricDefinition
  pub hash : HashAlg

abbrev pub parameters_of : SessionParameters → Parameters
parameters_of asked = record {
  nonce_caller = asked.nonce_caller.now;
  salt = asked.salt.now;
  kind = asked.kind;
  symmetric = asked.symmetric;
  hash = asked.hash;
}

unfoldable pub parameters_in : List ℕ → Result Parameters Refused
parameters_in text = do
  nonce ← parameter 1 (buffer_at 32 text)
  salt ← parameter 2 (buffer_at 32 nonce.1)
  kind ← parameter 3 (session_type_at salt.1)
  symmetric ← parameter 4 (symmetric_at kind.1)
  hash ← parameter 5 (hash_at symmetric.1)
  ended ← all_read hash.1
  Ok (record {
    nonce_caller = nonce.0;
    salt = salt.0;
    kind = kind.0;
    symmetric = symmetric.0;
    hash = hash.0;
  })

-- whether the session encrypts by XOR, with masks whose hash algorithm is not the session's
abbrev pub has_other_mask : SymmetricDefinition → HashAlg → Bool
has_other_mask (symmetric.Xor mask) hash = not (hash_number mask == hash_number hash)
has_other_mask other hash = false

-- the command's own checks of its parameters. Refused by check A1 if nonceCaller is shorter than 16
-- bytes, or longer than a digest; by A2 if encryptedSalt is not empty, because there is no key to
-- decrypt it; by A3 if the session encrypts by XOR with a hash other than authHash
unfoldable pub parameters_pass : Parameters → Result (Unit {0}) Refused
parameters_pass p = do
  a1 ← refused_if (not (is_nonce_size p.hash (length p.nonce_caller)))
      (parameter_refusal action.First 1 code.Size)
  a2 ← refused_if (not (length p.salt == 0)) (parameter_refusal action.Second 2 code.Value)
  refused_if (has_other_mask p.symmetric p.hash) (parameter_refusal action.Third 4 code.Hash)

-- the binding of a new session to the entity that the handle `bind` names, with the entity's
-- current Name, authorization value and protection; None if `bind` is TPM_RH_NULL
unfoldable pub binding_of : Record → Handle → Option Binding
binding_of r bind =
    if bind.number == null_handle.number then None
    else Some (record {
      name = name_of r bind;
      auth_value = auth_value_of r bind;
      protection = protection_of r bind;
    })

-- the new session with this binding and this nonceTPM
abbrev pub session_with : Parameters → Option Binding → List ℕ → Session
session_with p binding nonce = new_session p.kind p.hash p.symmetric binding nonce p.nonce_caller

-- the slot of a new session. Refused by check A4 if no slot is free
abbrev pub session_place : List (Option Session) → Result ℕ Refused
session_place sessions =
    ok_or (lowest_free sessions) (action_refusal action.Fourth (plain code.SessionMemory))

-- the answer: the new session's handle, which depends on its slot, and its nonceTPM, which is drawn
-- from the random bytes
abbrev pub start_answer : Parameters → Session → ℕ → AnswerParts
start_answer p s place = record {
  handle = Some (handle_of s.kind place);
  body = Sized s.nonce_tpm;
  drawn = length p.nonce_caller;
}

-- the row of TPM2_StartAuthSession. Handles: tpmKey, which is TPM_RH_NULL, and bind. Effect: the
-- session is put into the lowest free slot. Its nonceTPM has the size of nonceCaller, and consists
-- of the event's first random bytes
unfoldable pub start_auth_session_row : Record → Request → Result Success Refused
start_auth_session_row r q = do
  bind ← second_handle q.handles
  p ← parameters_in q.parameters
  passed ← parameters_pass p
  let s : Session = session_with p (binding_of r bind) (take (length p.nonce_caller) q.random)
  place ← session_place r.sessions
  Ok (record {
    answer = start_answer p s place;
    after = record r { sessions = slice_set r.sessions place (Some s) };
  })
