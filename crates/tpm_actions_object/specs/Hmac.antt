-- TPM2_HMAC. TPM 2.0 Library, Part 3, section 15.5.
use Rattle.tpm_types_common.specs.declared.action_check.ActionCheck.TheVariants as action
use Rattle.tpm_types_common.specs.Limits.{data_limit}
use Rattle.std.specs.Prelude.{ℕ, ◌==◌, List, Option, Some, None, if◌then◌else◌, not, Result, Ok, Err, ok_or}
use Rattle.tpm_bytes.specs.Reading.{◌>>=◌, refused_if}
use Rattle.tpm_mac.specs.declared.algorithm.HashAlg.{HashAlg}
use Rattle.tpm_mac.specs.Hmac.{hmac_of}
use Rattle.tpm_types_object.specs.declared.object_attributes.ObjectAttribute.TheVariants as attribute
use Rattle.tpm_types_object.specs.declared.public.KeyedHashScheme.{KeyedHashScheme}
use Rattle.tpm_types_object.specs.declared.public.KeyedHashScheme.TheVariants as scheme
use Rattle.tpm_types_object.specs.declared.public.PublicParameters.{PublicParameters}
use Rattle.tpm_types_object.specs.declared.public.PublicParameters.TheVariants.{KeyedHash, SymCipher}
use Rattle.tpm_types_common.specs.declared.rc.Place.TheVariants as place
use Rattle.tpm_types_common.specs.declared.rc.ResponseCode.TheVariants as code
use Rattle.tpm_types_common.specs.Algorithm.{hash_number, hash_or_null_at}
use Rattle.tpm_types_common.specs.Buffer.{buffer_at}
use Rattle.tpm_types_object.specs.ObjectAttributes.{has}
use Rattle.tpm_types_common.specs.Rc.{at, plain}
use Rattle.tpm_record.specs.Record.{Record}
use Rattle.tpm_types_common.specs.declared.refused.Refused.{Refused}
use Rattle.tpm_record.specs.rows.Request.{Request, first_handle}
use Rattle.tpm_record.specs.rows.Answer.{Sized, answer_of}
use Rattle.tpm_record.specs.rows.Rows.{Success, all_read, parameter, unchanged_success}
use Rattle.tpm_record.specs.rows.Refusals.{action_refusal}
use Rattle.tpm_actions_object.specs.Loaded.{loaded_at}

-- the scheme of a KEYEDHASH object. Refused by check A1 if the object is not a KEYEDHASH object
abbrev pub scheme_of : PublicParameters → Result KeyedHashScheme Refused
scheme_of (KeyedHash scheme) = Ok scheme
scheme_of SymCipher = Err (action_refusal action.First (at (place.Handle 1) (plain code.Type)))

-- the hash for a key whose scheme names a hash: the scheme's hash if the command requests this hash
-- or NULL; None if the command requests a different hash
abbrev pub own_hash : HashAlg → Option HashAlg → Option HashAlg
own_hash own None = Some own
own_hash own (Some asked) = if hash_number own == hash_number asked then Some own else None

-- the hash with which an HMAC is computed, or None. If the key's scheme is NULL, it is the hash
-- that the command requests; otherwise, `own_hash` defines it
abbrev pub chosen_hash : KeyedHashScheme → Option HashAlg → Option HashAlg
chosen_hash scheme.Null asked = asked
chosen_hash (scheme.Hmac own) asked = own_hash own asked

-- the parameters buffer and hashAlg
pub record Parameters : Type 0 where
  pub buffer : List ℕ
  pub hash : Option HashAlg

unfoldable pub parameters_in : List ℕ → Result Parameters Refused
parameters_in text = do
  buffer ← parameter 1 (buffer_at data_limit text)
  hash ← parameter 2 (hash_or_null_at buffer.1)
  ended ← all_read hash.1
  Ok (record { buffer = buffer.0; hash = hash.0 })

-- the row of TPM2_HMAC. Answer: the HMAC. Refused by check A1 if the object is not a KEYEDHASH
-- object; by A2 if it is restricted; by A3 if it is not a signing key; by A4 if the command
-- requests a hash other than the scheme's, or if neither names a hash
unfoldable pub hmac_row : Record → Request → Result Success Refused
hmac_row r q = do
  handle ← first_handle q.handles
  object ← loaded_at r handle
  p ← parameters_in q.parameters
  scheme ← scheme_of object.public.parameters
  a2 ← refused_if (has object.public.attributes attribute.Restricted)
      (action_refusal action.Second (at (place.Handle 1) (plain code.Attributes)))
  a3 ← refused_if (not (has object.public.attributes attribute.Sign))
      (action_refusal action.Third (at (place.Handle 1) (plain code.Key)))
  hash ← ok_or (chosen_hash scheme p.hash)
      (action_refusal action.Fourth (at (place.Parameter 2) (plain code.Value)))
  Ok (unchanged_success r (answer_of (Sized (hmac_of hash object.sensitive p.buffer))))
