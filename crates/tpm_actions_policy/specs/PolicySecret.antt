-- TPM2_PolicySecret. TPM 2.0 Library, Part 3, section 23.4, and Part 2, section 10.7.5
-- (TPMT_TK_AUTH).
use Rattle.std.specs.Prelude.{ℕ, List, [], ◌++◌, Result, Ok}
use Rattle.std.specs.Int.{w16, w32, to_be_bytes}
use Rattle.tpm_bytes.specs.Reading.{◌>>=◌, number_at, or_fault}
use Rattle.tpm_policy.specs.Assertion.{Assertion, Secret, SecretParts}
use Rattle.tpm_session.specs.declared.session.Session.{Session}
use Rattle.tpm_types_common.specs.Handle.{null_handle}
use Rattle.tpm_types_common.specs.declared.rc.ResponseCode.TheVariants as code
use Rattle.tpm_types_common.specs.Buffer.{buffer_at}
use Rattle.tpm_types_common.specs.Rc.{plain}
use Rattle.tpm_record.specs.Entity.{name_of}
use Rattle.tpm_record.specs.Record.{Record}
use Rattle.tpm_types_common.specs.declared.refused.Refused.{Refused}
use Rattle.tpm_record.specs.rows.Answer.{Body, SizedFirst}
use Rattle.tpm_record.specs.rows.Request.{Request, first_handle}
use Rattle.tpm_record.specs.rows.Rows.{all_read, parameter}

-- the parameters nonceTPM, cpHashA, policyRef and expiration
pub record Parameters : Type 0 where
  pub nonce : List ℕ
  pub cp_hash : List ℕ
  pub reference : List ℕ
  pub expiration : ℕ

unfoldable pub secret_parameters : List ℕ → Result Parameters Refused
secret_parameters text = do
  nonce ← parameter 1 (buffer_at 32 text)
  cp_hash ← parameter 2 (buffer_at 32 nonce.1)
  reference ← parameter 3 (buffer_at 32 cp_hash.1)
  expiration ← parameter 4 (or_fault (number_at w32 reference.1) (plain code.Insufficient))
  ended ← all_read expiration.1
  Ok (record {
    nonce = nonce.0;
    cp_hash = cp_hash.0;
    reference = reference.0;
    expiration = expiration.0;
  })

-- the data of a TPM2_PolicySecret assertion about the entity with this Name
abbrev pub secret_of : Parameters → (name : List ℕ) → Session → SecretParts
secret_of p name s = record {
  name = name;
  nonce = p.nonce;
  nonce_tpm = s.nonce_tpm;
  cp_hash = p.cp_hash;
  reference = p.reference;
  expiration = p.expiration;
}

-- the assertion of TPM2_PolicySecret: the entity that the command's first handle names has
-- authorized this command
abbrev pub secret_assertion : Record → Request → Result (Session → Assertion) Refused
secret_assertion r q = do
  entity ← first_handle q.handles
  p ← secret_parameters q.parameters
  Ok (λ s. Secret (secret_of p (name_of r entity) s))

-- a null ticket: TPM_ST_AUTH_SECRET, TPM_RH_NULL, an empty digest
abbrev pub null_ticket : List ℕ
null_ticket = to_be_bytes w16 0x8023 ++ to_be_bytes w32 null_handle.number ++ to_be_bytes w16 0

-- the answer of TPM2_PolicySecret: an empty timeout, and a null ticket
abbrev pub no_ticket : Body
no_ticket = SizedFirst [] null_ticket
