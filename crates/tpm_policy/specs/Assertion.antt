-- The assertions of policies. TPM 2.0 Library, Part 3, section 23, and Part 1, section 19.7. Each
-- assertion changes the policy digest. Most assertions also record a value to compare later, when
-- the session authorizes a command. A trial session does not compare the data of TPM2_PolicyPCR
-- with the PCRs, the list of TPM2_PolicyOR with the current digest, or the operand of TPM2_PolicyNV
-- with the index. Nor does it compare the parameters of TPM2_PolicySecret with nonceTPM and a
-- recorded cpHash. The order of the checks is a choice of this implementation.
use Rattle.tpm_commands.specs.declared.command_code.CommandCode.{CommandCode as ServedCommand}
use Rattle.tpm_commands.specs.CommandCode.{code_number, is_served}
use Rattle.tpm_commands.specs.declared.command_code.CommandCode.TheVariants as served
use Rattle.tpm_commands.specs.declared.profile.Profile.{Profile}
use Rattle.std.specs.Prelude.{◌≡◌, ℕ, ◌==◌, ◌&&◌, ◌||◌, not, nat_lt, bit_and, if◌then◌else◌}
use Rattle.std.specs.Prelude.{Bool, true, false, List, [], ◌∷◌, ◌++◌, length, replicate}
use Rattle.std.specs.Prelude.{Option, Some, None, Result, Ok, Err}
use Rattle.std.specs.Borrow.{Bor}
use Rattle.std.specs.Int.{w16, w32, to_be_bytes}
use Rattle.std.specs.List.{flat_map, list_any}
use Rattle.std.specs.Str.{bytes_eq}
use Rattle.tpm_bytes.specs.Reading.{◌>>=◌, refused_if}
use Rattle.tpm_mac.specs.Digest.{digest_size, hash_of}
use Rattle.tpm_mac.specs.declared.algorithm.HashAlg.{HashAlg}
use Rattle.tpm_types_common.specs.Buffer.{is_given}
use Rattle.tpm_types_common.specs.Operation.{operation_number}
use Rattle.tpm_types_common.specs.PcrSelection.{selection_text}
use Rattle.tpm_types_common.specs.ActionFault.{parameter_fault, plain_fault}
use Rattle.tpm_types_common.specs.declared.action_check.ActionCheck.TheVariants as action
use Rattle.tpm_types_common.specs.declared.operation.Operation.{Operation}
use Rattle.tpm_types_common.specs.declared.rc.ResponseCode.TheVariants as code
use Rattle.tpm_policy.specs.Comparison.{compares}
use Rattle.tpm_policy.specs.State.{Policy}
use Rattle.tpm_types_common.specs.declared.action_fault.ActionFault.{ActionFault}
use Rattle.tpm_policy.specs.declared.nv.NvAssertion.{NvAssertion}
use Rattle.tpm_policy.specs.declared.pcr.PcrAssertion.{PcrAssertion}
use Rattle.tpm_policy.specs.declared.secret.SecretAssertion.{SecretAssertion}
use Rattle.tpm_policy.specs.declared.state.Demand.{Demand}
use Rattle.tpm_policy.specs.declared.state.Demand.TheVariants as demand

-- the data of a TPM2_PolicyPCR assertion
pub record PcrParts : Type 0 where
  -- the digest in the command, which may be empty
  pub given : List ℕ
  -- the encoded selection of PCRs
  pub selection : List ℕ
  -- the digest of the values of the selected PCRs
  pub digest : List ℕ
  -- the update counter of the PCRs
  pub update_count : ℕ

-- the data of a TPM2_PolicySecret assertion
pub record SecretParts : Type 0 where
  -- the Name of the entity that authHandle names
  pub name : List ℕ
  -- the nonce in the command
  pub nonce : List ℕ
  -- the session's nonceTPM
  pub nonce_tpm : List ℕ
  -- the parameter cpHashA
  pub cp_hash : List ℕ
  -- the parameter policyRef
  pub reference : List ℕ
  -- the parameter expiration
  pub expiration : ℕ

-- the data of a TPM2_PolicyNV assertion
pub record NvParts : Type 0 where
  -- the Name of the index
  pub name : List ℕ
  -- the operand with which the index is compared
  pub operand : List ℕ
  -- the offset of the compared bytes in the index
  pub offset : ℕ
  pub operation : Operation
  -- the bytes of the index that are compared with the operand, as many as the operand has; or the
  -- error if these bytes cannot be read
  pub compared : Result (List ℕ) ActionFault

-- the data of a TPM2_PolicyPCR assertion, as values instead of references
abbrev pub pcr_parts : PcrAssertion → PcrParts
pcr_parts asserted = record {
  given = asserted.given.now;
  selection = selection_text asserted.selection.now.banks.items;
  digest = asserted.digest.now;
  update_count = asserted.update_count;
}

abbrev pub secret_parts : SecretAssertion → SecretParts
secret_parts asserted = record {
  name = asserted.name.now;
  nonce = asserted.nonce.now;
  nonce_tpm = asserted.nonce_tpm.now;
  cp_hash = asserted.cp_hash.now;
  reference = asserted.reference.now;
  expiration = asserted.expiration;
}

abbrev pub compared_bytes : Result (Bor (List ℕ)) ActionFault → Result (List ℕ) ActionFault
compared_bytes (Ok bytes) = Ok bytes.now
compared_bytes (Err fault) = Err fault

abbrev pub nv_parts : NvAssertion → NvParts
nv_parts asserted = record {
  name = asserted.name.now;
  operand = asserted.operand.now;
  offset = asserted.offset;
  operation = asserted.operation;
  compared = compared_bytes asserted.compared;
}

-- an assertion with its data
pub data Assertion : Type 0 where
  Pcr : PcrParts → Assertion
  Or : (digests : List (List ℕ)) → Assertion
  AuthValue : Assertion
  Password : Assertion
  CommandCode : Profile → (number : ℕ) → Assertion
  Locality : (localities : ℕ) → Assertion
  CpHash : (cp_hash : List ℕ) → Assertion
  NvWritten : (is_written : Bool) → Assertion
  Secret : SecretParts → Assertion
  Nv : NvParts → Assertion

-- whether a value other than this number is recorded
abbrev pub is_other : Option ℕ → ℕ → Bool
is_other None number = false
is_other (Some recorded) number = not (recorded == number)

abbrev pub is_other_hash : Option (List ℕ) → List ℕ → Bool
is_other_hash None hash = false
is_other_hash (Some recorded) hash = not (bytes_eq recorded hash)

-- whether the policy requires that an index is written (or unwritten), but the index is absent or
-- in the opposite state
abbrev pub is_other_written : Option Bool → Option Bool → Bool
is_other_written None found = false
is_other_written (Some recorded) None = true
is_other_written (Some true) (Some found) = not found
is_other_written (Some false) (Some found) = found

-- the policy after an assertion extends its digest: H(policyDigest || commandCode || the
-- assertion's data)
abbrev pub extended_policy : HashAlg → ServedCommand → (about : List ℕ) → Policy → Policy
extended_policy hash command about policy =
    record policy {
      digest = hash_of hash (policy.digest ++ to_be_bytes w32 (code_number command) ++ about);
    }

-- TPM2_PolicyPCR (section 23.7): the assertion uses the digest of the PCRs' values; a trial session
-- uses the digest in the command if it is not empty
abbrev pub taken_digest : (trial : Bool) → PcrParts → List ℕ
taken_digest trial pcr = if trial && is_given pcr.given then pcr.given else pcr.digest

unfoldable pub pcr_asserted : HashAlg → (trial : Bool) → PcrParts
    → Policy → Result Policy ActionFault
pcr_asserted hash trial pcr policy = do
  a1 ← refused_if (not trial && is_other policy.update_count pcr.update_count)
      (plain_fault action.First code.PcrChanged)
  a2 ← refused_if (not trial && is_given pcr.given && not (bytes_eq pcr.given pcr.digest))
      (parameter_fault action.Second 1 code.Value)
  Ok (record (extended_policy hash served.PolicyPcr
      (pcr.selection ++ taken_digest trial pcr) policy) {
        update_count = Some pcr.update_count;
      })

-- TPM2_PolicyOR (section 23.6): the list must contain the policy digest. The new digest is the hash
-- of zeros, the command code and the whole list; recorded values stay unchanged
unfoldable pub or_digest : HashAlg → (digests : List (List ℕ)) → List ℕ
or_digest hash digests =
    hash_of hash (replicate (digest_size hash) 0 ++ to_be_bytes w32 (code_number served.PolicyOr)
    ++ flat_map (λ digest. digest) digests)

unfoldable pub or_asserted : HashAlg → (trial : Bool) → (digests : List (List ℕ))
    → Policy → Result Policy ActionFault
or_asserted hash trial digests policy = do
  a1 ← refused_if (not trial && not (list_any (λ digest. bytes_eq digest policy.digest) digests))
      (parameter_fault action.First 1 code.Value)
  Ok (record policy { digest = or_digest hash digests })

-- TPM2_PolicyAuthValue (section 23.17) requires that the HMAC key include the entity's
-- authorization value. TPM2_PolicyPassword (section 23.18) requires that the value be sent as a
-- password. Both extend the digest in the same way
abbrev demanding : HashAlg → Demand → Policy → Policy
demanding hash wanted policy =
    record (extended_policy hash served.PolicyAuthValue [] policy) { demand = wanted }

unfoldable pub auth_value_asserted : HashAlg → Policy → Policy
auth_value_asserted hash policy = demanding hash demand.AuthValue policy

unfoldable pub password_asserted : HashAlg → Policy → Policy
password_asserted hash policy = demanding hash demand.Password policy

-- TPM2_PolicyCommandCode (section 23.11): only this command is allowed. The device must serve it, and
-- no other command may have been recorded. A trial session makes both checks too (a choice of this
-- implementation)
unfoldable pub command_code_asserted : HashAlg → Profile → (number : ℕ)
    → Policy → Result Policy ActionFault
command_code_asserted hash profile number policy = do
  a1 ← refused_if (is_other policy.command number) (parameter_fault action.First 1 code.Value)
  a2 ← refused_if (not (is_served profile number)) (parameter_fault action.Second 1 code.PolicyCc)
  Ok (record (extended_policy hash served.PolicyCommandCode (to_be_bytes w32 number) policy)
      { command = Some number })

-- TPM2_PolicyLocality (section 23.8): removes every allowed locality that the parameter does not
-- select. At least one locality must remain, even in a trial session (a choice of this
-- implementation). Extended localities, 32 and up, are not supported
unfoldable pub locality_asserted : HashAlg → (localities : ℕ)
    → Policy → Result Policy ActionFault
locality_asserted hash localities policy = do
  a1 ← refused_if
      (localities == 0 || nat_lt 31 localities || bit_and policy.localities localities == 0)
      (parameter_fault action.First 1 code.Range)
  Ok (record (extended_policy hash served.PolicyLocality (localities ∷ []) policy) {
    localities = bit_and policy.localities localities;
  })

-- TPM2_PolicyCpHash (section 23.13): only the command with this cpHash is allowed. The cpHash must
-- have the right size, and no other cpHash may have been recorded. A trial session makes both
-- checks too (a choice of this implementation)
unfoldable pub cp_hash_asserted : HashAlg → (cp_hash : List ℕ)
    → Policy → Result Policy ActionFault
cp_hash_asserted hash cp_hash policy = do
  a1 ← refused_if (not (length cp_hash == digest_size hash)) (parameter_fault action.First 1 code.Size)
  a2 ← refused_if (is_other_hash policy.cp_hash cp_hash) (plain_fault action.Second code.Cphash)
  Ok (record (extended_policy hash served.PolicyCpHash cp_hash policy) { cp_hash = Some cp_hash })

-- the encoding of yes (1) or no (0) (Part 2, section 9.2, TPMI_YES_NO)
abbrev pub yes_no_text : Bool → List ℕ
yes_no_text true = 1 ∷ []
yes_no_text false = 0 ∷ []

-- TPM2_PolicyNvWritten (section 23.20): from now on, only a written index may be used if
-- `is_written` is true, and otherwise only an unwritten index. The opposite must not have been
-- recorded, even in a trial session (a choice of this implementation)
unfoldable pub nv_written_asserted : HashAlg → (is_written : Bool)
    → Policy → Result Policy ActionFault
nv_written_asserted hash is_written policy = do
  a1 ← refused_if (is_other_written policy.nv_written (Some is_written))
      (parameter_fault action.First 1 code.Value)
  Ok (record (extended_policy hash served.PolicyNvWritten (yes_no_text is_written) policy) {
    nv_written = Some is_written;
  })

-- TPM2_PolicySecret (section 23.4): policyRef is hashed last, even if it is empty. Policies never
-- expire: expiration must be 0. A trial session also checks expiration and the size of cpHashA (a
-- choice of this implementation)
abbrev pub secret_digest : HashAlg → (digest name reference : List ℕ) → List ℕ
secret_digest hash digest name reference =
    hash_of hash (hash_of hash (digest ++ to_be_bytes w32 (code_number served.PolicySecret) ++ name) ++ reference)

unfoldable pub secret_asserted : HashAlg → (trial : Bool) → SecretParts
    → Policy → Result Policy ActionFault
secret_asserted hash trial secret policy = do
  a1 ← refused_if (not (secret.expiration == 0)) (parameter_fault action.First 4 code.Value)
  a2 ← refused_if (is_given secret.cp_hash && not (length secret.cp_hash == digest_size hash))
      (parameter_fault action.Second 2 code.Size)
  a3 ← refused_if (not trial && is_given secret.nonce && not (bytes_eq secret.nonce secret.nonce_tpm))
      (parameter_fault action.Third 1 code.Nonce)
  a4 ← refused_if (not trial && is_given secret.cp_hash && is_other_hash policy.cp_hash secret.cp_hash)
      (plain_fault action.Fourth code.Cphash)
  Ok (record policy {
    digest = secret_digest hash policy.digest secret.name secret.reference;
    cp_hash = if is_given secret.cp_hash then Some secret.cp_hash else policy.cp_hash;
  })

-- TPM2_PolicyNV (section 23.9): the comparison of the index with the operand must hold. A trial
-- session checks nothing
abbrev pub nv_compared : (trial : Bool) → NvParts → Result (Unit {0}) ActionFault
nv_compared true nv = Ok tt
nv_compared false nv = do
  bytes ← nv.compared
  refused_if (not (compares nv.operation bytes nv.operand)) (plain_fault action.Fifth code.Policy)

-- the hash of TPM2_PolicyNV's arguments: H(operand || offset || operation)
abbrev pub nv_arguments : HashAlg → NvParts → List ℕ
nv_arguments hash nv =
    hash_of hash (nv.operand ++ to_be_bytes w16 nv.offset
    ++ to_be_bytes w16 (operation_number nv.operation))

unfoldable pub nv_asserted : HashAlg → (trial : Bool) → NvParts
    → Policy → Result Policy ActionFault
nv_asserted hash trial nv policy = do
  compared ← nv_compared trial nv
  Ok (extended_policy hash served.PolicyNv (nv_arguments hash nv ++ nv.name) policy)

-- the policy after an assertion, or the error of the first check that fails
abbrev pub asserted_policy : HashAlg → (trial : Bool) → Assertion → Policy
    → Result Policy ActionFault
asserted_policy hash trial (Pcr pcr) policy = pcr_asserted hash trial pcr policy
asserted_policy hash trial (Or digests) policy = or_asserted hash trial digests policy
asserted_policy hash trial AuthValue policy = Ok (auth_value_asserted hash policy)
asserted_policy hash trial Password policy = Ok (password_asserted hash policy)
asserted_policy hash trial (CommandCode profile number) policy =
    command_code_asserted hash profile number policy
asserted_policy hash trial (Locality localities) policy = locality_asserted hash localities policy
asserted_policy hash trial (CpHash cp_hash) policy = cp_hash_asserted hash cp_hash policy
asserted_policy hash trial (NvWritten is_written) policy =
    nv_written_asserted hash is_written policy
asserted_policy hash trial (Secret secret) policy = secret_asserted hash trial secret policy
asserted_policy hash trial (Nv nv) policy = nv_asserted hash trial nv policy

-- The code changed the policy as defined, or refused the assertion with the defined error. A
-- refusal changes nothing.
abbrev pub Asserts : Result Policy ActionFault
    → Policy → Result (Unit {0}) ActionFault → Policy → Type 0
Asserts change old (Ok u) new = change ≡ Ok new
Asserts change old (Err fault) new = (change ≡ Err fault) × (new ≡ old)
