-- Policies, computed from the history alone. TPM 2.0 Library, Part 3, section 23, and Part 1,
-- section 19.7. An accepted assertion has passed its checks. Therefore only its effect on the
-- policy is defined here.
use Rattle.std.specs.Prelude.{ℕ, Bool, List, [], ◌∷◌, Result, Ok, Err}
use Rattle.std.specs.Int.{w8, w32}
use Rattle.tpm_bytes.specs.Reading.{◌>>=◌, number_at, or_fault}
use Rattle.tpm_mac.specs.declared.algorithm.HashAlg.{HashAlg}
use Rattle.tpm_policy.specs.Assertion.{Assertion, Pcr, Or, AuthValue, Password, CommandCode, CpHash, NvWritten, Locality, Secret, Nv, PcrParts}
use Rattle.tpm_types_common.specs.Buffer.{buffer_at}
use Rattle.tpm_types_common.specs.DigestList.{digest_list_at}
use Rattle.tpm_types_common.specs.PcrSelection.{selection_text}
use Rattle.tpm_types_common.specs.Rc.{plain}
use Rattle.tpm_types_common.specs.YesNo.{yes_no_at}
use Rattle.tpm_types_common.specs.declared.rc.ResponseCode.TheVariants as code
use Rattle.tpm_types_common.specs.declared.refused.Refused.{Refused}
use Rattle.tpm_commands.specs.declared.command_code.CommandCode.{CommandCode as Code}
use Rattle.tpm_commands.specs.declared.command_code.CommandCode.TheVariants as command
use Rattle.tpm_commands.specs.declared.profile.Profile.TheVariants.{Complete}
use Rattle.tpm_record.specs.rows.Refusals.{handle_refusal}
use Rattle.tpm_record.specs.rows.Rows.{only}
use Rattle.tpm_actions_policy.specs.PolicyNv.{nv_parameters}
use Rattle.tpm_actions_policy.specs.PolicyPcr.{Parameters, pcr_parameters}
use Rattle.tpm_actions_policy.specs.PolicySecret.{secret_parameters}
use Rattle.tpm_step.specs.history.History.{AcceptedCommand, History}
use Rattle.tpm_step.specs.history.Pcrs.{digest_in, updates_of}
use Rattle.tpm_step.specs.history.View.{name_in}

-- ---- the assertion of a command

-- the assertion of TPM2_PolicyPCR, with the values that the selected PCRs had before the command
abbrev pub pcr_parts_in : History → HashAlg → Parameters → PcrParts
pcr_parts_in history hash p = record {
  given = p.given;
  selection = selection_text p.selection;
  digest = digest_in history hash p.selection;
  update_count = updates_of history;
}

-- the assertion of a command after a history, on a session with this hash and this nonceTPM. For
-- TPM2_PolicyNV the policy contains the Name of the index, but not the compared bytes, which a
-- history does not record. Therefore `compared` is empty here; the effect of the assertion does not
-- depend on it. Nor does it depend on the profile in the assertion of TPM2_PolicyCommandCode, which a
-- history does not record either
abbrev pub assertion_by : Code → AcceptedCommand → History → HashAlg → (nonce_tpm : List ℕ)
    → Result Assertion Refused
assertion_by command.PolicyPcr accepted history hash nonce_tpm = do
  p ← pcr_parameters accepted.request.parameters
  Ok (Pcr (pcr_parts_in history hash p))
assertion_by command.PolicyOr accepted history hash nonce_tpm = do
  digests ← only (digest_list_at accepted.request.parameters)
  Ok (Or digests)
assertion_by command.PolicyAuthValue accepted history hash nonce_tpm = Ok AuthValue
assertion_by command.PolicyPassword accepted history hash nonce_tpm = Ok Password
assertion_by command.PolicyCommandCode accepted history hash nonce_tpm = do
  number ← only (or_fault (number_at w32 accepted.request.parameters) (plain code.Insufficient))
  Ok (CommandCode Complete number)
assertion_by command.PolicyCpHash accepted history hash nonce_tpm = do
  cp_hash ← only (buffer_at 32 accepted.request.parameters)
  Ok (CpHash cp_hash)
assertion_by command.PolicyNvWritten accepted history hash nonce_tpm = do
  is_written ← only (yes_no_at accepted.request.parameters)
  Ok (NvWritten is_written)
assertion_by command.PolicyLocality accepted history hash nonce_tpm = do
  localities ← only (or_fault (number_at w8 accepted.request.parameters) (plain code.Insufficient))
  Ok (Locality localities)
assertion_by command.PolicySecret accepted history hash nonce_tpm = do
  p ← secret_parameters accepted.request.parameters
  Ok (Secret (record {
    name = name_in accepted.views 0;
    nonce = p.nonce;
    nonce_tpm = nonce_tpm;
    cp_hash = p.cp_hash;
    reference = p.reference;
    expiration = p.expiration;
  }))
assertion_by command.PolicyNv accepted history hash nonce_tpm = do
  p ← nv_parameters accepted.request.parameters
  Ok (Nv (record {
    name = name_in accepted.views 1;
    operand = p.operand;
    offset = p.offset;
    operation = p.operation;
    compared = Ok [];
  }))
assertion_by _ accepted history hash nonce_tpm = Err handle_refusal

-- the list of assertions, with the new assertion prepended if it could be parsed
abbrev pub with_assertion : Result Assertion Refused → List Assertion → List Assertion
with_assertion (Ok assertion) assertions = assertion ∷ assertions
with_assertion (Err e) assertions = assertions
