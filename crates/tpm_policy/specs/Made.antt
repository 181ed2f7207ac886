-- The policy after an assertion that passes its checks. TPM 2.0 Library, Part 3, section 23, and
-- Part 1, section 19.7.
use Rattle.std.specs.Prelude.{◌++◌, bit_and, Bool, [], ◌∷◌, Some, if◌then◌else◌}
use Rattle.std.specs.Int.{w32, to_be_bytes}
use Rattle.tpm_mac.specs.declared.algorithm.HashAlg.{HashAlg}
use Rattle.tpm_policy.specs.Assertion.{Assertion, Pcr, Or, AuthValue, Password, CommandCode, Locality, Secret, Nv, auth_value_asserted, extended_policy, nv_arguments, or_digest, password_asserted, secret_digest, taken_digest, CpHash, NvWritten, yes_no_text}
use Rattle.tpm_policy.specs.State.{Policy}
use Rattle.tpm_types_common.specs.Buffer.{is_given}
use Rattle.tpm_commands.specs.declared.command_code.CommandCode.TheVariants as command

-- the policy after an assertion
abbrev pub policy_with : HashAlg → (trial : Bool) → Assertion → Policy → Policy
policy_with hash trial (Pcr pcr) policy =
    record (extended_policy hash command.PolicyPcr
    (pcr.selection ++ taken_digest trial pcr) policy) {
      update_count = Some pcr.update_count;
    }
policy_with hash trial (Or digests) policy = record policy { digest = or_digest hash digests }
policy_with hash trial AuthValue policy = auth_value_asserted hash policy
policy_with hash trial Password policy = password_asserted hash policy
policy_with hash trial (CommandCode profile number) policy =
    record (extended_policy hash command.PolicyCommandCode (to_be_bytes w32 number) policy) {
      command = Some number;
    }
policy_with hash trial (Locality localities) policy =
    record (extended_policy hash command.PolicyLocality (localities ∷ []) policy) {
      localities = bit_and policy.localities localities;
    }
policy_with hash trial (CpHash cp_hash) policy =
    record (extended_policy hash command.PolicyCpHash cp_hash policy) { cp_hash = Some cp_hash }
policy_with hash trial (NvWritten is_written) policy =
    record (extended_policy hash command.PolicyNvWritten (yes_no_text is_written) policy) {
      nv_written = Some is_written;
    }
policy_with hash trial (Secret secret) policy = record policy {
  digest = secret_digest hash policy.digest secret.name secret.reference;
  cp_hash = if is_given secret.cp_hash then Some secret.cp_hash else policy.cp_hash;
}
policy_with hash trial (Nv nv) policy =
    extended_policy hash command.PolicyNv (nv_arguments hash nv ++ nv.name) policy
