-- The rows of the commands for policies refuse by their own checks only as `own_refusals` lists.
use Rattle.std.proofs.Common.{Bool, IfErr, false, true}
use Rattle.tpm_mac.specs.declared.algorithm.HashAlg.{HashAlg}
use Rattle.tpm_commands.specs.declared.command_code.CommandCode.TheVariants as command
use Rattle.tpm_policy.specs.Assertion.{command_code_asserted, cp_hash_asserted, locality_asserted}
use Rattle.tpm_policy.specs.Assertion.{nv_asserted, nv_written_asserted, or_asserted, pcr_asserted}
use Rattle.tpm_policy.specs.Assertion.{secret_asserted}
use Rattle.tpm_policy.specs.State.{Policy}
use Rattle.tpm_record.specs.Record.{Record}
use Rattle.tpm_record.specs.declared.rows.target.Target.{Target}
use Rattle.tpm_record.specs.rows.Refusals.{fault_refusal}
use Rattle.tpm_record.specs.rows.Request.{Request}
use Rattle.tpm_actions_policy.specs.Assertions.{assertion_row}
use Rattle.tpm_actions_policy.specs.PolicyGetDigest.{policy_get_digest_row}
use Rattle.tpm_actions_policy.specs.PolicyNv.{Parameters, nv_parameters, nv_parts_of}
use Rattle.tpm_actions_policy.specs.PolicyRestart.{policy_restart_row}
use Rattle.tpm_actions_policy.specs.PolicySecret.{secret_parameters}
use Rattle.tpm_step.specs.rows.OwnRefusals.{IsListed, RefusesAsListed, own_refusals}
use Rattle.tpm_step.proofs.refusals.Steps.{own_steps}

pub policy_pcr_own : (r : Record) (q : Request)
    → RefusesAsListed command.PolicyPcr (assertion_row command.PolicyPcr r q)
unfolding assertion_row pcr_asserted own_refusals
policy_pcr_own r q = search own_steps depth 20

pub policy_or_own : (r : Record) (q : Request)
    → RefusesAsListed command.PolicyOr (assertion_row command.PolicyOr r q)
unfolding assertion_row or_asserted own_refusals
policy_or_own r q = search own_steps depth 20

pub policy_auth_value_own : (r : Record) (q : Request)
    → RefusesAsListed command.PolicyAuthValue (assertion_row command.PolicyAuthValue r q)
unfolding assertion_row
policy_auth_value_own r q = search own_steps depth 20

pub policy_password_own : (r : Record) (q : Request)
    → RefusesAsListed command.PolicyPassword (assertion_row command.PolicyPassword r q)
unfolding assertion_row
policy_password_own r q = search own_steps depth 20

pub policy_command_code_own : (r : Record) (q : Request)
    → RefusesAsListed command.PolicyCommandCode (assertion_row command.PolicyCommandCode r q)
unfolding assertion_row command_code_asserted own_refusals
policy_command_code_own r q = search own_steps depth 20

pub policy_cp_hash_own : (r : Record) (q : Request)
    → RefusesAsListed command.PolicyCpHash (assertion_row command.PolicyCpHash r q)
unfolding assertion_row cp_hash_asserted own_refusals
policy_cp_hash_own r q = search own_steps depth 20

pub policy_nv_written_own : (r : Record) (q : Request)
    → RefusesAsListed command.PolicyNvWritten (assertion_row command.PolicyNvWritten r q)
unfolding assertion_row nv_written_asserted own_refusals
policy_nv_written_own r q = search own_steps depth 20

pub policy_locality_own : (r : Record) (q : Request)
    → RefusesAsListed command.PolicyLocality (assertion_row command.PolicyLocality r q)
unfolding assertion_row locality_asserted own_refusals
policy_locality_own r q = search own_steps depth 20

pub policy_secret_own : (r : Record) (q : Request)
    → RefusesAsListed command.PolicySecret (assertion_row command.PolicySecret r q)
unfolding assertion_row secret_parameters secret_asserted own_refusals
policy_secret_own r q = search own_steps depth 24

own_compared : (hash : HashAlg) (trial : Bool) (r : Record) (target : Target) (p : Parameters)
    (policy : Policy) → IfErr (nv_asserted hash trial (nv_parts_of r target p) policy)
    (λ fault. IsListed (own_refusals command.PolicyNv) (fault_refusal fault))
unfolding nv_asserted own_refusals
own_compared hash true r target p policy = tt
own_compared hash false r target p policy = search own_steps depth 16

pub policy_nv_own : (r : Record) (q : Request)
    → RefusesAsListed command.PolicyNv (assertion_row command.PolicyNv r q)
unfolding assertion_row nv_parameters own_refusals
policy_nv_own r q = search (own_compared, own_steps) depth 24

pub policy_get_digest_own : (r : Record) (q : Request)
    → RefusesAsListed command.PolicyGetDigest (policy_get_digest_row r q)
unfolding policy_get_digest_row
policy_get_digest_own r q = search own_steps depth 16

pub policy_restart_own : (r : Record) (q : Request)
    → RefusesAsListed command.PolicyRestart (policy_restart_row r q)
unfolding policy_restart_row
policy_restart_own r q = search own_steps depth 16
