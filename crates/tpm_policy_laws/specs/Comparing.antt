-- Defines the comparison that holds when TPM2_PolicyNV is accepted. TPM 2.0 Library, Part 3,
-- section 23.9.
use Rattle.std.specs.Prelude.{◌≡◌, ◌⊎◌, ℕ, true, List, Ok}
use Rattle.tpm_commands.specs.declared.command_code.CommandCode.TheVariants as command
use Rattle.tpm_policy.specs.Comparison.{compares}
use Rattle.tpm_record.specs.Record.{Record}
use Rattle.tpm_record.specs.declared.rows.target.Target.{Target}
use Rattle.tpm_record.specs.rows.Request.{Request, third_handle}
use Rattle.tpm_record.specs.rows.Rows.{Success}
use Rattle.tpm_record.specs.rows.Target.{target_of}
use Rattle.tpm_session.specs.declared.session.Session.{Session}
use Rattle.tpm_types_common.specs.SessionType.{is_trial}
use Rattle.tpm_types_common.specs.declared.handle.Handle.{Handle}
use Rattle.tpm_actions_policy.specs.Assertions.{assertion_row, policy_session}
use Rattle.tpm_actions_policy.specs.PolicyNv.{Parameters, compared, nv_parameters}

-- The comparison of this TPM2_PolicyNV holds: either the session is a trial session, or the index
-- contains data at the offset and the comparison of this data with the operand holds.
pub record Compares (r : Record) (q : Request) : Type 0 where
  pub handle : Handle
  pub third : third_handle q.handles ≡ Ok handle
  pub session : Session
  pub lives : policy_session r.sessions handle ≡ Ok session
  pub target : Target
  pub index : target_of r q ≡ Ok target
  pub parameters : Parameters
  pub asked : nv_parameters q.parameters ≡ Ok parameters
  pub holds : (is_trial session.kind ≡ true)
      ⊎ ((bytes : List ℕ) × (compared r target parameters ≡ Ok bytes)
      × (compares parameters.operation bytes parameters.operand ≡ true))

-- If TPM2_PolicyNV is accepted, its comparison holds (`Compares`).
abbrev pub ComparisonHolds : Type 0
ComparisonHolds = (r : Record) (q : Request) (s : Success)
    → assertion_row command.PolicyNv r q ≡ Ok s → Compares r q
