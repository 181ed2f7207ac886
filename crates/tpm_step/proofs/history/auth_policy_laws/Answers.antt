use Rattle.tpm_step.proofs.history.Following.{policies_manufactured}
use Rattle.tpm_step.proofs.history.auth_policy_laws.Goals as goal

pub returns : goal.returns
returns c = policies_manufactured
