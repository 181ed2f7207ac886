use Rattle.tpm_policy_meaning.proofs.Trial.{trial_computes}
use Rattle.tpm_policy_meaning.proofs.trial_laws.Goals as goal

pub returns : goal.returns
returns c = trial_computes
