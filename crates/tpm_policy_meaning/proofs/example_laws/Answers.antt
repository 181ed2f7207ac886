use Rattle.tpm_policy_meaning.proofs.Examples.{computes_digests}
use Rattle.tpm_policy_meaning.proofs.example_laws.Goals as goal

pub returns : goal.returns
returns c = computes_digests
