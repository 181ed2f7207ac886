use Rattle.tpm_policy_meaning.proofs.Meaning.{digest_means}
use Rattle.tpm_policy_meaning.proofs.meaning_laws.Goals as goal

pub returns : goal.returns
returns c = digest_means
