use Rattle.tpm_sequence.proofs.AuthorizationLaws.{authorizes_by_value}
use Rattle.tpm_sequence.proofs.laws.authorization_laws.Goals as goal

pub returns : goal.returns
returns c = authorizes_by_value
