use Rattle.tpm_state_text.proofs.StateLaws.{text_found}
use Rattle.tpm_state_text.proofs.laws.state_laws.Goals as goal

pub returns-clause-found : goal.returns-clause-found
returns-clause-found c = text_found
