use Rattle.tpm_policy_meaning.proofs.Sessions.{accepted_find, demands_value}
use Rattle.tpm_policy_meaning.proofs.Spelled.{session_hashes_texts}
use Rattle.tpm_policy_meaning.proofs.session_laws.Goals as goal

pub returns-clause-find : goal.returns-clause-find
returns-clause-find c = accepted_find

pub returns-clause-texts : goal.returns-clause-texts
returns-clause-texts c = session_hashes_texts

pub returns-clause-demand : goal.returns-clause-demand
returns-clause-demand c = demands_value
