use Rattle.tpm_premises.proofs.Contexts.{has_saved_object}
use Rattle.tpm_premises.proofs.context_premise.Goals as goal

pub returns : goal.returns
returns c = has_saved_object
