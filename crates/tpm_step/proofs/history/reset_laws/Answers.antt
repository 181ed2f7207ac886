use Rattle.tpm_step.proofs.history.FewTries.{reset_is, resets_so}
use Rattle.tpm_step.proofs.history.reset_laws.Goals as goal

pub returns : goal.returns
returns c = λ one. (resets_so one, reset_is one)
