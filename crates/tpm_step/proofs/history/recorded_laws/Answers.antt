use Rattle.tpm_step.proofs.uses.RunReplays.{accepted_recorded}
use Rattle.tpm_step.proofs.history.recorded_laws.Goals as goal

pub returns : goal.returns
returns c = accepted_recorded
