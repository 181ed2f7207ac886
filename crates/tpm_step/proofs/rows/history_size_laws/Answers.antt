use Rattle.tpm_step.proofs.rows.SizedSteps.{histories_sized}
use Rattle.tpm_step.proofs.rows.history_size_laws.Goals as goal

pub returns : goal.returns
returns c = histories_sized
