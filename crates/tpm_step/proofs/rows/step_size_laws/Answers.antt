use Rattle.tpm_step.proofs.rows.SizedSteps.{step_sized}
use Rattle.tpm_step.proofs.rows.step_size_laws.Goals as goal

pub returns : goal.returns
returns c = step_sized
