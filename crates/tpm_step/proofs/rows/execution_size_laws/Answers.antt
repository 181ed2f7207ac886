use Rattle.tpm_step.proofs.rows.SizedSteps.{execution_sized}
use Rattle.tpm_step.proofs.rows.execution_size_laws.Goals as goal

pub returns : goal.returns
returns c = execution_sized
