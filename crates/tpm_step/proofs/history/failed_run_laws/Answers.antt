use Rattle.tpm_step.proofs.history.FailedRun.{failed_run_is}
use Rattle.tpm_step.proofs.history.failed_run_laws.Goals as goal

pub returns : goal.returns
returns c = failed_run_is
