use Rattle.tpm_step.proofs.history.FailedTries.{execution_tells, try_tells}
use Rattle.tpm_step.proofs.history.failed_try_laws.Goals as goal

pub returns-clause-exactly : goal.returns-clause-exactly
returns-clause-exactly c = try_tells

pub returns-clause-answered : goal.returns-clause-answered
returns-clause-answered c = execution_tells
