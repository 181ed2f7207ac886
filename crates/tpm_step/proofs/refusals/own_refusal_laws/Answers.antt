use Rattle.tpm_step.proofs.refusals.Reports.{execution_reports}
use Rattle.tpm_step.proofs.refusals.own_refusal_laws.Goals as goal

pub returns-clause-execution : goal.returns-clause-execution
returns-clause-execution c = λ can old event x executes. execution_reports can old event x executes
