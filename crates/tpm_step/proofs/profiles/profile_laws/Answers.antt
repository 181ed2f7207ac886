use Rattle.tpm_step.proofs.step.Profiles.{execution_keeps, leads_keeps}
use Rattle.tpm_step.proofs.profiles.profile_laws.Goals as goal

pub returns-clause-executed : goal.returns-clause-executed
returns-clause-executed c = λ can old event x executes. execution_keeps can old event x executes

pub returns-clause-leads : goal.returns-clause-leads
returns-clause-leads c = λ can old executions new leads. leads_keeps can old executions new leads
