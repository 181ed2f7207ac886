use Rattle.tpm_step.proofs.step.Placing.{placing_leads}
use Rattle.tpm_step.proofs.step.PowerCycles.{leads_on, leads_too, power_cycle_leads}
use Rattle.tpm_step.proofs.history.stretch_laws.Goals as goal

pub returns-clause-power_cycle : goal.returns-clause-power_cycle
returns-clause-power_cycle c = power_cycle_leads

pub returns-clause-placed : goal.returns-clause-placed
returns-clause-placed c = placing_leads

pub returns-clause-joined : goal.returns-clause-joined
returns-clause-joined c = leads_on

pub returns-clause-wider : goal.returns-clause-wider
returns-clause-wider c = leads_too
