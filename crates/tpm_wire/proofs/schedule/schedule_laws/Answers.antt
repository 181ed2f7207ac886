use Rattle.tpm_wire.proofs.Living.{schedules_lead, schedules_run, schedules_served}
use Rattle.tpm_wire.proofs.schedule.schedule_laws.Goals as goal

pub returns : goal.returns
returns c = record { leads = schedules_lead; served = schedules_served; runs = schedules_run }
