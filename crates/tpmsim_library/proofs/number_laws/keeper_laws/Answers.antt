use Rattle.tpmsim_library.proofs.Numbers.{force_numbers, job_numbers, tasks_are_numbered, fault_numbers, reports_are_numbered, no_other_numbers}
use Rattle.tpmsim_library.proofs.number_laws.keeper_laws.Goals as goal

pub returns-clause-forces : goal.returns-clause-forces
returns-clause-forces c = force_numbers

pub returns-clause-jobs : goal.returns-clause-jobs
returns-clause-jobs c = job_numbers

pub returns-clause-tasks : goal.returns-clause-tasks
returns-clause-tasks c = tasks_are_numbered

pub returns-clause-faults : goal.returns-clause-faults
returns-clause-faults c = fault_numbers

pub returns-clause-reports : goal.returns-clause-reports
returns-clause-reports c = reports_are_numbered

pub returns-clause-others : goal.returns-clause-others
returns-clause-others c = no_other_numbers
