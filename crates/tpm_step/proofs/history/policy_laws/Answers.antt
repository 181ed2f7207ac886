use Rattle.tpm_step.proofs.uses.PolicyLaws.{as_written, its_command, pcrs_as_they_are, quiet_values}
use Rattle.tpm_step.proofs.history.policy_laws.Goals as goal

pub returns-clause-pcrs : goal.returns-clause-pcrs
returns-clause-pcrs c = pcrs_as_they_are

pub returns-clause-quiet : goal.returns-clause-quiet
returns-clause-quiet c = quiet_values

pub returns-clause-written : goal.returns-clause-written
returns-clause-written c = as_written

pub returns-clause-command : goal.returns-clause-command
returns-clause-command c = its_command
