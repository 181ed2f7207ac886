use Rattle.tpm_completion_laws.proofs.Listed.{commands_ascend, counts_add_up, counts_all, lists_its_own, pcr_properties_hold, properties_ascend, serves_its_own}
use Rattle.tpm_completion_laws.proofs.list_laws.Goals as goal

pub returns-clause-own : goal.returns-clause-own
returns-clause-own c = serves_its_own

pub returns-clause-listed : goal.returns-clause-listed
returns-clause-listed c = lists_its_own

pub returns-clause-counted : goal.returns-clause-counted
returns-clause-counted c = counts_all

pub returns-clause-commands : goal.returns-clause-commands
returns-clause-commands c = commands_ascend

pub returns-clause-properties : goal.returns-clause-properties
returns-clause-properties c = properties_ascend

pub returns-clause-counts : goal.returns-clause-counts
returns-clause-counts c = counts_add_up

pub returns-clause-pcrs : goal.returns-clause-pcrs
returns-clause-pcrs c = pcr_properties_hold
