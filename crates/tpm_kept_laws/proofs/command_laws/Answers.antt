use Rattle.tpm_kept_laws.proofs.Commands.{executes_as_told, clock_stands}
use Rattle.tpm_kept_laws.proofs.command_laws.Goals as goal

pub returns-clause-told : goal.returns-clause-told
returns-clause-told c = executes_as_told

pub returns-clause-power : goal.returns-clause-power
returns-clause-power c = clock_stands
