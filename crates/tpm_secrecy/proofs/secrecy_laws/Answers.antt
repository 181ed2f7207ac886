use Rattle.tpm_secrecy.proofs.Data.{event_tells_nothing, read_on_both, run_tells_nothing}
use Rattle.tpm_secrecy.proofs.secrecy_laws.Goals as goal

pub returns-clause-event : goal.returns-clause-event
returns-clause-event c = event_tells_nothing

pub returns-clause-both : goal.returns-clause-both
returns-clause-both c = read_on_both

pub returns-clause-run : goal.returns-clause-run
returns-clause-run c = run_tells_nothing
