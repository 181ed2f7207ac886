use Rattle.tpm_step.proofs.history.DeviceCounters.{begins_above, exceeds_earlier, keeps_counter}
use Rattle.tpm_step.proofs.history.counter_laws.Goals as goal

pub returns-clause-keeps : goal.returns-clause-keeps
returns-clause-keeps c = keeps_counter

pub returns-clause-begins : goal.returns-clause-begins
returns-clause-begins c = begins_above

pub returns-clause-exceeds : goal.returns-clause-exceeds
returns-clause-exceeds c = exceeds_earlier
