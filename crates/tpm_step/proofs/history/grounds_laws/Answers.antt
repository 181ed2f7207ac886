use Rattle.tpm_step.proofs.history.Following.{grounds_manufactured}
use Rattle.tpm_step.proofs.history.grounds_laws.Goals as goal

pub returns : goal.returns
returns c = grounds_manufactured
