use Rattle.tpm_step.proofs.history.Following.{replays_manufactured}
use Rattle.tpm_step.proofs.history.replay_laws.Goals as goal

pub returns : goal.returns
returns c = replays_manufactured
