use Rattle.tpm_step.proofs.history.Following.{stretch_follows}
use Rattle.tpm_step.proofs.history.stretch_history_laws.Goals as goal

pub returns : goal.returns
returns c = stretch_follows
