use Rattle.tpm_step.proofs.history.SessionStarts.{starts_new}
use Rattle.tpm_step.proofs.history.session_start_laws.Goals as goal

pub returns : goal.returns
returns c = starts_new
