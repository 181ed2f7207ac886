use Rattle.tpm_step.proofs.uses.Alike.{authorize_alike}
use Rattle.tpm_step.proofs.history.alike_laws.Goals as goal

pub returns : goal.returns
returns c = authorize_alike
