use Rattle.tpm_text.proofs.Traceable.{executed}
use Rattle.tpm_text.proofs.trace.traceable_laws.Goals as goal

pub returns : goal.returns
returns c = executed
