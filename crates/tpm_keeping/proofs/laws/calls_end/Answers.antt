use Rattle.tpm_keeping.proofs.Ending.{calls_end}
use Rattle.tpm_keeping.proofs.laws.calls_end.Goals as goal

pub returns : goal.returns
returns c = calls_end
