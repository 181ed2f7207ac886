use Rattle.tpm_keeping.proofs.Promises.{promises_are_kept}
use Rattle.tpm_keeping.proofs.laws.promises_are_kept.Goals as goal

pub returns : goal.returns
returns c = promises_are_kept
