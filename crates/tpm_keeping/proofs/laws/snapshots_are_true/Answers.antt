use Rattle.tpm_keeping.proofs.Promises.{snapshots_are_true}
use Rattle.tpm_keeping.proofs.laws.snapshots_are_true.Goals as goal

pub returns : goal.returns
returns c = snapshots_are_true
