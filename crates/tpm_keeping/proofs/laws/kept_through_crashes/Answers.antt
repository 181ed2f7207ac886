use Rattle.tpm_keeping.proofs.Runs.{kept_through_crashes}
use Rattle.tpm_keeping.proofs.laws.kept_through_crashes.Goals as goal

pub returns : goal.returns
returns c = kept_through_crashes
