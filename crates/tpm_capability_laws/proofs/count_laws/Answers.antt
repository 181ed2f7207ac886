use Rattle.tpm_capability_laws.proofs.Counts.{lists_are_counted}
use Rattle.tpm_capability_laws.proofs.count_laws.Goals as goal

-- src/lib.rt:31:1
pub returns : goal.returns
returns c = lists_are_counted
