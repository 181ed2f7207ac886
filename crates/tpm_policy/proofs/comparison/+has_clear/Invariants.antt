use Rattle.std.proofs.Common.{length}
use Rattle.tpm_policy.proofs.comparison.+has_clear.Given as goal

abbrev pub decreases-has_clear : goal.decreases-has_clear
decreases-has_clear l = length l.bytes.now
