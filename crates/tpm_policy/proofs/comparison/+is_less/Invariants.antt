use Rattle.std.proofs.Common.{length}
use Rattle.tpm_policy.proofs.comparison.+is_less.Given as goal

abbrev pub decreases-is_less : goal.decreases-is_less
decreases-is_less l = length l.bytes.now
