use Rattle.std.proofs.Common.{length}
use Rattle.tpm_auth.proofs.entries.+is_named_in.Given as goal

abbrev pub decreases-is_named_in : goal.decreases-is_named_in
decreases-is_named_in l = length l.entries.now
