use Rattle.std.proofs.Common.{length}
use Rattle.tpm_auth.proofs.entries.+any_encrypts.Given as goal

abbrev pub decreases-any_encrypts : goal.decreases-any_encrypts
decreases-any_encrypts l = length l.entries.now
