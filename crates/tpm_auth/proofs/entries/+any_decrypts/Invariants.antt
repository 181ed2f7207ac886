use Rattle.std.proofs.Common.{length}
use Rattle.tpm_auth.proofs.entries.+any_decrypts.Given as goal

abbrev pub decreases-any_decrypts : goal.decreases-any_decrypts
decreases-any_decrypts l = length l.entries.now
