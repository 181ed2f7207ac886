use Rattle.std.proofs.Common.{length}
use Rattle.tpm_auth.proofs.entry_key.+encrypting_nonce.Given as goal

abbrev pub decreases-encrypting_nonce : goal.decreases-encrypting_nonce
decreases-encrypting_nonce g l = length l.entries.now
