use Rattle.std.proofs.Common.{length}
use Rattle.tpm_auth.proofs.entry_key.+decrypting_nonce.Given as goal

abbrev pub decreases-decrypting_nonce : goal.decreases-decrypting_nonce
decreases-decrypting_nonce g l = length l.entries.now
