use Rattle.std.proofs.Common.{refl}
use Rattle.tpm_mac.proofs.Filling.{zeros_overwritten}
use Rattle.tpm_hash_state.proofs.hmac.zero_padded.Goals as goal

pub returns : goal.returns
returns c = zeros_overwritten _ _ _ refl c.copy_from_slice.ensures.after
