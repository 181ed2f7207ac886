use Rattle.std.proofs.Common.{rules}
use Rattle.tpm_hash_state.proofs.hmac.HmacState.new.Goals as goal
use Rattle.tpm_hash_state.specs.Hmac.{hmac_state}

pub returns : goal.returns
unfolding hmac_state
returns c = search rules
