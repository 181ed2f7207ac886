use Rattle.std.proofs.Common.{◌∙◌, ap}
use Rattle.tpm_hash_state.proofs.Absorbing.{absorbed_alg}
use Rattle.tpm_hash_state.proofs.hmac.HmacState.digest.Goals as goal
use Rattle.tpm_hash_state.specs.Hmac.{hmac_digest}
use Rattle.tpm_hash_state.specs.State.{state_after_bytes, state_alg, state_digest}
use Rattle.tpm_hash_state.specs.declared.state.HashState.{HashState}
use Rattle.tpm_mac.specs.Digest.{digest_size}

pub returns-clause-value : goal.returns-clause-value
unfolding hmac_digest
returns-clause-value c =
    let bytes = c.as_slice.ensures.value ∙ c.digest.ensures.value in
    c.digest-2.ensures.value ∙ ap state_digest
    (c.absorb.ensures ∙ ap (state_after_bytes c.args.self.now.outer) bytes)

pub returns-clause-size : goal.returns-clause-size
returns-clause-size c =
    c.digest-2.ensures.size
    ∙ ap (λ (s : HashState). digest_size (state_alg s)) c.absorb.ensures
    ∙ ap digest_size (absorbed_alg c.args.self.now.outer _)
