use Rattle.std.proofs.Common.{◌∙◌, length, ◌*◌, ◌%◌, ◌^◌, ap}
use Rattle.std.specs.Int.{to_be_bytes, w64}
use Rattle.tpm_hash_state.proofs.Absorbing.{absorbs_in_parts, length-state_digest}
use Rattle.tpm_hash_state.proofs.state.HashState.digest.Goals as goal
use Rattle.tpm_hash_state.specs.State.{state_after_bytes, state_digest, value_bytes}
use Rattle.tpm_hash_state.specs.declared.state.HashState.{HashState}

pub returns-clause-value : goal.returns-clause-value
unfolding state_digest
returns-clause-value c =
    let state = c.args.self.now in
    let first = c.absorb.ensures ∙ ap (state_after_bytes state) c.padding_start.ensures in
    let both = c.absorb-2.ensures
    ∙ (λ i. state_after_bytes (first i) (c.to_be_bytes.ensures i))
    ∙ absorbs_in_parts state _ (to_be_bytes w64 (state.length * 8 % 2 ^ 64)) in
    c.bytes.ensures ∙ ap (λ (s : HashState). value_bytes s.chaining) both

pub returns-clause-size : goal.returns-clause-size
returns-clause-size c = ap length (returns-clause-value c) ∙ length-state_digest c.args.self.now
