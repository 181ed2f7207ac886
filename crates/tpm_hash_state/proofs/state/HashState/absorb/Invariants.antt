use Rattle.std.proofs.Common.{◌≡◌, length}
use Rattle.tpm_hash_state.proofs.state.HashState.absorb.Given as goal
use Rattle.tpm_hash_state.specs.State.{state_after_bytes}

-- Absorbing the rest now is the same as absorbing all bytes at the beginning.
abbrev pub invariant-loop-rest : goal.invariant-loop-rest
invariant-loop-rest l = state_after_bytes l.self l.rest ≡ state_after_bytes l.fn.self l.bytes

-- Each iteration absorbs at least one byte.
abbrev pub decreases-loop-rest : goal.decreases-loop-rest
decreases-loop-rest l = length l.rest
