use Rattle.std.proofs.Common.{◌≡◌, ◌-◌}
use Rattle.tpm_aes.proofs.cipher.Aes128.block.Given as goal
use Rattle.tpm_aes.specs.Cipher.{state_after}
use Rattle.tpm_aes.specs.Words.{bytes_of}

-- `state` is the state after the rounds before this one.
abbrev pub invariant-loop-round : goal.invariant-loop-round
invariant-loop-round l = bytes_of l.state ≡ state_after l.self l.block (l.round - 1)
