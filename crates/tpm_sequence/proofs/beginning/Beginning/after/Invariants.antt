use Rattle.std.proofs.Common.{◌≡◌, take}
use Rattle.tpm_sequence.proofs.beginning.Beginning.after.Given as goal
use Rattle.tpm_sequence.specs.Beginning.{beginning_after}

-- `beginning` says how the data begin after the bytes before this index.
abbrev pub invariant-loop-byte : goal.invariant-loop-byte
invariant-loop-byte l = l.beginning ≡ beginning_after l.fn.self (take l.byte-index l.bytes)
