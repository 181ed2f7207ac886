use Rattle.std.proofs.Common.{◌≡◌, ◌++◌, drop, take}
use Rattle.tpm_hash_state.proofs.hmac.masked.Given as goal
use Rattle.tpm_mac.specs.Hmac.{masked_key}

-- The bytes before this index are masked, and the remaining bytes of the key are unchanged.
abbrev pub invariant-loop-byte : goal.invariant-loop-byte
invariant-loop-byte l = l.byte-items ≡ masked_key l.pad (take l.byte-index l.key)
    ++ drop l.byte-index l.key
