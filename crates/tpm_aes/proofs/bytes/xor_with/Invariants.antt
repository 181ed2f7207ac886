use Rattle.std.proofs.Common.{◌≡◌, ◌++◌, drop, take}
use Rattle.tpm_aes.proofs.bytes.xor_with.Given as goal
use Rattle.tpm_aes.specs.Cipher.{xor_of}

-- The bytes before this index have been XORed.
abbrev pub invariant-loop-index : goal.invariant-loop-index
invariant-loop-index l =
    l.bytes ≡ xor_of (take l.index l.initial.bytes) (take l.index l.other)
    ++ drop l.index l.initial.bytes
