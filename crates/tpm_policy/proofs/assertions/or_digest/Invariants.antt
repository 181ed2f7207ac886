use Rattle.tpm_commands.specs.CommandCode.{code_number}
use Rattle.tpm_commands.specs.declared.command_code.CommandCode.TheVariants as served
use Rattle.std.proofs.Common.{◌≡◌, ◌+◌, ◌++◌, length, replicate, take}
use Rattle.std.specs.Int.{w32, to_be_bytes}
use Rattle.std.specs.List.{flat_map}
use Rattle.tpm_mac.specs.Digest.{digest_size, joined_text}
use Rattle.tpm_types_common.specs.DigestList.{digests_of}
use Rattle.tpm_policy.proofs.assertions.or_digest.Given as goal

-- The parts collected so far are the zeros, the command code and the digests of the list that were
-- already visited.
abbrev pub invariant-loop-digest : goal.invariant-loop-digest
invariant-loop-digest l = record {
  so_far : joined_text l.parts.items ≡ replicate (digest_size l.hash) 0
      ++ to_be_bytes w32 (code_number served.PolicyOr)
      ++ flat_map (λ digest. digest) (digests_of (take l.digest-index l.digest-items));
  size : length l.parts.items ≡ l.digest-index + 2;
}
