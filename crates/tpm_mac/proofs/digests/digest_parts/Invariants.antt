use Rattle.std.proofs.Common.{take}
use Rattle.tpm_mac.proofs.digests.digest_parts.Given as goal
use Rattle.tpm_mac.specs.Digest.{joined_text}
use Rattle.tpm_mac.specs.Hasher.{Holds}

-- The hasher was fed the parts before this index.
abbrev pub invariant-loop-part : goal.invariant-loop-part
invariant-loop-part l = Holds l.hasher l.fn.alg (joined_text (take l.part-index l.parts))
