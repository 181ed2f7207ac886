use Rattle.std.proofs.Common.{take}
use Rattle.tpm_mac.proofs.mac.Mac.take_parts.Given as goal
use Rattle.tpm_mac.specs.Digest.{joined_text}
use Rattle.tpm_mac.specs.Mac.{MacTakes}

-- The Mac was fed the parts before this index.
abbrev pub invariant-loop-part : goal.invariant-loop-part
invariant-loop-part l = MacTakes l.fn.self (joined_text (take l.part-index l.parts)) l.self
