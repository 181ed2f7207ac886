use Rattle.std.proofs.Common.{◌≡◌, ◌≤◌, length, take}
use Rattle.tpm_types_common.specs.AuthValue.{trimmed}
use Rattle.tpm_types_common.proofs.auth_value.trimmed.Given as goal

-- All bytes after the prefix are zeros. Therefore trimming the prefix has the same result as
-- trimming all bytes.
abbrev pub invariant-loop-size : goal.invariant-loop-size
invariant-loop-size l = (l.size ≤ length l.bytes)
    × (trimmed (take l.size l.bytes) ≡ trimmed l.bytes)

abbrev pub decreases-loop-size : goal.decreases-loop-size
decreases-loop-size l = l.size
