use Rattle.std.proofs.Common.{◌≡◌, ◌≤◌, ◌+◌, ◌-◌, drop, length}
use Rattle.tpm_kept_journal.specs.Salvage.{entries_size}
use Rattle.tpm_kept_device.proofs.front.entries_size.Given as goal

-- The size of all entries is `taken`, the size of the entries read so far, plus the size of the
-- entries in the remaining bytes.
abbrev pub invariant-loop-size : goal.invariant-loop-size
invariant-loop-size l =
    (l.taken ≤ length l.text)
    × (entries_size l.fn.sum l.text ≡ l.taken + entries_size l.after (drop l.taken l.text))

abbrev pub decreases-loop-size : goal.decreases-loop-size
decreases-loop-size l = length l.text - l.taken
