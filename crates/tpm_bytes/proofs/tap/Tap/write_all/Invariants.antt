use Rattle.std.proofs.Common.{◌≡◌, ◌++◌, length, List, ℕ}
use Rattle.std.specs.Io.KnownBytes.{Appends}
use Rattle.tpm_bytes.specs.Tap.{device_of, marks_of}
use Rattle.tpm_bytes.proofs.tap.Tap.write_all.Given as goal

-- The device has received the bytes written so far, and the marks are unchanged.
abbrev pub invariant-loop-left : goal.invariant-loop-left
invariant-loop-left g l =
    ((sent : List ℕ) × (l.fn.text ≡ sent ++ l.left)
    × Appends (g.D.Write.contents (device_of l.fn.self))
    (g.D.Write.contents (device_of l.self)) sent)
    × (marks_of l.self ≡ marks_of l.fn.self)

abbrev pub decreases-loop-left : goal.decreases-loop-left
decreases-loop-left g l = length l.left
