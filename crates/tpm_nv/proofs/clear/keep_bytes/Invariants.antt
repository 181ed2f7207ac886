use Rattle.std.proofs.Common.{◌≡◌, ◌≤◌, ◌+◌, ◌++◌, drop, length, take}
use Rattle.tpm_nv.specs.Head.{kept_bytes, total}
use Rattle.tpm_nv.proofs.clear.keep_bytes.Given as goal

-- The bytes kept so far, followed by those bytes of the remaining indices that are to be kept, are
-- all the bytes to keep.
abbrev pub invariant-loop-head : goal.invariant-loop-head
invariant-loop-head g l =
    (kept_bytes l.heads (g.R.Area.bytes l.initial.area) ≡ take l.kept (g.R.Area.bytes l.area)
    ++ kept_bytes (drop l.head-index l.heads) (drop l.start (g.R.Area.bytes l.area)))
    × (l.kept ≤ l.start)
    × (l.start + total (drop l.head-index l.heads) ≡ length (g.R.Area.bytes l.area))
    × (length (g.R.Area.bytes l.area) ≡ length (g.R.Area.bytes l.initial.area))
