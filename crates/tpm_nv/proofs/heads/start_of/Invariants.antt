use Rattle.std.proofs.Common.{◌≡◌, ◌+◌, drop}
use Rattle.tpm_nv.specs.Head.{start_of}
use Rattle.tpm_nv.proofs.heads.start_of.Given as goal

-- The current offset plus the key's offset among the remaining heads is the key's offset among all
-- heads.
abbrev pub invariant-loop-other : goal.invariant-loop-other
invariant-loop-other l = l.start + start_of (drop l.other-index l.heads) l.key
    ≡ start_of l.heads l.key
