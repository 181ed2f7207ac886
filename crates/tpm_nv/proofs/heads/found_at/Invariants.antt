use Rattle.std.proofs.Common.{◌≡◌, ◌+◌, drop}
use Rattle.tpm_containers.specs.SortedMap.{Ascends, at_key}
use Rattle.tpm_nv.specs.Head.{start_of}
use Rattle.tpm_nv.proofs.heads.found_at.Given as goal

-- A search of the remaining heads finds the same head as a search of all heads. It also finds the
-- same offset, once `start` is added to it.
abbrev pub invariant-loop-other : goal.invariant-loop-other
invariant-loop-other l =
    (l.start + start_of (drop l.other-index l.heads) l.key ≡ start_of l.heads l.key)
    × (at_key (drop l.other-index l.heads) l.key ≡ at_key l.heads l.key)
    × Ascends (drop l.other-index l.heads)
