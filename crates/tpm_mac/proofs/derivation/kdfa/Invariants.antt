use Rattle.std.proofs.Common.{◌≡◌, ◌*◌, length, take}
use Rattle.tpm_mac.proofs.Blocks.{blocks_to}
use Rattle.tpm_mac.proofs.derivation.kdfa.Given as goal

-- The output starts with the blocks before this index. The last block is truncated if it does not
-- fit.
abbrev pub invariant-loop-index : goal.invariant-loop-index
invariant-loop-index l = take (l.index * l.size) l.out
    ≡ take (length l.out)
    (blocks_to l.fn.alg l.fn.key l.label l.context_u l.context_v (length l.out) l.index)
