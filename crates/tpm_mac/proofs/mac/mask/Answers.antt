use Rattle.std.proofs.Common.{arith}
use Rattle.tpm_mac.proofs.Filling.{masked_more}
use Rattle.tpm_mac.proofs.mac.mask.Goals as goal

pub loop-byte-preserved : goal.loop-byte-preserved
loop-byte-preserved c =
    masked_more c.args.key.now _ c.args.pad c.loop-byte.byte-index (omega arith)
    c.loop-byte.invariant
