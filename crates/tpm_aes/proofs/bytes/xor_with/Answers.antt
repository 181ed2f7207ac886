use Rattle.std.proofs.Common.{arith, ◌∙◌}
use Rattle.tpm_aes.proofs.Words.{xored_all, xored_more}
use Rattle.tpm_aes.proofs.bytes.xor_with.Goals as goal

pub loop-index-preserved : goal.loop-index-preserved
loop-index-preserved c =
    xored_more c.args.bytes.now c.args.other.now c.loop-index.bytes c.loop-index.index
    (omega arith) (omega arith) c.loop-index.invariant

pub returns : goal.returns
returns c =
    c.loop-index.invariant ∙ xored_all c.args.bytes.now c.args.other.now c.loop-index.index
    (omega arith) c.requires
