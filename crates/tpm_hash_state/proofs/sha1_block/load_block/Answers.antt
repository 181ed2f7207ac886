use Rattle.std.proofs.Common.{arith, refl}
use Rattle.sha1.specs.Sha1.{first_words}
use Rattle.tpm_hash_state.proofs.Words1.{first_words_more}
use Rattle.tpm_hash_state.proofs.sha1_block.load_block.Goals as goal

pub loop-t-init : goal.loop-t-init
unfolding first_words
loop-t-init c = refl

pub loop-t-preserved : goal.loop-t-preserved
loop-t-preserved c =
    first_words_more c.loop-t.words c.args.block.now c.loop-t.t _ (omega arith) c.loop-t.invariant
    c.word_at.ensures
