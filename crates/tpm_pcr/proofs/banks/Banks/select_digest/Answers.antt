use Rattle.tpm_pcr.proofs.Hashing.{held_more}
use Rattle.tpm_pcr.proofs.banks.Banks.select_digest.Goals as goal

pub loop-bank-preserved : goal.loop-bank-preserved
loop-bank-preserved c =
    held_more c.args.self.now _ c.loop-bank.bank-index c.bank-item.result _ _ _
    c.loop-bank-test.true c.bank-item.is c.loop-bank.invariant c.hash_bank.ensures
