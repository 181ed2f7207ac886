use Rattle.std.proofs.Common.{rules, arith}
use Rattle.tpm_pcr.proofs.Hashing.{taken_all, taken_more}
use Rattle.tpm_pcr.proofs.banks.Banks.hash_bank.Goals as goal

pub loop-number-preserved : goal.loop-number-preserved
loop-number-preserved c =
    taken_more c.args.self.now c.args.bank.now c.loop-number.number c.unwrap-pcr.result _ _ _
    (search rules) c.loop-number.invariant c.hash_pcr.ensures

pub returns : goal.returns
returns c =
    taken_all c.args.self.now c.args.bank.now c.loop-number.number _ _ (omega arith)
    c.loop-number.invariant
