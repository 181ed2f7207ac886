use Rattle.tpm_mac.specs.Hasher.{Takes}
use Rattle.tpm_pcr.proofs.Hashing.{text_below}
use Rattle.tpm_pcr.proofs.banks.Banks.hash_bank.Given as goal

-- The values of the selected PCRs that were visited so far have been fed to the hasher.
abbrev pub invariant-loop-number : goal.invariant-loop-number
invariant-loop-number l = Takes l.fn.hasher (text_below l.self l.bank l.number) l.hasher
