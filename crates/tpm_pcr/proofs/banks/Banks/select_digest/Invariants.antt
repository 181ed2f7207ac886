use Rattle.std.proofs.Common.{take}
use Rattle.std.specs.List.{concat, flat_map}
use Rattle.tpm_mac.specs.Hasher.{Holds}
use Rattle.tpm_pcr.specs.Banks.{selected_values}
use Rattle.tpm_pcr.proofs.banks.Banks.select_digest.Given as goal

-- The values of the banks that were visited so far have been fed to the hasher.
abbrev pub invariant-loop-bank : goal.invariant-loop-bank
invariant-loop-bank l =
    Holds l.hasher l.fn.hash
    (concat (flat_map (selected_values l.self) (take l.bank-index l.bank-items)))
