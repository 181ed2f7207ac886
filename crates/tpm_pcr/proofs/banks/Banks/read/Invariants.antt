use Rattle.std.proofs.Common.{◌≡◌, ◌-◌, ◌++◌, length, drop}
use Rattle.tpm_types_common.specs.DigestList.{digests_of}
use Rattle.tpm_pcr.specs.Banks.{answer_selection, read_values}
use Rattle.tpm_pcr.proofs.banks.Banks.read.Given as goal

-- The banks read so far, followed by the remaining banks, are all the banks to read.
abbrev pub invariant-loop-bank : goal.invariant-loop-bank
invariant-loop-bank l =
    let left = drop l.bank-index l.bank-items in
    let room = 8 - length l.values.items in
    record {
      banks : l.banks.items ++ answer_selection room left ≡ answer_selection 8 l.bank-items;
      values : digests_of l.values.items ++ read_values l.self room left
          ≡ read_values l.self 8 l.bank-items;
      count : length l.banks.items ≡ l.bank-index;
    }
