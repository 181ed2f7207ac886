use Rattle.tpm_bytes.specs.Numbers.{numbers_below}
use Rattle.std.proofs.Common.{◌≡◌, ◌-◌, ◌++◌, length, take, map, filter}
use Rattle.tpm_types_common.specs.Pcr.{is_selected}
use Rattle.tpm_types_common.specs.DigestList.{digests_of}
use Rattle.tpm_pcr.specs.Banks.{pcr_value, select_with}
use Rattle.tpm_pcr.proofs.banks.Banks.read_bank.Given as goal

-- The selected PCRs that were visited so far have been read, up to a total of eight values.
abbrev pub invariant-loop-number : goal.invariant-loop-number
invariant-loop-number l =
    let room = 8 - length l.fn.values.items in
    let chosen = filter (is_selected l.bank.select) (numbers_below l.number) in
    record {
      select : l.select ≡ select_with (take room chosen);
      values : digests_of l.values.items ≡ digests_of l.fn.values.items
          ++ map (pcr_value l.self l.bank.hash) (take room chosen);
    }
