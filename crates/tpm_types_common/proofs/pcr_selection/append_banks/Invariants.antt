use Rattle.std.proofs.Common.{◌≡◌, ◌+◌, ◌*◌, ◌≤◌, ◌++◌, length, take}
use Rattle.tpm_types_common.specs.PcrSelection.{banks_text}
use Rattle.tpm_types_common.proofs.pcr_selection.append_banks.Given as goal

-- The loop has written the banks before this index, and the sink has room for the remaining banks.
abbrev pub invariant-loop-bank : goal.invariant-loop-bank
invariant-loop-bank g l = record {
  so_far : l.sink ≡ l.fn.sink ++ banks_text (take l.bank-index l.banks);
  size : length l.sink ≡ length l.fn.sink + 6 * l.bank-index;
  room : length l.fn.sink + 6 * length l.banks ≤ g.row.N;
}
