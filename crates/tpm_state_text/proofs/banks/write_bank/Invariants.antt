use Rattle.std.proofs.Common.{◌≡◌, ◌+◌, ◌*◌, ◌++◌, drop, length}
use Rattle.tpm_state_text.specs.Banks.{bank_text}
use Rattle.tpm_state_text.proofs.banks.write_bank.Given as goal

-- The values written so far, followed by the unwritten values, are the whole list.
abbrev pub invariant-loop-value : goal.invariant-loop-value
invariant-loop-value g l = record {
  written : l.text ++ bank_text (drop l.value-index l.values) ≡ l.fn.text ++ bank_text l.values;
  size : length l.text ≡ length l.fn.text + l.value-index * g.row.N;
}
