use Rattle.std.proofs.Common.{◌≡◌, ◌-◌, ◌≤◌, length, map}
use Rattle.tpm_types_command.specs.AuthArea.{entries_in}
use Rattle.tpm_types_command.specs.AuthEntry.{entry_of}
use Rattle.tpm_types_command.proofs.EntriesLemmas.{behind}
use Rattle.tpm_types_command.proofs.auth_area.read_entries.Given as goal

-- The entries read so far, followed by the entries in the remaining bytes, are all entries of the
-- area.
abbrev pub invariant-loop : goal.invariant-loop
invariant-loop l = record {
  joined : behind (map entry_of l.entries.items) (entries_in (3 - l.counter) l.left)
      ≡ entries_in 3 l.bytes;
  few : length l.entries.items ≤ l.counter;
}
