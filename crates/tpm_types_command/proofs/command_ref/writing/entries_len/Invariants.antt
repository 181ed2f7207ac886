use Rattle.std.proofs.Common.{◌≡◌, ◌*◌, ◌≤◌, length, map, take}
use Rattle.std.specs.List.{flat_map, AllByRecursion}
use Rattle.tpm_types_command.specs.AuthEntry.{HasSizes, entry_of}
use Rattle.tpm_types_command.proofs.EntriesLemmas.{text_in}
use Rattle.tpm_types_command.proofs.command_ref.writing.entries_len.Given as goal

-- `bytes` is the total size of the encoded entries before this index.
abbrev pub invariant-loop-entry : goal.invariant-loop-entry
invariant-loop-entry l = record {
  so_far : l.bytes ≡ length (flat_map text_in (take l.entry-index l.entries));
  sizes : AllByRecursion HasSizes (map entry_of (take l.entry-index l.entries));
  small : l.bytes ≤ l.entry-index * 131_079;
  few : length l.entries ≤ 3;
}
