use Rattle.std.proofs.Common.{◌≡◌, ◌+◌, ◌≤◌, ◌++◌, length, map, take}
use Rattle.std.specs.List.{flat_map, AllByRecursion}
use Rattle.tpm_types_command.specs.AuthEntry.{HasSizes, entry_of}
use Rattle.tpm_types_command.proofs.EntriesLemmas.{text_in}
use Rattle.tpm_types_command.proofs.command_ref.writing.write_entries.Given as goal

-- The loop has written the entries before this index, and the sink has room for all entries.
abbrev pub invariant-loop-entry : goal.invariant-loop-entry
invariant-loop-entry g l = record {
  so_far : l.sink ≡ l.fn.sink ++ flat_map text_in (take l.entry-index l.entries);
  sizes : AllByRecursion HasSizes (map entry_of l.entries);
  room : length l.fn.sink + length (flat_map text_in l.entries) ≤ g.row.N;
}
