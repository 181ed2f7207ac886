use Rattle.std.proofs.Common.{◌≡◌, ◌+◌, ◌≤◌, ◌++◌, length, take}
use Rattle.std.specs.List.{flat_map}
use Rattle.tpm_types_command.specs.Command.{handle_text}
use Rattle.tpm_types_command.proofs.command_ref.writing.write_handles.Given as goal

-- The loop has written the handles before this index, and the sink has room for all handles.
abbrev pub invariant-loop-handle : goal.invariant-loop-handle
invariant-loop-handle g l = record {
  so_far : l.sink ≡ l.fn.sink ++ flat_map handle_text (take l.handle-index l.handles);
  room : length l.fn.sink + length (flat_map handle_text l.handles) ≤ g.row.N;
}
