use Rattle.std.proofs.Common.{◌≡◌, ◌+◌, ◌-◌, ◌≤◌, length}
use Rattle.tpm_types_command.specs.Command.{handles_at}
use Rattle.tpm_bytes.proofs.Joining.{behind}
use Rattle.tpm_types_command.proofs.command.reading.read_handles.Given as goal

-- The handles read so far, followed by the handles in the remaining bytes, are all handles of the
-- command.
abbrev pub invariant-loop-before : goal.invariant-loop-before
invariant-loop-before l = record {
  joined : behind l.handles.items (handles_at (l.before + 1) (l.count - l.before) l.ahead)
      ≡ handles_at 1 l.count l.text;
  size : length l.handles.items ≡ l.before;
  few : l.count ≤ 3;
}
