use Rattle.std.proofs.Common.{◌≡◌, ◌+◌, ◌≤◌, drop, length}
use Rattle.tpm_record.specs.Resolved.{AreFound}
use Rattle.tpm_bytes.specs.Many.{each_at}
use Rattle.tpm_bytes.proofs.Joining.{behind}
use Rattle.tpm_step.specs.step.General.{present_handle_at}
use Rattle.tpm_machine.proofs.decoding.read_handles.Given as goal

-- The handles read so far, together with the handles that remain to be read, are all handles of the
-- command.
abbrev pub invariant-loop-rule : goal.invariant-loop-rule
invariant-loop-rule g l =
    let at = present_handle_at (g.K.Keep.record_of l.keep) in
    record {
      joined : behind l.handles.items (each_at at l.number (drop l.rule-index l.rules) l.ahead)
          ≡ each_at at 1 l.rules l.text;
      place : l.number ≡ l.rule-index + 1;
      size : length l.handles.items ≡ l.rule-index;
      few : length l.rules ≤ 3;
      found : AreFound (g.K.Keep.record_of l.keep) l.entities.items l.handles.items;
      as_many : length l.entities.items ≡ l.rule-index;
    }
