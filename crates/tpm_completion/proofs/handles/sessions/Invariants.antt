use Rattle.tpm_bytes.specs.Numbers.{numbers_below}
use Rattle.std.proofs.Common.{◌≡◌, ◌≤◌, length}
use Rattle.std.specs.List.{flat_map}
use Rattle.tpm_completion.specs.Handles.{session_shown}
use Rattle.tpm_completion.proofs.handles.sessions.Given as goal

abbrev pub invariant-loop-place : goal.invariant-loop-place
invariant-loop-place g l = record {
  are : l.elements.items ≡ flat_map (session_shown (g.K.Keep.record_of l.keep) l.layer l.saved)
      (numbers_below l.place);
  count : length l.elements.items ≤ l.place;
}
