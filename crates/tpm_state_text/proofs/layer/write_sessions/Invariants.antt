use Rattle.std.proofs.Common.{◌≡◌, ◌+◌, ◌*◌, ◌++◌, drop, length}
use Rattle.std.specs.Int.{w64, to_be_bytes}
use Rattle.std.specs.List.{flat_map}
use Rattle.tpm_state_text.proofs.layer.write_sessions.Given as goal

-- The sessions written so far, followed by the unwritten sessions, are the whole list.
abbrev pub invariant-loop-context : goal.invariant-loop-context
invariant-loop-context l = record {
  written : l.text ++ flat_map (to_be_bytes w64) (drop l.context-index l.sessions)
      ≡ l.fn.text ++ flat_map (to_be_bytes w64) l.sessions;
  size : length l.text ≡ length l.fn.text + l.context-index * 8;
}
