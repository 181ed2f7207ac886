use Rattle.std.proofs.Common.{◌≡◌, ◌≤◌, ◌+◌, ◌*◌, ◌++◌, drop, length}
use Rattle.tpm_session.specs.Sessions.{places_of}
use Rattle.tpm_state_text.specs.Sessions.{session_text}
use Rattle.tpm_state_text.specs.Places.{places_text}
use Rattle.tpm_state_text.proofs.sessions.write_sessions.Given as goal

-- The slots written so far, followed by the unwritten slots, are the whole list.
abbrev pub invariant-loop-place : goal.invariant-loop-place
invariant-loop-place g l = record {
  written : l.text ++ places_text session_text
      (drop l.place (places_of g.S.Slots.places l.sessions))
      ≡ l.fn.text ++ places_text session_text (places_of g.S.Slots.places l.sessions);
  size : length l.text ≤ length l.fn.text + 237 * l.place;
}
