use Rattle.std.proofs.Common.{◌≡◌, length}
use Rattle.tpm_session.specs.Sessions.{places_of}
use Rattle.tpm_state_text.specs.Sessions.{session_in, sessions_in}
use Rattle.tpm_state_text.specs.Places.{optional_in}
use Rattle.tpm_state_text.proofs.Loops.{IsFreeFrom, left}
use Rattle.tpm_state_text.proofs.sessions.read_sessions.Given as goal

-- The slots read so far, followed by the unread slots, are the whole list. All later slots are
-- still free.
abbrev pub invariant-loop-place : goal.invariant-loop-place
invariant-loop-place g l = record {
  joined : left (optional_in session_in) 16 l.place (places_of g.S.Slots.places l.sessions) l.text
      ≡ sessions_in l.fn.text;
  size : length (places_of g.S.Slots.places l.sessions) ≡ 16;
  free : IsFreeFrom l.place (places_of g.S.Slots.places l.sessions);
}
