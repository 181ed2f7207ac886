use Rattle.std.proofs.Common.{◌≡◌, length}
use Rattle.std.specs.Int.{w64}
use Rattle.tpm_bytes.specs.Many.{many_at}
use Rattle.tpm_image_text.specs.Fields.{number_in}
use Rattle.tpm_state_text.proofs.Loops.{left}
use Rattle.tpm_state_text.proofs.layer.read_sessions.Given as goal

-- The sessions read so far, followed by the unread sessions, are the whole list.
abbrev pub invariant-loop-place : goal.invariant-loop-place
invariant-loop-place l = record {
  joined : left (number_in w64) 16 l.place l.sessions l.ahead
      ≡ many_at (number_in w64) 16 l.fn.text;
  size : length l.sessions ≡ 16;
}
