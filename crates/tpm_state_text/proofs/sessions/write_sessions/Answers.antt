use Rattle.std.proofs.Common.{arith, ap, ◌∙◌, ◌++◌}
use Rattle.tpm_session.specs.Sessions.{places_of}
use Rattle.tpm_state_text.specs.Sessions.{session_text}
use Rattle.tpm_state_text.specs.Places.{optional_text}
use Rattle.tpm_state_text.proofs.Loops.{placed_more}
use Rattle.tpm_state_text.proofs.sessions.write_sessions.Goals as goal

pub loop-place-preserved : goal.loop-place-preserved
loop-place-preserved g c =
    let all = places_of g.S.Slots.places c.args.sessions.now in
    let text = c.loop-place.text in
    let one = c.write_optional_session.ensures in
    record {
      written = placed_more (optional_text session_text) text c.write_optional_session.new.text _
          all c.loop-place.place (omega (arith, c.read_sizes.ensures.all, c.loop-place-test.true))
          (one.written ∙ ap (λ (v : _). text ++ optional_text session_text v) c.in_place.ensures)
          c.loop-place.invariant.written;
      size = omega (arith, one.small, c.loop-place.invariant.size);
    }
