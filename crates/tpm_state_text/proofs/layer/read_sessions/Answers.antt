use Rattle.std.proofs.Common.{◌∙◌}
use Rattle.std.specs.Int.{w64}
use Rattle.tpm_image_text.specs.Fields.{number_in}
use Rattle.tpm_state_text.proofs.Loops.{left_more, length_set}
use Rattle.tpm_state_text.proofs.layer.read_sessions.Goals as goal

pub loop-place-preserved : goal.loop-place-preserved
loop-place-preserved c =
    let i = c.loop-place.invariant in
    let sessions = c.loop-place.sessions in
    record {
      joined = left_more (number_in w64) 16 c.loop-place.place sessions _ c.loop-place.ahead _
          c.loop-place-test.true i.size c.in_ok-sessions.ensures ∙ i.joined;
      size = length_set sessions c.loop-place.place c.in_ok-sessions.field-0 ∙ i.size;
    }
