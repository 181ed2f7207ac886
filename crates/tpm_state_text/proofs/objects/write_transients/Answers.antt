use Rattle.std.proofs.Common.{arith, ap, ◌∙◌, ◌++◌}
use Rattle.tpm_record.specs.Objects.{objects_of}
use Rattle.tpm_image_text.specs.Body.{object_fields_text}
use Rattle.tpm_state_text.specs.Places.{optional_text}
use Rattle.tpm_state_text.proofs.Loops.{placed_more}
use Rattle.tpm_state_text.proofs.objects.write_transients.Goals as goal

pub loop-place-preserved : goal.loop-place-preserved
loop-place-preserved g c =
    let all = objects_of g.O.Slots.places c.args.objects.now in
    let text = c.loop-place.text in
    let one = c.write_optional_object.ensures in
    record {
      written = placed_more (optional_text object_fields_text) text c.write_optional_object.new.text
          _ all c.loop-place.place (omega (arith, c.read_sizes.ensures.all, c.loop-place-test.true))
          (one.written ∙ ap (λ (v : _). text ++ optional_text object_fields_text v)
          c.in_place.ensures) c.loop-place.invariant.written;
      size = omega (arith, one.small, c.loop-place.invariant.size);
    }
