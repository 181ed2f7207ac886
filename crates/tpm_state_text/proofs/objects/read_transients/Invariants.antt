use Rattle.std.proofs.Common.{◌≡◌, length}
use Rattle.tpm_record.specs.Objects.{objects_of}
use Rattle.tpm_image_text.specs.Body.{object_fields_in}
use Rattle.tpm_state_text.specs.Places.{optional_in}
use Rattle.tpm_state_text.specs.Objects.{transients_in}
use Rattle.tpm_state_text.proofs.Loops.{IsFreeFrom, left}
use Rattle.tpm_state_text.proofs.objects.read_transients.Given as goal

-- The slots read so far, followed by the unread slots, are the whole list. All later slots are
-- still free.
abbrev pub invariant-loop-place : goal.invariant-loop-place
invariant-loop-place g l = record {
  joined : left (optional_in object_fields_in) 8 l.place (objects_of g.O.Slots.places l.objects)
      l.text ≡ transients_in l.fn.text;
  size : length (objects_of g.O.Slots.places l.objects) ≡ 8;
  free : IsFreeFrom l.place (objects_of g.O.Slots.places l.objects);
}
