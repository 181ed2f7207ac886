use Rattle.std.proofs.Common.{◌≡◌, ◌≤◌, ◌+◌, ◌*◌, ◌++◌, drop, length}
use Rattle.tpm_record.specs.Objects.{objects_of}
use Rattle.tpm_image_text.specs.Body.{object_fields_text}
use Rattle.tpm_state_text.specs.Places.{places_text}
use Rattle.tpm_state_text.proofs.objects.write_transients.Given as goal

-- The slots written so far, followed by the unwritten slots, are the whole list.
abbrev pub invariant-loop-place : goal.invariant-loop-place
invariant-loop-place g l = record {
  written : l.text ++ places_text object_fields_text
      (drop l.place (objects_of g.O.Slots.places l.objects))
      ≡ l.fn.text ++ places_text object_fields_text (objects_of g.O.Slots.places l.objects);
  size : length l.text ≤ length l.fn.text + 327 * l.place;
}
