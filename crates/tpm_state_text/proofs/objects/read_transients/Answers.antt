use Rattle.std.proofs.Common.{arith, sym, refl, ◌∙◌}
use Rattle.std.proofs.lemmas.Result.{err_from_is_err_and}
use Rattle.tpm_record.specs.Objects.{objects_of}
use Rattle.tpm_image_text.specs.Body.{object_fields_in}
use Rattle.tpm_state_text.specs.Places.{optional_in}
use Rattle.tpm_state_text.specs.Objects.{transients_in}
use Rattle.tpm_state_text.proofs.Loops.{all_free, free_more, left_begun, left_cut, left_done, left_more, length_set, place_cut, this_free, value_set}
use Rattle.tpm_state_text.proofs.objects.read_transients.Goals as goal

pub loop-place-init : goal.loop-place-init
unfolding transients_in
loop-place-init g c = record {
  joined = left_begun (optional_in object_fields_in) 8 _ c.args.text.now;
  size = rw c.requires refl;
  free = all_free 8 _ c.requires;
}

pub loop-place-preserved : goal.loop-place-preserved
loop-place-preserved g c =
    let i = c.loop-place.invariant in
    let filled = c.in_ok-read_place.ensures in
    let place = c.loop-place.place in
    let before = objects_of g.O.Slots.places c.loop-place.objects in
    let after = filled.2 ∙ value_set before place filled.0 (this_free place before i.free) in
    record {
      joined =
          rw after (left_more (optional_in object_fields_in) 8 place before filled.0
          c.loop-place.text _ c.loop-place-test.true i.size filled.1 ∙ i.joined);
      size = rw after (length_set before place filled.0 ∙ i.size);
      free = rw after (free_more place before filled.0 i.free);
    }

pub returns-in_err-read_place : goal.returns-in_err-read_place
returns-in_err-read_place g c =
    let p = err_from_is_err_and c.from_residual.result c.from_residual.ensures.1 in
    let before = objects_of g.O.Slots.places c.loop-place.objects in
    let place = c.loop-place.place in
    rw (p.1, p.2) (place_cut _ _ before _ (objects_of g.O.Slots.places c.read_place.new.objects)
    place _ _ _ _ (λ is. sym c.loop-place.invariant.joined
    ∙ left_cut (optional_in object_fields_in) 8 place before _ c.loop-place.text
    c.loop-place-test.true is) c.in_err-read_place.ensures)

pub returns : goal.returns
returns g c =
    let all = objects_of g.O.Slots.places c.loop-place.objects in
    sym c.loop-place.invariant.joined
    ∙ left_done (optional_in object_fields_in) 8 c.loop-place.place all c.loop-place.text
    (omega (arith, c.loop-place-test.false, c.loop-place.auto)) c.loop-place.invariant.size
