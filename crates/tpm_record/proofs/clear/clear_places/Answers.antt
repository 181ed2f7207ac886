use Rattle.std.proofs.Common.{◌≡◌, ◌+◌, ℕ, suc, cond, List, Option, None, length, sym, ap, ◌∙◌, arith}
use Rattle.std.specs.Prelude.{slice_set}
use Rattle.tpm_object.specs.declared.object.Object.{Object}
use Rattle.tpm_containers.specs.Slots.{at_place}
use Rattle.tpm_record.specs.Clear.{is_place_cleared}
use Rattle.tpm_record.proofs.ClearLaws.{cleared_in_turn, cleared_length, cleared_up_to}
use Rattle.tpm_record.proofs.clear.clear_places.Goals as goal

pub loop-place-preserved : goal.loop-place-preserved
loop-place-preserved g c =
    let old = g.O.Slots.places c.args.places.now in
    let i = c.loop-place.place in
    let next : suc i ≡ i + 1 = omega arith in
    record {
      cleared =
          c.clear_place.ensures.cleared
          ∙ ap (λ (l : List (Option Object)). cond (is_place_cleared (at_place l i))
          (slice_set l i None) l) c.loop-place.invariant.cleared
          ∙ cleared_in_turn old i
          ∙ ap (λ (n : ℕ). cleared_up_to n old) next;
      all = λ _.
          sym (ap (λ (l : List (Option Object)). length l) c.loop-place.invariant.cleared
          ∙ cleared_length i old)
          ∙ c.clear_place.ensures.all;
    }
