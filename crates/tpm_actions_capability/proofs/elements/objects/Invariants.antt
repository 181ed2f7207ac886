use Rattle.tpm_bytes.specs.Numbers.{numbers_below}
use Rattle.std.proofs.Common.{◌≡◌, ◌≤◌, length}
use Rattle.std.specs.List.{flat_map}
use Rattle.tpm_actions_capability.specs.Elements.{object_element}
use Rattle.tpm_actions_capability.proofs.elements.objects.Given as goal

abbrev pub invariant-loop-place : goal.invariant-loop-place
invariant-loop-place g l = record {
  are : l.elements.items ≡ flat_map (object_element (g.K.Keep.record_of l.keep))
      (numbers_below l.place);
  count : length l.elements.items ≤ l.place;
}
