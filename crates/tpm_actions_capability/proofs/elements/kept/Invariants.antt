use Rattle.std.proofs.Common.{◌≡◌, length, map, take}
use Rattle.tpm_actions_capability.specs.Element.{by_itself}
use Rattle.tpm_actions_capability.proofs.elements.kept.Given as goal

abbrev pub invariant-loop-thing : goal.invariant-loop-thing
invariant-loop-thing g l = record {
  are : l.elements.items ≡ map (λ thing. by_itself thing.0) (take l.thing-index l.things);
  count : length l.elements.items ≡ l.thing-index;
}
