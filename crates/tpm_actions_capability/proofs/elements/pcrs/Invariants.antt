use Rattle.tpm_bytes.specs.Numbers.{numbers_below}
use Rattle.std.proofs.Common.{◌≡◌, length, map}
use Rattle.tpm_actions_capability.specs.Element.{by_itself}
use Rattle.tpm_actions_capability.proofs.elements.pcrs.Given as goal

abbrev pub invariant-loop-number : goal.invariant-loop-number
invariant-loop-number l = record {
  are : l.elements.items ≡ map by_itself (numbers_below l.number);
  count : length l.elements.items ≡ l.number;
}
