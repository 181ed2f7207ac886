use Rattle.std.proofs.Common.{◌≡◌, ◌≤◌, length, take}
use Rattle.std.specs.List.{flat_map}
use Rattle.tpm_actions_capability.specs.Elements.{served_element}
use Rattle.tpm_actions_capability.proofs.elements.list_commands.Given as goal

abbrev pub invariant-loop-code : goal.invariant-loop-code
invariant-loop-code l = record {
  are : l.elements.items ≡ flat_map (served_element l.profile) (take l.code-index l.codes);
  count : length l.elements.items ≤ l.code-index;
}
