use Rattle.std.proofs.Common.{◌≡◌, ◌≤◌, ◌*◌, length, take}
use Rattle.std.specs.List.{flat_map}
use Rattle.tpm_completion.specs.Capability.{commands_by}
use Rattle.tpm_completion.proofs.capability.list_commands.Given as goal

abbrev pub invariant-loop-code : goal.invariant-loop-code
invariant-loop-code l = record {
  are : l.elements.items ≡ flat_map commands_by (take l.code-index l.codes);
  count : length l.elements.items ≤ 3 * l.code-index;
}
