use Rattle.std.proofs.Common.{◌≡◌, ◌≤◌, ◌+◌, ◌*◌, ◌++◌, drop, length}
use Rattle.tpm_types_common.specs.Limits.{answer_limit}
use Rattle.tpm_actions_capability.specs.Element.{text_of}
use Rattle.tpm_actions_capability.proofs.element.tell_elements.Given as goal

-- The bytes written so far, followed by the encoding of the remaining elements, are the complete
-- encoding.
abbrev pub invariant-loop-e : goal.invariant-loop-e
invariant-loop-e l = record {
  told : l.text ++ text_of l.telling l.from l.left (drop l.e-index l.elements)
      ≡ l.fn.text ++ text_of l.telling l.from l.count l.elements;
  room : length l.text + 8 * l.left ≤ answer_limit;
}
