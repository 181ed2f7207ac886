use Rattle.std.proofs.Common.{◌≡◌, ◌≤◌, ◌+◌, ◌*◌, ◌++◌, drop, length}
use Rattle.tpm_completion.specs.Listing.{text_of}
use Rattle.tpm_completion.proofs.listing.tell_elements.Given as goal

-- The bytes written so far, followed by the encodings of the remaining elements, are the final
-- output.
abbrev pub invariant-loop-element : goal.invariant-loop-element
invariant-loop-element l = record {
  told : l.text ++ text_of l.form l.from l.left (drop l.element-index l.elements)
      ≡ l.fn.text ++ text_of l.form l.from l.count l.elements;
  room : length l.text + 8 * l.left ≤ 521;
}
