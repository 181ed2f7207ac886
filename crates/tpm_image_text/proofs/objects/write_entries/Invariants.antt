use Rattle.std.proofs.Common.{◌≡◌, ◌≤◌, ◌+◌, ◌*◌, ◌++◌, drop, length}
use Rattle.std.specs.List.{flat_map}
use Rattle.tpm_image_text.specs.Body.{object_text}
use Rattle.tpm_image_text.proofs.objects.write_entries.Given as goal

-- The objects written so far, followed by the objects still to be written, are the whole list.
abbrev pub invariant-loop-entry : goal.invariant-loop-entry
invariant-loop-entry l = record {
  written : l.text ++ flat_map object_text (drop l.entry-index l.entries)
      ≡ l.fn.text ++ flat_map object_text l.entries;
  size : length l.text ≤ length l.fn.text + 330 * l.entry-index;
}
