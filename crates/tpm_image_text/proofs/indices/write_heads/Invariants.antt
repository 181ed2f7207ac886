use Rattle.tpm_image_text.specs.Sizes.{index_size}
use Rattle.tpm_types_common.specs.Limits.{nv_space_limit}
use Rattle.std.proofs.Common.{◌≡◌, ◌≤◌, ◌+◌, ◌*◌, ◌++◌, drop, length}
use Rattle.std.specs.List.{flat_map}
use Rattle.tpm_nv.specs.Head.{indices_of, total}
use Rattle.tpm_image_text.specs.Body.{index_text}
use Rattle.tpm_image_text.proofs.indices.write_heads.Given as goal

-- The indices written so far, followed by the indices still to be written, are the whole list.
abbrev pub invariant-loop-entry : goal.invariant-loop-entry
invariant-loop-entry l = record {
  written : l.text ++ flat_map index_text (indices_of (drop l.entry-index l.heads) l.left)
      ≡ l.fn.text ++ flat_map index_text (indices_of l.heads l.area);
  whole : length l.left ≡ total (drop l.entry-index l.heads);
  small : length l.left ≤ nv_space_limit;
  size : length l.text + length l.left ≤ length l.fn.text + length l.area + index_size
      * l.entry-index;
}
