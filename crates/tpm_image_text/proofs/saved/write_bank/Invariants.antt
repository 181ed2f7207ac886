use Rattle.std.proofs.Common.{◌≡◌, ◌+◌, ◌*◌, ◌++◌, drop, length}
use Rattle.std.specs.List.{flat_map}
use Rattle.tpm_image_text.proofs.saved.write_bank.Given as goal

-- The values written so far, followed by the values still to be written, are the whole list.
abbrev pub invariant-loop-value : goal.invariant-loop-value
invariant-loop-value g l = record {
  written : l.text ++ flat_map (λ value. value) (drop l.value-index l.values)
      ≡ l.fn.text ++ flat_map (λ value. value) l.values;
  size : length l.text ≡ length l.fn.text + l.value-index * g.row.N;
}
