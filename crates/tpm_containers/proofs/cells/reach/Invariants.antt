use Rattle.std.proofs.Common.{◌≡◌, ◌≤◌, length}
use Rattle.tpm_containers.specs.Slots.{padded_to}
use Rattle.tpm_containers.proofs.cells.reach.Given as goal

-- The slots are unchanged, and `count` is the number of cells.
abbrev pub invariant-loop-count : goal.invariant-loop-count
invariant-loop-count g l = record {
  same : padded_to g.row.N (g.C.Items.items l.cells)
      ≡ padded_to g.row.N (g.C.Items.items l.fn.cells);
  size : length (g.C.Items.items l.cells) ≡ l.count;
  few : length (g.C.Items.items l.cells) ≤ g.row.N;
}
