-- There are at most as many counters as NV indices.
use Rattle.std.proofs.Common.{ℕ, ◌≤◌, List, length, count_by}
use Rattle.std.proofs.lemmas.List.Sums.{count_by-le-length}
use Rattle.tpm_nv.specs.declared.head.Head.{Head}
use Rattle.tpm_actions_capability.specs.Properties.{is_counter}

pub few_counters : (heads : List (ℕ × Head)) → count_by is_counter heads ≤ length heads
few_counters heads = count_by-le-length is_counter heads
