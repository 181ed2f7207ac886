use Rattle.std.proofs.Common.{◌≡◌, ◌<◌, ◌%◌, ℕ, length, slice_index}
use Rattle.tpmsim_script.proofs.script.repeated.Given as goal

abbrev pub invariant-loop-place : goal.invariant-loop-place
invariant-loop-place l =
    (length l.random ≡ 256)
    × ((k : ℕ) → k < l.place → slice_index l.random k
    ≡ slice_index l.entropy (k % length l.entropy))
