use Rattle.std.proofs.Common.{◌≡◌, ◌-◌, length, take}
use Rattle.sha1.specs.Sha1.{schedule}
use Rattle.tpm_hash_state.proofs.sha1_block.fill_schedule.Given as goal

-- The words before this index are the first words of the schedule.
abbrev pub invariant-loop-t : goal.invariant-loop-t
invariant-loop-t l = (length l.words ≡ 80) × (take l.t l.words ≡ schedule l.block (l.t - 16))
