use Rattle.std.proofs.Common.{◌≡◌}
use Rattle.sha2.specs.Sha256.{rounds}
use Rattle.tpm_hash_state.proofs.sha256_block.after_rounds.Given as goal

-- The variables are the working variables after the rounds before this one.
abbrev pub invariant-loop-t : goal.invariant-loop-t
invariant-loop-t l = l.variables ≡ rounds l.fn.hash l.schedule l.t
