use Rattle.std.proofs.Common.{◌≡◌, take}
use Rattle.sha1.specs.Sha1.{first_words}
use Rattle.tpm_hash_state.proofs.sha1_block.load_block.Given as goal

-- The words before this index are the first words of the block.
abbrev pub invariant-loop-t : goal.invariant-loop-t
invariant-loop-t l = take l.t l.words ≡ first_words l.block l.t
