use Rattle.std.proofs.Common.{◌≡◌, ◌*◌, length}
use Rattle.sha2.specs.Sha256.{digest_bytes}
use Rattle.tpm_hash_state.proofs.digest.words_text.Given as goal

-- The digest contains the words before this index, four bytes for each word.
abbrev pub invariant-loop-word : goal.invariant-loop-word
invariant-loop-word l =
    (l.digest.items ≡ digest_bytes l.words l.word-index)
    × (length l.digest.items ≡ 4 * l.word-index)
