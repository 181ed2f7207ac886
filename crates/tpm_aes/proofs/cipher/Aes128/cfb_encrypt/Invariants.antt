use Rattle.std.proofs.Common.{◌≡◌, ◌*◌, ◌≤◌, length}
use Rattle.tpm_aes.proofs.TextBlocks.{IsDoneTo}
use Rattle.tpm_aes.proofs.Undone.{cipher_piece}
use Rattle.tpm_aes.proofs.cipher.Aes128.cfb_encrypt.Given as goal
use Rattle.tpm_aes.specs.Cfb.{cipher_block}

-- The blocks before this index are encrypted. The feedback is the ciphertext block before this
-- index (at first the IV), unless that block is short.
abbrev pub invariant-loop-index : goal.invariant-loop-index
invariant-loop-index l =
    IsDoneTo (cipher_piece l.self l.iv l.initial.text) l.initial.text l.text l.index
    × (16 * l.index ≤ length l.initial.text
    → l.feedback ≡ cipher_block l.self l.iv l.initial.text l.index)
