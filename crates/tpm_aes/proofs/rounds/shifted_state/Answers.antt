use Rattle.std.proofs.Common.{rules}
use Rattle.tpm_aes.proofs.Columns.{shifted_words}
use Rattle.tpm_aes.proofs.rounds.shifted_state.Goals as goal

pub returns : goal.returns
returns c =
    shifted_words c.args.state _ _ _ _ _ _ _ _ (search rules)
    c.to_le_bytes.ensures c.to_le_bytes-2.ensures c.to_le_bytes-3.ensures c.to_le_bytes-4.ensures
    c.substituted_word.ensures c.substituted_word-2.ensures c.substituted_word-3.ensures
    c.substituted_word-4.ensures
