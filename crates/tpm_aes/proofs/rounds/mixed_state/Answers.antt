use Rattle.std.proofs.Common.{rules}
use Rattle.tpm_aes.proofs.Columns.{mixed_words}
use Rattle.tpm_aes.proofs.rounds.mixed_state.Goals as goal

pub returns : goal.returns
returns c =
    mixed_words c.args.state _ _ _ _ _ _ _ _ (search rules)
    c.to_le_bytes.ensures c.to_le_bytes-2.ensures c.to_le_bytes-3.ensures c.to_le_bytes-4.ensures
    c.mixed_column.ensures c.mixed_column-2.ensures c.mixed_column-3.ensures
    c.mixed_column-4.ensures
