use Rattle.std.proofs.Common.{arith, rules}
use Rattle.tpm_aes.proofs.Columns.{constant_at, scheduled_sum}
use Rattle.tpm_aes.proofs.key_schedule.scheduled_word.Goals as goal

pub returns : goal.returns
returns c =
    scheduled_sum c.args.round c.args.word _ _ _ _ c.to_le_bytes.ensures c.substituted_word.ensures
    c.from.ensures (search rules) (constant_at c.args.round (omega arith) (omega arith))
