use Rattle.std.proofs.Common.{rules}
use Rattle.tpm_aes.proofs.Columns.{next_words}
use Rattle.tpm_aes.proofs.key_schedule.next_round_key.Goals as goal

pub returns : goal.returns
returns c = next_words c.args.round c.scheduled_word.result c.args.key (search rules)
    c.scheduled_word.ensures
