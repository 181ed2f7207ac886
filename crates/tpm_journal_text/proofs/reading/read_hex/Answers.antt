use Rattle.std.proofs.Common.{◌*◌, length, take, ap, ◌∙◌}
use Rattle.tpm_journal_text.proofs.Pieces.{digits_read}
use Rattle.tpm_journal_text.proofs.reading.read_hex.Goals as goal

pub returns-in-Ok-clause-again : goal.returns-in-Ok-clause-again
returns-in-Ok-clause-again c bytes many are there =
    (digits_read _ bytes c.decode.new.bytes c.decode.result c.decode.ensures
    (c.split_at-2.ensures.front ∙ ap (take (2 * length c.args.room.now)) c.split_at.ensures.back
    ∙ there) are).1

pub returns-in-Err-clause-again : goal.returns-in-Err-clause-again
returns-in-Err-clause-again c bytes many are there =
    let read = digits_read _ bytes c.decode.new.bytes c.decode.result c.decode.ensures
    (c.split_at-2.ensures.front ∙ ap (take (2 * length c.args.room.now)) c.split_at.ensures.back
    ∙ there) are in
    let ok = read.0 in
    let err = c.in-Err.is in
    absurd cc
