use Rattle.tpm_text.proofs.Counting.{pieces_counted}
use Rattle.tpm_text.proofs.list.piece_count.Goals as goal

pub returns : goal.returns
returns c = pieces_counted c.args.separator c.args.text.now c.separator_count.result
    c.separator_count.ensures
