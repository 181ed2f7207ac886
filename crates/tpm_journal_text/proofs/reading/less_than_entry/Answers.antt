use Rattle.std.proofs.Common.{refl}
use Rattle.tpm_journal_text.proofs.Damage.{lines_end_otherwise}
use Rattle.tpm_journal_text.proofs.LineFeeds.{lines_end_not, lines_end_so}
use Rattle.tpm_journal_text.proofs.Tails.{torn_by_mark}
use Rattle.tpm_journal_text.proofs.reading.less_than_entry.Goals as goal

pub returns-then-lines_end : goal.returns-then-lines_end
returns-then-lines_end c sum begins long has =
    torn_by_mark sum c.args.text.now c.args.mark.now begins long has
    (lines_end_so c.args.mark.now c.args.text.now _ _ c.split_at.ensures.back c.drawn_end.ensures
    (c.if-lines_end.ensures.yes refl))

pub returns-else-lines_end : goal.returns-else-lines_end
returns-else-lines_end c sum begins long has =
    lines_end_otherwise sum c.args.text.now c.args.mark.now begins long has
    (lines_end_not c.args.mark.now c.args.text.now _ _ c.split_at.ensures.back c.drawn_end.ensures
    (c.if-lines_end.ensures.no refl))
