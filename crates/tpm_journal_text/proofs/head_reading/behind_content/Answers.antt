use Rattle.tpm_journal_text.proofs.Digits.{end_missing}
use Rattle.tpm_journal_text.proofs.head_reading.behind_content.Goals as goal

pub returns-clause-none : goal.returns-clause-none
returns-clause-none c =
    end_missing c.args.text.now c.in_ok-digits.digits.now c.args.content.now c.in_ok-end.end.now
    c.strip-2.result
    c.in_ok-digits.ensures.some c.in_ok-end.ensures.some c.strip-2.ensures.none
