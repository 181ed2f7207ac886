use Rattle.tpm_keeping.proofs.LineLaws.{lines_are_a_journal}
use Rattle.tpm_keeping.proofs.laws.a_journal_can_be_kept.Goals as goal

pub returns : goal.returns
returns c = lines_are_a_journal
