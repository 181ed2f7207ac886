use Rattle.tpm_kept_journal.proofs.texts.StartAt.{starts_not_told, starts_told}
use Rattle.tpm_kept_journal.proofs.text_laws.start_at_laws.Goals as goal

pub returns-clause-starts : goal.returns-clause-starts
returns-clause-starts c = starts_told

pub returns-clause-starts_not : goal.returns-clause-starts_not
returns-clause-starts_not c = starts_not_told
