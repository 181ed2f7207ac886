use Rattle.tpm_kept_journal.proofs.texts.EntriesAt.{entries_again, entries_found, entries_joined}
use Rattle.tpm_kept_journal.proofs.text_laws.entries_at_laws.Goals as goal

pub returns-clause-written : goal.returns-clause-written
returns-clause-written c = entries_again

pub returns-clause-read : goal.returns-clause-read
returns-clause-read c = entries_found

pub returns-clause-joined : goal.returns-clause-joined
returns-clause-joined c = entries_joined
