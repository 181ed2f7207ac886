use Rattle.tpm_kept_journal.proofs.texts.EntryAt.{entry_again, entry_found, no_entry}
use Rattle.tpm_kept_journal.proofs.text_laws.entry_at_laws.Goals as goal

pub returns-clause-written : goal.returns-clause-written
returns-clause-written c = entry_again

pub returns-clause-read : goal.returns-clause-read
returns-clause-read c = entry_found

pub returns-clause-none : goal.returns-clause-none
returns-clause-none c = no_entry
