use Rattle.tpm_kept_journal.proofs.texts.HeadAt.{head_again, head_found, no_head}
use Rattle.tpm_kept_journal.proofs.text_laws.head_at_laws.Goals as goal

pub returns-clause-written : goal.returns-clause-written
returns-clause-written c = head_again

pub returns-clause-read : goal.returns-clause-read
returns-clause-read c = head_found

pub returns-clause-none : goal.returns-clause-none
returns-clause-none c = no_head
