use Rattle.tpm_kept_journal.proofs.texts.NextAt.{found_next, next_is, next_only}
use Rattle.tpm_kept_journal.proofs.text_laws.next_at_laws.Goals as goal

pub returns-clause-is : goal.returns-clause-is
returns-clause-is c = next_is

pub returns-clause-only : goal.returns-clause-only
returns-clause-only c = next_only

pub returns-clause-found : goal.returns-clause-found
returns-clause-found c = found_next
