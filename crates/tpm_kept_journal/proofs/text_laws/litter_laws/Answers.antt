use Rattle.tpm_kept_journal.proofs.texts.Litter.{front_torn, littered_torn, nothing_litter, nothing_torn}
use Rattle.tpm_kept_journal.proofs.text_laws.litter_laws.Goals as goal

pub returns-clause-nothing : goal.returns-clause-nothing
returns-clause-nothing c = nothing_torn

pub returns-clause-front : goal.returns-clause-front
returns-clause-front c = front_torn

pub returns-clause-littered : goal.returns-clause-littered
returns-clause-littered c = littered_torn

pub returns-clause-clean : goal.returns-clause-clean
returns-clause-clean c = nothing_litter
