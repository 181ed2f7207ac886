use Rattle.tpm_premises.proofs.Kept.{starts_empty, starts_with_journal}
use Rattle.tpm_premises.proofs.kept_premise.Goals as goal

pub returns-clause-empty : goal.returns-clause-empty
returns-clause-empty c = starts_empty

pub returns-clause-journal : goal.returns-clause-journal
returns-clause-journal c = starts_with_journal
