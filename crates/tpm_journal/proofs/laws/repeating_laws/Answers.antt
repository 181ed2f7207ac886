use Rattle.tpm_journal.proofs.Histories.{repeats_follow}
use Rattle.tpm_journal.proofs.laws.repeating_laws.Goals as goal

pub returns : goal.returns
returns c = repeats_follow
