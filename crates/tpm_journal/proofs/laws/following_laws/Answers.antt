use Rattle.tpm_journal.proofs.Again.{followed_again}
use Rattle.tpm_journal.proofs.laws.following_laws.Goals as goal

pub returns : goal.returns
returns c = followed_again
