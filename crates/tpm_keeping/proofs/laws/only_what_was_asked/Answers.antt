use Rattle.tpm_keeping.proofs.Asked.{only_what_was_asked}
use Rattle.tpm_keeping.proofs.laws.only_what_was_asked.Goals as goal

pub returns : goal.returns
returns c = only_what_was_asked
