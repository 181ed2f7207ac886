use Rattle.tpm_keeping.proofs.Calling.{cuts_are_calls}
use Rattle.tpm_keeping.proofs.laws.cuts_are_calls.Goals as goal

pub returns : goal.returns
returns c = cuts_are_calls
