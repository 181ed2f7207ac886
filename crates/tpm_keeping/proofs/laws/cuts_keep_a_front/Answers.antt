use Rattle.tpm_keeping.proofs.Cutting.{cuts_keep_a_front}
use Rattle.tpm_keeping.proofs.laws.cuts_keep_a_front.Goals as goal

pub returns : goal.returns
returns c = cuts_keep_a_front
