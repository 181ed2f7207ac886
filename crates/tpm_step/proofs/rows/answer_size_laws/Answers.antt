use Rattle.tpm_step.proofs.rows.SizedSteps.{answer_sized}
use Rattle.tpm_step.proofs.rows.answer_size_laws.Goals as goal

pub returns : goal.returns
returns c = answer_sized
