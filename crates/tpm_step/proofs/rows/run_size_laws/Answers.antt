use Rattle.tpm_step.proofs.rows.SizedSteps.{run_sized}
use Rattle.tpm_step.proofs.rows.run_size_laws.Goals as goal

pub returns : goal.returns
returns c start = run_sized c.F.FnMut
