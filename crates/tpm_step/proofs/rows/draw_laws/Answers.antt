use Rattle.tpm_step.proofs.rows.Draws.{startup_alone}
use Rattle.tpm_step.proofs.rows.draw_laws.Goals as goal

pub returns-clause-startup : goal.returns-clause-startup
returns-clause-startup c = startup_alone
