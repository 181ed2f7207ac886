use Rattle.tpm_kept_laws.proofs.Commands.{reports_the_row}
use Rattle.tpm_kept_laws.proofs.answer_laws.Goals as goal

pub returns : goal.returns
returns c = reports_the_row
