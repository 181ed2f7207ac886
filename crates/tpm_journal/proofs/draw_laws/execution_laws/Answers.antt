use Rattle.tpm_journal.proofs.draw_laws.Executions.{executes_alike}
use Rattle.tpm_journal.proofs.draw_laws.execution_laws.Goals as goal

pub returns : goal.returns
returns c can r buffer locality elapsed random other x agree done =
    executes_alike r buffer locality elapsed random other agree can x done
