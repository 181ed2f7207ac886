use Rattle.tpm_journal.proofs.ReadHeads.{not_started, started}
use Rattle.tpm_journal.proofs.opening.start.Goals as goal

pub returns-in-Ok : goal.returns-in-Ok
returns-in-Ok g c = started c.args.text.now c.in-Some.head _ c.in-Some.ensures.head c.in-Ok.ensures

pub returns-in-Err : goal.returns-in-Err
returns-in-Err g c = not_started c.args.text.now c.in-Some.head c.in-Err.fault
    c.in-Some.ensures.head c.in-Err.ensures
