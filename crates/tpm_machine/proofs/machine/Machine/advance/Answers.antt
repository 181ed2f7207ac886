use Rattle.tpm_machine.proofs.machine.Machine.advance.Goals as goal

pub returns-in-Command-clause-event : goal.returns-in-Command-clause-event
returns-in-Command-clause-event g c =
    rw c.in-Command.is c.command.ensures.event
