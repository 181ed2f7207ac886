use Rattle.tpm_completion.specs.Command.{command_of}
use Rattle.tpm_completion.proofs.Passwords.{none_sent_in}
use Rattle.tpm_completion.proofs.sending.may_send_for.Goals as goal

pub returns-in-Ok : goal.returns-in-Ok
returns-in-Ok c = λ is r layer response.
    none_sent_in r layer c.args.buffer.now response (command_of c.in-Ok.command) c.in-Ok.ensures
    (c.may_send.ensures is r layer)
