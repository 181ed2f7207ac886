use Rattle.std.proofs.Common.{rules}
use Rattle.tpm_types_command.specs.Command.{whole_of}
use Rattle.tpm_machine.proofs.Accepting.{accepts}
use Rattle.tpm_machine.proofs.DecodingLaws.{plain_as_sent}
use Rattle.tpm_machine.proofs.table.accept.Goals as goal

pub returns-then-any_decrypts : goal.returns-then-any_decrypts
returns-then-any_decrypts g c =
    accepts _ _ (whole_of c.args.authorization.now.command) _ _ _ _ _ _ _ c.requires.granted
    (search rules) c.act_decrypted.ensures

pub returns-else-any_decrypts : goal.returns-else-any_decrypts
returns-else-any_decrypts g c =
    accepts _ _ (whole_of c.args.authorization.now.command) _ _ _ _ _ _ _ c.requires.granted
    (search (rules, plain_as_sent)) c.act.ensures
