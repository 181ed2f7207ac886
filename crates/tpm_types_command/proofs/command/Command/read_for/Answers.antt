use Rattle.std.proofs.Common.{[]}
use Rattle.tpm_types_command.specs.Command.{served_command_at, whole_command}
use Rattle.tpm_types_command.proofs.CommandLaws.{command_found, served_again}
use Rattle.tpm_types_common.proofs.Laws.{read_only}
use Rattle.tpm_types_command.proofs.command.Command.read_for.Goals as goal

pub returns-clause-found : goal.returns-clause-found
returns-clause-found c =
    command_found c.args.profile c.args.text.now c.read_fields.result c.read_fields.new.text
    c.read_fields.ensures.bytes c.read_fields.ensures.exact

pub returns-clause-only : goal.returns-clause-only
returns-clause-only c = λ command is serves_it spelled. read_only whole_command
    (served_command_at c.args.profile) c.args.text.now _ command [] c.read_fields.result
    c.read_fields.new.text (served_again c.args.profile command is serves_it) spelled
    c.read_fields.ensures.exact
