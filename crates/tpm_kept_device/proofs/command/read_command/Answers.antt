use Rattle.std.proofs.Common.{ℕ, List, Result, Ok, Err, IfOk, refl, subst, sym}
use Rattle.tpm_bytes.specs.Reading.{Gives}
use Rattle.tpm_image_text.specs.declared.fault.Malformed.{Malformed}
use Rattle.tpm_kept_journal.specs.Command.{IsGiven, KeptCommand, command_in, command_of}
use Rattle.tpm_kept_journal.proofs.Entries.{command_given, command_read}
use Rattle.tpm_kept_device.specs.View.{plain_command}
use Rattle.tpm_kept_device.specs.declared.command.Command.{Command}
use Rattle.tpm_kept_device.proofs.command.read_command.Goals as goal

given_if : (text : List ℕ) (r : Result Command Malformed) → Gives plain_command (command_of text) r
    → IfOk r (λ command. IsGiven (plain_command command))
given_if text (Ok command) is = command_given text (plain_command command) is
given_if text (Err why) is = tt

pub returns-clause-value : goal.returns-clause-value
returns-clause-value c =
    subst (λ (r : Result KeptCommand Malformed). Gives plain_command r c.read_any.result)
    (sym (command_read c.args.text.now (command_in c.args.text.now) c.read_any.ensures.bytes refl))
    c.read_any.ensures.value

pub returns-clause-given : goal.returns-clause-given
returns-clause-given c = given_if c.args.text.now c.read_any.result (returns-clause-value c)
