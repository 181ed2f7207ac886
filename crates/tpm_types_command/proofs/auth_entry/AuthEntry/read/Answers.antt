use Rattle.tpm_types_command.specs.AuthEntry.{IsEntry, entry_at, entry_of, auth_entry_text}
use Rattle.tpm_types_command.proofs.EntryLaws.{entry_takes, entry_again}
use Rattle.tpm_types_common.proofs.Laws.{read_found, read_only}
use Rattle.tpm_types_command.proofs.auth_entry.AuthEntry.read.Goals as goal

pub returns-clause-found : goal.returns-clause-found
returns-clause-found c =
    read_found entry_of entry_at auth_entry_text IsEntry
    (λ bytes x are e. let t = entry_takes bytes x are e in (t.0.parts, t.1)) c.args.text.now
    c.read_fields.result c.read_fields.new.text c.read_fields.ensures.bytes
    c.read_fields.ensures.exact

pub returns-clause-only : goal.returns-clause-only
returns-clause-only c = λ entry rest is spelled. read_only entry_of entry_at c.args.text.now _ entry
    rest c.read_fields.result c.read_fields.new.text (entry_again entry rest is) spelled
    c.read_fields.ensures.exact
