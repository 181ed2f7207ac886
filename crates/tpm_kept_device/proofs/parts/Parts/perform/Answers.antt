use Rattle.std.proofs.Common.{◌≡◌, ℕ, Bool, List, length, Result, Ok, ap, subst, sym, ◌∙◌}
use Rattle.tpm_completion.specs.Execution.{Seen, seen_of}
use Rattle.tpm_image_text.specs.declared.fault.Malformed.{Malformed}
use Rattle.tpm_slots.specs.SlotRecord.{slot_record}
use Rattle.tpm_types_common.specs.Locality.{locality_number}
use Rattle.tpm_kept_journal.specs.Command as kept
use Rattle.tpm_kept_journal.specs.Command.{IsGiven, KeptCommand, Moment, command_of}
use Rattle.tpm_kept_journal.proofs.Executed.{executed_entry, executed_few, executed_response, executed_spot}
use Rattle.tpm_kept_device.specs.View.{plain_command, plain_moment}
use Rattle.tpm_kept_device.specs.declared.command.Command.{Command}
use Rattle.tpm_kept_device.proofs.parts.Parts.perform.Goals as goal

-- If the bytes decode to a command with certain random bytes, they also decode to the command with
-- a copy of these random bytes.
copied : (text : List ℕ) (at : Moment) (locality : ℕ) (completes : Bool)
    (random copy buffer : List ℕ) (field : Command)
    → command_of text ≡ Ok (plain_command field)
    → plain_command field ≡ kept.Executes at locality completes random buffer → copy ≡ random
    → command_of text ≡ Ok (kept.Executes at locality completes copy buffer)
copied text at locality completes random copy buffer field read is same =
    let done : KeptCommand → Result KeptCommand Malformed = λ (c : KeptCommand). Ok c in
    read ∙ ap done is ∙ ap (λ (r : List ℕ). done (kept.Executes at locality completes r buffer))
    (sym same)

pub returns-clause-spot : goal.returns-clause-spot
returns-clause-spot c =
    let x = c.in-Ok-Execute in
    let r = slot_record c.args.self.now.machine.keep in
    let seen : Seen = seen_of slot_record c.execute.new.machine c.execute.new.self.layer
    c.execute.new.outcome in
    let read = copied c.args.command.now (plain_moment x.moment) (locality_number x.locality)
    x.completes x.random.now c.copy_from_slice.new.self x.buffer.now
    x.field-0 x.ensures.value (ap plain_command x.field-0-is) c.copy_from_slice.ensures.after in
    executed_spot c.args.self.now.journal r c.read_widths.ensures c.args.command.now
    (plain_moment x.moment) (locality_number x.locality) x.completes
    c.copy_from_slice.new.self x.buffer.now read seen c.clock-now_ms.result c.clock-now_ms.ensures
    c.execute.ensures.executes c.execute.new.self c.execute.ensures.journal

pub returns-clause-entry : goal.returns-clause-entry
returns-clause-entry c =
    let x = c.in-Ok-Execute in
    let r = slot_record c.args.self.now.machine.keep in
    let seen : Seen = seen_of slot_record c.execute.new.machine c.execute.new.self.layer
    c.execute.new.outcome in
    let read = copied c.args.command.now (plain_moment x.moment) (locality_number x.locality)
    x.completes x.random.now c.copy_from_slice.new.self x.buffer.now
    x.field-0 x.ensures.value (ap plain_command x.field-0-is) c.copy_from_slice.ensures.after in
    c.execute.ensures.written
    ∙ executed_entry c.args.self.now.journal r c.read_widths.ensures c.args.command.now
    (plain_moment x.moment) (locality_number x.locality) x.completes
    c.copy_from_slice.new.self x.buffer.now read seen c.clock-now_ms.result c.clock-now_ms.ensures
    c.execute.ensures.executes

pub returns-clause-response : goal.returns-clause-response
returns-clause-response c =
    let x = c.in-Ok-Execute in
    let r = slot_record c.args.self.now.machine.keep in
    let seen : Seen = seen_of slot_record c.execute.new.machine c.execute.new.self.layer
    c.execute.new.outcome in
    let read = copied c.args.command.now (plain_moment x.moment) (locality_number x.locality)
    x.completes x.random.now c.copy_from_slice.new.self x.buffer.now
    x.field-0 x.ensures.value (ap plain_command x.field-0-is) c.copy_from_slice.ensures.after in
    executed_response c.args.self.now.journal r c.read_widths.ensures c.args.command.now
    (plain_moment x.moment) (locality_number x.locality) x.completes
    c.copy_from_slice.new.self x.buffer.now read seen c.clock-now_ms.result c.clock-now_ms.ensures
    c.execute.ensures.executes

pub returns-clause-few : goal.returns-clause-few
returns-clause-few c =
    let x = c.in-Ok-Execute in
    let r = slot_record c.args.self.now.machine.keep in
    let seen : Seen = seen_of slot_record c.execute.new.machine c.execute.new.self.layer
    c.execute.new.outcome in
    let read = copied c.args.command.now (plain_moment x.moment) (locality_number x.locality)
    x.completes x.random.now c.copy_from_slice.new.self x.buffer.now
    x.field-0 x.ensures.value (ap plain_command x.field-0-is) c.copy_from_slice.ensures.after in
    executed_few c.args.self.now.journal r c.read_widths.ensures c.args.command.now
    (plain_moment x.moment) (locality_number x.locality) x.completes
    c.copy_from_slice.new.self x.buffer.now read seen c.clock-now_ms.result c.clock-now_ms.ensures
    c.execute.ensures.executes
    (ap length c.copy_from_slice.ensures.after
    ∙ (subst IsGiven (ap plain_command x.field-0-is) x.ensures.given).1)
