use Rattle.tpm_slots.specs.SlotRecord.{slot_record}
use Rattle.tpm_kept_device.proofs.Telling.{followed_not, followed_whole}
use Rattle.tpm_kept_device.proofs.parts.Parts.follow.Goals as goal

pub returns-in-None : goal.returns-in-None
returns-in-None c =
    followed_whole c.args.self.now.journal (slot_record c.args.self.now.machine.keep)
    c.args.text.now c.follow-followed.result
    c.follow-followed.new.self (slot_record c.follow-followed.new.machine.keep)
    c.read_widths.ensures c.follow-followed.ensures c.in-None.is

pub returns-in-Some : goal.returns-in-Some
returns-in-Some c =
    followed_not c.args.self.now.journal (slot_record c.args.self.now.machine.keep) c.args.text.now
    c.follow-followed.result
    c.follow-followed.new.self (slot_record c.follow-followed.new.machine.keep)
    c.read_widths.ensures c.follow-followed.ensures
    c.in-Some.field-0 c.in-Some.is
