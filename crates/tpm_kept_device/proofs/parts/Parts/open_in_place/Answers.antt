use Rattle.std.proofs.Common.{arith}
use Rattle.tpm_slots.specs.SlotRecord.{slot_record}
use Rattle.tpm_kept_journal.proofs.Starting.{opened_not, opened_so}
use Rattle.tpm_kept_device.proofs.parts.Parts.open_in_place.Goals as goal

pub returns-in_default : goal.returns-in_default
returns-in_default c =
    opened_not c.args.text.now c.in_default.field-0 (slot_record c.open.new.machine.keep)
    (λ i. omega (arith, c.type_inv.text i)) c.in_default.ensures

pub returns : goal.returns
returns c = opened_so c.args.text.now c.in-Ok.opened (slot_record c.open.new.machine.keep)
    c.in-Ok.ensures
