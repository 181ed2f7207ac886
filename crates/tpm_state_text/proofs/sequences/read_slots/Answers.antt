use Rattle.std.proofs.Common.{◌∙◌}
use Rattle.tpm_sequence_text.specs.Slot.{slot_in}
use Rattle.tpm_state_text.proofs.Loops.{left_more, length_set}
use Rattle.tpm_state_text.proofs.sequences.read_slots.Goals as goal

pub loop-slot-preserved : goal.loop-slot-preserved
loop-slot-preserved c =
    let i = c.loop-slot.invariant in
    let slots = c.loop-slot.slots in
    record {
      joined = left_more slot_in 3 c.loop-slot.slot slots _ c.loop-slot.ahead _
          c.loop-slot-test.true i.size c.in_ok-slots.ensures ∙ i.joined;
      size = length_set slots c.loop-slot.slot c.in_ok-slots.field-0 ∙ i.size;
    }
