use Rattle.std.proofs.Common.{◌≡◌, length}
use Rattle.tpm_bytes.specs.Many.{many_at}
use Rattle.tpm_sequence_text.specs.Slot.{slot_in}
use Rattle.tpm_state_text.proofs.Loops.{left}
use Rattle.tpm_state_text.proofs.sequences.read_slots.Given as goal

-- The slots read so far, followed by the unread slots, are the whole list.
abbrev pub invariant-loop-slot : goal.invariant-loop-slot
invariant-loop-slot l = record {
  joined : left slot_in 3 l.slot l.slots l.ahead ≡ many_at slot_in 3 l.fn.text;
  size : length l.slots ≡ 3;
}
