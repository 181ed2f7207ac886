use Rattle.std.proofs.Common.{◌≡◌, ◌≤◌, ◌+◌, ◌*◌, ◌++◌, drop, length}
use Rattle.std.specs.List.{flat_map}
use Rattle.tpm_sequence_text.specs.Sizes.{slot_size}
use Rattle.tpm_sequence_text.specs.Slot.{slot_text}
use Rattle.tpm_state_text.proofs.sequences.write_slots.Given as goal

-- The slots written so far, followed by the unwritten slots, are the whole list.
abbrev pub invariant-loop-slot : goal.invariant-loop-slot
invariant-loop-slot l = record {
  written : l.text ++ flat_map slot_text (drop l.slot-index l.slots)
      ≡ l.fn.text ++ flat_map slot_text l.slots;
  size : length l.text ≤ length l.fn.text + l.slot-index * slot_size;
}
