-- The effect on a machine when an object from a saved context is placed.
use Rattle.std.specs.Prelude.{◌≡◌, Bool, true, [], None, Some, Result, Ok, Err}
use Rattle.tpm_containers.specs.declared.slots.SlotFault.{SlotFault}
use Rattle.tpm_containers.specs.declared.slots.SlotFault.TheVariants.{Full, NoMemory}
use Rattle.tpm_types_common.specs.declared.handle.Handle.{Handle}
use Rattle.tpm_record.specs.Objects.{next_handle}
use Rattle.tpm_record.specs.Record.{Record}
use Rattle.tpm_step.specs.step.Step.{Stepped}

-- the outcome of placing an object: no response, no command code, no check, and this record
-- afterwards
abbrev pub placing_seen : Record → Stepped
placing_seen r = record { response = []; row = record { code = 0; check = 0 }; after = r }

-- On success, the object got the lowest free handle. On an error, all slots were taken, or an
-- allocation failed, and the record is unchanged. Allocations can fail only if `can` is true.
abbrev pub Places : Bool → Record → Result Handle SlotFault → Record → Type 0
Places can old (Ok handle) new = next_handle old.objects ≡ Some handle
Places can old (Err Full) new = (next_handle old.objects ≡ None) × (new ≡ old)
Places can old (Err NoMemory) new = (can ≡ true) × (new ≡ old)

-- `Holds` is true, unless an allocation failed.
abbrev pub IfMemory : Result Handle SlotFault → Type 0 → Type 0
IfMemory (Ok handle) Holds = Holds
IfMemory (Err Full) Holds = Holds
IfMemory (Err NoMemory) Holds = Unit {0}
