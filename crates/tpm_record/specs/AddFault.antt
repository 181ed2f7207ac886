-- How an object is added to the device's state. Transient and persistent objects have one kind of
-- fault. TPM 2.0 Library, Part 1, sections 15.6 (transient objects) and 37.3 (persistent objects).
use Rattle.std.specs.Prelude.{ℕ, Bool, Result, Ok, Err}
use Rattle.tpm_containers.specs.declared.slots.SlotFault.TheVariants as slot
use Rattle.tpm_containers.specs.declared.sorted_map.KeyFault.TheVariants as key
use Rattle.tpm_object.specs.declared.object.Object.{Object}
use Rattle.tpm_record.specs.declared.add_fault.AddFault.{AddFault}
use Rattle.tpm_record.specs.declared.add_fault.AddFault.TheVariants.{Full, Taken, NoMemory}
use Rattle.tpm_record.specs.AnyObject.{AddsObject, AddsPersistent}
use Rattle.tpm_record.specs.Record.{Record}

-- A transient object was added, and the result is its handle, the lowest free one. If the fault is
-- Full, all slots are taken; if it is NoMemory, an allocation failed. In both cases nothing changed.
abbrev pub AddsTransient : Bool → Record → Object → Result ℕ AddFault → Record → Type 0
AddsTransient can old object (Ok number) new =
    AddsObject can old object (Ok (record { number = number })) new
AddsTransient can old object (Err Full) new = AddsObject can old object (Err slot.Full) new
AddsTransient can old object (Err Taken) new = ⊥
AddsTransient can old object (Err NoMemory) new = AddsObject can old object (Err slot.NoMemory) new

-- A persistent object was added with this handle. If the fault is Taken, the handle already has an
-- object; if it is Full, the number of objects is at its limit; if it is NoMemory, an allocation
-- failed. In these cases nothing changed.
abbrev pub AddsWithNumber : Bool → Record → (number : ℕ) → Object
    → Result (Unit {0}) AddFault → Record → Type 0
AddsWithNumber can old number object (Ok done) new =
    AddsPersistent can old (record { number = number }) object (Ok done) new
AddsWithNumber can old number object (Err Full) new =
    AddsPersistent can old (record { number = number }) object (Err key.Full) new
AddsWithNumber can old number object (Err Taken) new =
    AddsPersistent can old (record { number = number }) object (Err key.Taken) new
AddsWithNumber can old number object (Err NoMemory) new =
    AddsPersistent can old (record { number = number }) object (Err key.NoMemory) new
