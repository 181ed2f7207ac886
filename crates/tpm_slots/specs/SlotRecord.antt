-- The record of a state in fixed slots.
use Rattle.tpm_record.specs.Objects.{objects_of}
use Rattle.tpm_record.specs.Record.{Record}
use Rattle.tpm_session.specs.Sessions.{places_of}
use Rattle.tpm_slots.specs.declared.keep.SlotKeep.{SlotKeep}
use Rattle.tpm_slots.specs.declared.objects.ObjectPlaces.{ObjectPlaces}
use Rattle.tpm_slots.specs.declared.sessions.SessionPlaces.{SessionPlaces}

-- the record that a state in fixed slots represents, including the contents of its containers
abbrev pub slot_record : SlotKeep → Record
slot_record keep = record {
  fixed = keep.fixed;
  sessions = places_of (λ (all : SessionPlaces). all.slots) keep.sessions;
  objects = objects_of (λ (all : ObjectPlaces). all.slots) keep.objects;
  persistent = keep.persistent.stored;
  nv = keep.nv.stored;
}
