-- Handles with the entities that they name. Each entity is looked up only once.
use Rattle.std.specs.Prelude.{◌≡◌, List, map}
use Rattle.tpm_types_common.specs.declared.handle.Handle.{Handle}
use Rattle.tpm_record.specs.Entity.{Entity, entity_at, entity_seen}
use Rattle.tpm_record.specs.Record.{Record}
use Rattle.tpm_record.specs.declared.entity.Resolved.{Resolved}

pub record Found : Type 0 where
  pub handle : Handle
  pub entity : Entity

abbrev pub found_at : Record → Handle → Found
found_at r handle = record { handle = handle; entity = entity_at r handle }

-- the entities that the handles of a command name
abbrev pub entities_at : Record → List Handle → List Found
entities_at r handles = map (found_at r) handles

-- a handle and the entity that the code found for it, as values instead of references
abbrev pub found_by : Resolved → Found
found_by resolved =
    record { handle = resolved.handle; entity = entity_seen resolved.entity }

-- The entity that the code found for this handle is the entity that the handle names in the record.
abbrev pub IsFound : Record → Resolved → Type 0
IsFound r resolved = entity_seen resolved.entity ≡ entity_at r resolved.handle

-- The entities that the code found for these handles are the entities that the handles name in the
-- record.
abbrev pub AreFound : Record → List Resolved → List Handle → Type 0
AreFound r resolved handles = map found_by resolved ≡ entities_at r handles
