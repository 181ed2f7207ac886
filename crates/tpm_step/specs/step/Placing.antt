-- Objects that are loaded again from a saved context. TPM 2.0 Library, Part 1, section 30 (context
-- management), and Part 3, section 28.3 (TPM2_ContextLoad).
use Rattle.std.specs.Prelude.{ℕ, List, Option, Some, None}
use Rattle.tpm_containers.specs.Slots.{lowest_free}
use Rattle.tpm_object.specs.declared.object.Object.{Object}
use Rattle.tpm_record.specs.Objects.{with_object}
use Rattle.tpm_record.specs.Record.{Record}

-- the slots of the transient objects, with this object in this slot; unchanged if the slot is None
abbrev pub placed_at : Option ℕ → Object → List (Option Object) → List (Option Object)
placed_at (Some place) object places = with_object places place object
placed_at None object places = places

-- the record with this object in the lowest free slot of the transient objects; if all slots are
-- taken, the record is unchanged
abbrev pub record_with_object : Record → Object → Record
record_with_object r object =
    record r { objects = placed_at (lowest_free r.objects) object r.objects }
