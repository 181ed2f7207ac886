-- The head of a context, and its savedHandle. TPM 2.0 Library, Part 2, section 14.5
-- (TPMS_CONTEXT: sequence, savedHandle, hierarchy), and Part 3, section 28.3 (TPM2_ContextLoad).
use Rattle.std.specs.Prelude.{ℕ, ◌==◌, ◌&&◌, Bool, true, false, if◌then◌else◌}
use Rattle.std.specs.Prelude.{List, ◌++◌, ok_or, Option, Some, None, Result, Ok}
use Rattle.std.specs.Int.{w32, w64, to_be_bytes}
use Rattle.tpm_bytes.specs.Reading.{◌>>=◌, number_at, or_fault}
use Rattle.tpm_object.specs.declared.object.Object.{Object}
use Rattle.tpm_types_common.specs.Handle.{hierarchy_handle, hierarchy_of, numbered_handle}
use Rattle.tpm_types_common.specs.Rc.{at, plain}
use Rattle.tpm_types_common.specs.declared.handle.HierarchyHandle.{HierarchyHandle}
use Rattle.tpm_types_common.specs.declared.handle.HierarchyHandle.TheVariants as hierarchy
use Rattle.tpm_types_common.specs.declared.rc.Place.TheVariants as place
use Rattle.tpm_types_common.specs.declared.rc.Rc.{Rc}
use Rattle.tpm_types_common.specs.declared.rc.ResponseCode.{ResponseCode}
use Rattle.tpm_types_common.specs.declared.rc.ResponseCode.TheVariants as code
use Rattle.tpm_types_object.specs.ObjectAttributes.{has}
use Rattle.tpm_types_object.specs.declared.object_attributes.ObjectAttribute.TheVariants as attribute
use Rattle.tpm_types_object.specs.declared.public.Public.{Public}
use Rattle.tpm_context.specs.declared.fault.ContextFault.{ContextFault}
use Rattle.tpm_context.specs.declared.fault.ContextFault.TheVariants as fault
use Rattle.tpm_context.specs.declared.head.ContextHead.{ContextHead}
use Rattle.tpm_context.specs.declared.head.SavedHandle.{SavedHandle}
use Rattle.tpm_context.specs.declared.head.SavedHandle.TheVariants as saved

-- ---- faults

-- the response code of each fault: INSUFFICIENT (1DA), SIZE (1D5), HANDLE (1CB), VALUE (1C4) or
-- INTEGRITY (1DF), each for parameter 1
abbrev pub fault_code : ContextFault → ResponseCode
fault_code fault.Truncated = code.Insufficient
fault_code fault.Size = code.Size
fault_code fault.SavedHandle = code.Handle
fault_code fault.Hierarchy = code.Value
fault_code fault.Integrity = code.Integrity

abbrev pub fault_rc : ContextFault → Rc
fault_rc f = at (place.Parameter 1) (plain (fault_code f))

-- ---- savedHandle

-- the number of a savedHandle (Part 2, section 14.5, table TPMI_DH_SAVED)
abbrev pub saved_number : SavedHandle → ℕ
saved_number saved.Ordinary = 0x8000_0000
saved_number saved.Sequence = 0x8000_0001
saved_number saved.StClear = 0x8000_0002

-- the savedHandle with this number, if objects or sequence objects use this number
abbrev pub saved_named : ℕ → Option SavedHandle
saved_named number =
    if number == 0x8000_0000 then Some saved.Ordinary
    else (if number == 0x8000_0001 then Some saved.Sequence
    else (if number == 0x8000_0002 then Some saved.StClear
    else None))

-- the savedHandle of an object with this public area
abbrev pub saved_of : Public → SavedHandle
saved_of p = if has p.attributes attribute.StClear then saved.StClear else saved.Ordinary

-- ---- the head

-- the head of an object's context
abbrev pub head_of : (sequence : ℕ) → Object → ContextHead
head_of sequence object = record {
  sequence = sequence;
  saved = saved_of object.public;
  hierarchy = object.hierarchy;
}

-- the head of a sequence object's context, with TPM_RH_NULL as its hierarchy
abbrev pub sequence_head : (sequence : ℕ) → ContextHead
sequence_head number =
    record { sequence = number; saved = saved.Sequence; hierarchy = hierarchy.Null }

-- the encoding of a head: the sequence number, the savedHandle and the hierarchy
abbrev pub head_text : ContextHead → List ℕ
head_text h =
    to_be_bytes w64 h.sequence ++ to_be_bytes w32 (saved_number h.saved)
    ++ to_be_bytes w32 (hierarchy_handle h.hierarchy).number

-- reads a savedHandle
unfoldable pub saved_at : List ℕ → Result (SavedHandle × List ℕ) ContextFault
saved_at text = do
  number ← or_fault (number_at w32 text) fault.Truncated
  one ← ok_or (saved_named number.0) fault.SavedHandle
  Ok (one, number.1)

-- decodes the handle of a hierarchy
unfoldable pub hierarchy_at : List ℕ → Result (HierarchyHandle × List ℕ) ContextFault
hierarchy_at text = do
  number ← or_fault (number_at w32 text) fault.Truncated
  one ← ok_or (hierarchy_of (numbered_handle number.0)) fault.Hierarchy
  Ok (one, number.1)

-- reads a head
unfoldable pub head_at : List ℕ → Result (ContextHead × List ℕ) ContextFault
head_at text = do
  sequence ← or_fault (number_at w64 text) fault.Truncated
  kind ← saved_at sequence.1
  hierarchy ← hierarchy_at kind.1
  Ok (
    record { sequence = sequence.0; saved = kind.0; hierarchy = hierarchy.0 },
    hierarchy.1,
  )

-- whether an object has the hierarchy and the savedHandle of this head
abbrev pub is_of : ContextHead → Object → Bool
is_of h object =
    if (hierarchy_handle object.hierarchy).number == (hierarchy_handle h.hierarchy).number then
    saved_number (saved_of object.public) == saved_number h.saved
    else false

-- whether a savedHandle is that of a sequence object
abbrev pub is_of_sequence : SavedHandle → Bool
is_of_sequence saved.Sequence = true
is_of_sequence _ = false

-- whether a hierarchy is TPM_RH_NULL
abbrev pub is_null : HierarchyHandle → Bool
is_null hierarchy.Null = true
is_null _ = false

-- whether a head is that of a sequence object's context
abbrev pub is_sequence_head : ContextHead → Bool
is_sequence_head h = is_of_sequence h.saved && is_null h.hierarchy
