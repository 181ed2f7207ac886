-- How an NV index is read, changed and locked. TPM 2.0 Library, Part 3, sections 31.7 to 31.11 and
-- 31.13 to 31.15 (writing, counting, extending, setting bits, reading, the locks, and changing the
-- authorization value), and Part 1, section 37. Who may access an index is defined elsewhere.
use Rattle.std.specs.Prelude.{◌≡◌, ℕ, ◌+◌, ◌^◌, ◌==◌, ◌&&◌, ◌||◌, max, nat_lt, nat_le, not, bit_or}
use Rattle.std.specs.Prelude.{Bool, List, ◌++◌, length, replicate, Result, Ok, Err, ok_or, if◌then◌else◌}
use Rattle.std.specs.Int.{w64, from_be_bytes, to_be_bytes}
use Rattle.tpm_bytes.specs.Reading.{◌>>=◌, refused_if}
use Rattle.tpm_mac.specs.Digest.{hash_of}
use Rattle.tpm_types_common.specs.declared.handle.Handle.{Handle}
use Rattle.tpm_types_nv.specs.NvAttributes.{has, is_of, with_attribute}
use Rattle.tpm_types_nv.specs.declared.nv_attributes.NvAttribute.{NvAttribute}
use Rattle.tpm_types_nv.specs.declared.nv_attributes.NvAttribute.TheVariants as attribute
use Rattle.tpm_types_nv.specs.declared.nv_type.NvType.{NvType}
use Rattle.tpm_types_nv.specs.declared.nv_type.NvType.TheVariants as type
use Rattle.tpm_nv.specs.Bytes.{piece_of, put_over}
use Rattle.tpm_nv.specs.Index.{NvContents, NvIndex, changed_index, index_at}
use Rattle.tpm_nv.specs.declared.fault.LockFault.{LockFault}
use Rattle.tpm_nv.specs.declared.fault.LockFault.TheVariants as lock_fault
use Rattle.tpm_nv.specs.declared.fault.ReadFault.{ReadFault}
use Rattle.tpm_nv.specs.declared.fault.ReadFault.TheVariants as read_fault
use Rattle.tpm_nv.specs.declared.fault.Undefined.{Undefined}
use Rattle.tpm_nv.specs.declared.fault.WriteFault.{WriteFault}
use Rattle.tpm_nv.specs.declared.fault.WriteFault.TheVariants as write_fault

-- A call either changed the contents as defined, or failed with the defined fault and changed
-- nothing.
abbrev pub ChangesContents : {F : Type 0} → Result NvContents F
    → NvContents → Result (Unit {0}) F → NvContents
    → Type 0
ChangesContents answer old (Ok done) new = answer ≡ Ok new
ChangesContents answer old (Err fault) new = (answer ≡ Err fault) × (new ≡ old)

-- the index with this handle, or this fault if no index has this handle
abbrev pub index_or_fault : {F : Type 0} → NvContents → Handle → F → Result NvIndex F
index_or_fault contents handle fault = ok_or (index_at contents handle) fault

-- the fault of a call that can fail only because no index has this handle
abbrev pub undefined_fault : Undefined
undefined_fault = record {}

-- ---- the attributes and the data of an index

abbrev pub index_has : NvIndex → NvAttribute → Bool
index_has index attribute = has index.public.attributes attribute

-- an index with one more attribute set
abbrev pub marked_index : NvIndex → NvAttribute → NvIndex
marked_index index attribute =
    record index {
      public = record index.public {
        attributes = with_attribute index.public.attributes attribute;
      };
    }

-- an index with this data, and with WRITTEN set
abbrev pub with_data : NvIndex → List ℕ → NvIndex
with_data index bytes = record (marked_index index attribute.Written) { bytes = bytes }

-- the data of an index or, before the first write, `byte` repeated to the size of the data
abbrev pub data_or : ℕ → NvIndex → List ℕ
data_or byte index =
    if index_has index attribute.Written then index.bytes else replicate index.public.data_size byte

-- the number encoded by the data of an index or, before the first write, `number`
abbrev pub number_or : ℕ → NvIndex → ℕ
number_or number index =
    if index_has index attribute.Written then from_be_bytes w64 index.bytes else number

-- ---- writing

-- checks whether a command for indices of this type may write an index: the index must not be
-- locked against writing, and must be of this type
abbrev pub writable : NvType → NvIndex → Result (Unit {0}) WriteFault
writable type index = do
  unlocked ← refused_if (index_has index attribute.WriteLocked) write_fault.Locked
  refused_if (not (is_of index.public.attributes type)) write_fault.Attributes

abbrev pub check_writable : NvContents → Handle → NvType → Result (Unit {0}) WriteFault
check_writable contents handle type = do
  index ← index_or_fault contents handle write_fault.Undefined
  writable type index

-- the contents after TPM2_NV_Write: the bytes overwrite the data at an offset. The write must not
-- extend past the end of the data, and must cover all of the data if the index has WRITEALL. The
-- first write sets all other bytes to FF (a choice of this implementation)
unfoldable pub contents_after_write : NvContents → Handle → (offset : ℕ) → List ℕ
    → Result NvContents WriteFault
contents_after_write contents handle offset bytes = do
  index ← index_or_fault contents handle write_fault.Undefined
  ordinary ← writable type.Ordinary index
  inside ← refused_if (nat_lt index.public.data_size (offset + length bytes)) write_fault.PastData
  whole ← refused_if
      (index_has index attribute.WriteAll && not (length bytes == index.public.data_size))
      write_fault.Partial
  Ok (changed_index contents handle (with_data index (put_over offset bytes (data_or 0xff index))))

-- the contents after a counter has reached this value. If no counter has ever had a larger value,
-- this value becomes the largest value
abbrev pub contents_after_count : NvContents → ℕ → NvContents
contents_after_count contents count = record contents { max_count = max contents.max_count count }

-- the contents after TPM2_NV_Increment, which increments a counter. The first increment sets the
-- counter to one more than the largest value that any counter has ever had (section 31.2). That
-- largest value is raised to the counter's new value if the new value is larger. The new value must
-- be at most 2^64 - 1 (a choice of this implementation)
unfoldable pub contents_after_increment : NvContents → Handle → Result NvContents WriteFault
contents_after_increment contents handle = do
  index ← index_or_fault contents handle write_fault.Undefined
  counter ← writable type.Counter index
  fits ← refused_if (nat_le (2 ^ 64) (number_or contents.max_count index + 1))
      write_fault.Exhausted
  let count : ℕ = number_or contents.max_count index + 1 in
      Ok (contents_after_count
      (changed_index contents handle (with_data index (to_be_bytes w64 count))) count)

-- the contents after TPM2_NV_SetBits sets these bits; before the first write, all bits are clear
unfoldable pub bits_set : NvContents → Handle → ℕ → Result NvContents WriteFault
bits_set contents handle bits = do
  index ← index_or_fault contents handle write_fault.Undefined
  field ← writable type.Bits index
  let number : ℕ = bit_or (number_or 0 index) bits in
      Ok (changed_index contents handle (with_data index (to_be_bytes w64 number)))

-- the contents after TPM2_NV_Extend: the data becomes the nameAlg digest of the old data followed
-- by these bytes. Before the first write, the old data is zeros
unfoldable pub contents_after_extend : NvContents → Handle → List ℕ → Result NvContents WriteFault
contents_after_extend contents handle bytes = do
  index ← index_or_fault contents handle write_fault.Undefined
  extendable ← writable type.Extend index
  let digest : List ℕ = hash_of index.public.name_alg (data_or 0 index ++ bytes) in
      Ok (changed_index contents handle (with_data index digest))

-- ---- reading

-- checks whether an index may be read: it must not be locked against reading, and WRITTEN must be
-- set. A command makes this check after it has parsed its parameters and before it checks their
-- values
abbrev pub readable : NvIndex → Result (Unit {0}) ReadFault
readable index = do
  unlocked ← refused_if (index_has index attribute.ReadLocked) read_fault.Locked
  refused_if (not (index_has index attribute.Written)) read_fault.Uninitialized

-- `size` bytes of an index's data, starting at this offset
unfoldable pub read_at : NvContents → Handle → (offset size : ℕ) → Result (List ℕ) ReadFault
read_at contents handle offset size = do
  index ← index_or_fault contents handle read_fault.Undefined
  initialized ← readable index
  inside ← refused_if (nat_lt index.public.data_size (offset + size)) read_fault.PastData
  Ok (piece_of offset size index.bytes)

-- ---- locks and the authorization value

-- the contents after TPM2_NV_WriteLock, which locks an index against writing if it has WRITEDEFINE
-- or WRITE_STCLEAR
unfoldable pub write_locked : NvContents → Handle → Result NvContents LockFault
write_locked contents handle = do
  index ← index_or_fault contents handle lock_fault.Undefined
  lockable ← refused_if
      (not (index_has index attribute.WriteDefine || index_has index attribute.WriteStClear))
      lock_fault.Attributes
  Ok (changed_index contents handle (marked_index index attribute.WriteLocked))

-- the contents after TPM2_NV_ReadLock, which locks an index against reading if it has READ_STCLEAR
unfoldable pub read_locked : NvContents → Handle → Result NvContents LockFault
read_locked contents handle = do
  index ← index_or_fault contents handle lock_fault.Undefined
  lockable ← refused_if (not (index_has index attribute.ReadStClear)) lock_fault.Attributes
  Ok (changed_index contents handle (marked_index index attribute.ReadLocked))

-- the contents after an index's authorization value has been replaced. The command, not this
-- definition, checks the length of the value
unfoldable pub with_auth_value : NvContents → Handle → List ℕ → Result NvContents Undefined
with_auth_value contents handle value = do
  index ← index_or_fault contents handle undefined_fault
  Ok (changed_index contents handle (record index { auth_value = value }))
