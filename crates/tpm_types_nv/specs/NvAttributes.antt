-- The attributes of NV indices. TPM 2.0 Library, Part 2, section 13.4 (TPMA_NV).
use Rattle.std.specs.Prelude.{ℕ, ◌-◌, ◌*◌, ◌/◌, ◌%◌, ◌^◌, ◌==◌, bit_and, bit_or, Bool}
use Rattle.std.specs.Prelude.{List, [], ◌∷◌, Option, Result, Ok}
use Rattle.std.specs.List.{sum_by}
use Rattle.std.specs.Int.{w32, bit_at, bit_not, to_be_bytes}
use Rattle.tpm_bytes.specs.Reading.{◌>>=◌}
use Rattle.tpm_types_nv.specs.declared.nv_attributes.NvAttribute.{NvAttribute}
use Rattle.tpm_types_nv.specs.declared.nv_attributes.NvAttribute.TheVariants as attribute
use Rattle.tpm_types_nv.specs.declared.nv_attributes.NvAttributes.{NvAttributes}
use Rattle.tpm_types_nv.specs.declared.nv_type.NvType.{NvType}
use Rattle.tpm_types_nv.specs.NvType.{nv_type_named, nv_type_number}
use Rattle.tpm_types_common.specs.AttributeBits.{AreAttributeBits, attribute_bits_at}
use Rattle.tpm_types_common.specs.declared.rc.Rc.{Rc}

-- the bit number of an attribute, counted from 0
abbrev pub attribute_bit : NvAttribute → ℕ
attribute_bit attribute.PpWrite = 0
attribute_bit attribute.OwnerWrite = 1
attribute_bit attribute.AuthWrite = 2
attribute_bit attribute.PolicyWrite = 3
attribute_bit attribute.PolicyDelete = 10
attribute_bit attribute.WriteLocked = 11
attribute_bit attribute.WriteAll = 12
attribute_bit attribute.WriteDefine = 13
attribute_bit attribute.WriteStClear = 14
attribute_bit attribute.GlobalLock = 15
attribute_bit attribute.PpRead = 16
attribute_bit attribute.OwnerRead = 17
attribute_bit attribute.AuthRead = 18
attribute_bit attribute.PolicyRead = 19
attribute_bit attribute.NoDa = 25
attribute_bit attribute.Orderly = 26
attribute_bit attribute.ClearStClear = 27
attribute_bit attribute.ReadLocked = 28
attribute_bit attribute.Written = 29
attribute_bit attribute.PlatformCreate = 30
attribute_bit attribute.ReadStClear = 31

-- whether an index has an attribute
abbrev pub has : NvAttributes → NvAttribute → Bool
has attributes attribute = bit_at attributes.bits (attribute_bit attribute) == 1

-- the attributes with this attribute set; all other bits are unchanged
abbrev pub with_attribute : NvAttributes → NvAttribute → NvAttributes
with_attribute attributes attribute =
    record { bits = bit_or attributes.bits (2 ^ attribute_bit attribute) }

-- the attributes with this attribute cleared; all other bits are unchanged
abbrev pub without_attribute : NvAttributes → NvAttribute → NvAttributes
without_attribute attributes attribute =
    record { bits = bit_and attributes.bits (bit_not w32 (2 ^ attribute_bit attribute)) }

-- the type number of an index, which is in bits 4 to 7 of its attributes
abbrev pub type_number : NvAttributes → ℕ
type_number attributes = attributes.bits / 2 ^ 4 % 2 ^ 4

abbrev pub index_type : NvAttributes → Option NvType
index_type attributes = nv_type_named (type_number attributes)

-- whether the attributes belong to an index of this type
abbrev pub is_of : NvAttributes → NvType → Bool
is_of attributes type = type_number attributes == nv_type_number type

-- all attributes of an index
abbrev pub all_attributes : List NvAttribute
all_attributes =
    attribute.PpWrite
    ∷ attribute.OwnerWrite
    ∷ attribute.AuthWrite
    ∷ attribute.PolicyWrite
    ∷ attribute.PolicyDelete
    ∷ attribute.WriteLocked
    ∷ attribute.WriteAll
    ∷ attribute.WriteDefine
    ∷ attribute.WriteStClear
    ∷ attribute.GlobalLock
    ∷ attribute.PpRead
    ∷ attribute.OwnerRead
    ∷ attribute.AuthRead
    ∷ attribute.PolicyRead
    ∷ attribute.NoDa
    ∷ attribute.Orderly
    ∷ attribute.ClearStClear
    ∷ attribute.ReadLocked
    ∷ attribute.Written
    ∷ attribute.PlatformCreate
    ∷ attribute.ReadStClear
    ∷ []

-- the bits of the 32-bit field that are used neither for an attribute nor for the type
abbrev pub reserved_bits : ℕ
reserved_bits =
    2 ^ 32 - 1 - 0xf * 2 ^ 4 - sum_by (λ one. 2 ^ attribute_bit one) all_attributes

abbrev pub nv_attributes_text : NvAttributes → List ℕ
nv_attributes_text attributes = to_be_bytes w32 attributes.bits

-- The attributes of an index can be encoded if no reserved bit is set.
abbrev pub IsNvAttributes : NvAttributes → Type 0
IsNvAttributes attributes = AreAttributeBits reserved_bits attributes.bits

-- the attributes of an index at the start of the bytes, and the remaining bytes
unfoldable pub nv_attributes_at : List ℕ → Result (NvAttributes × List ℕ) Rc
nv_attributes_at text = do
  bits ← attribute_bits_at reserved_bits text
  Ok (record { bits = bits.0 }, bits.1)
