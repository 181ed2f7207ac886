-- The attributes of objects. TPM 2.0 Library, Part 2, section 8.3 (TPMA_OBJECT).
use Rattle.std.specs.Prelude.{ℕ, ◌-◌, ◌^◌, ◌==◌, Bool, List, [], ◌∷◌, Result}
use Rattle.std.specs.List.{sum_by}
use Rattle.std.specs.Int.{w32, bit_at, to_be_bytes}
use Rattle.tpm_types_object.specs.declared.object_attributes.ObjectAttribute.{ObjectAttribute}
use Rattle.tpm_types_object.specs.declared.object_attributes.ObjectAttribute.TheVariants as attribute
use Rattle.tpm_types_common.specs.AttributeBits.{AreAttributeBits, attribute_bits_at}
use Rattle.tpm_types_common.specs.declared.rc.Rc.{Rc}

-- the bit number of an attribute, counted from 0
abbrev pub attribute_bit : ObjectAttribute → ℕ
attribute_bit attribute.FixedTpm = 1
attribute_bit attribute.StClear = 2
attribute_bit attribute.FixedParent = 4
attribute_bit attribute.SensitiveDataOrigin = 5
attribute_bit attribute.UserWithAuth = 6
attribute_bit attribute.AdminWithPolicy = 7
attribute_bit attribute.NoDa = 10
attribute_bit attribute.EncryptedDuplication = 11
attribute_bit attribute.Restricted = 16
attribute_bit attribute.Decrypt = 17
attribute_bit attribute.Sign = 18

-- whether a bit field of attributes contains this attribute
abbrev pub has : ℕ → ObjectAttribute → Bool
has attributes attribute = bit_at attributes (attribute_bit attribute) == 1

-- all attributes of an object
abbrev pub all_attributes : List ObjectAttribute
all_attributes =
    attribute.FixedTpm
    ∷ attribute.StClear
    ∷ attribute.FixedParent
    ∷ attribute.SensitiveDataOrigin
    ∷ attribute.UserWithAuth
    ∷ attribute.AdminWithPolicy
    ∷ attribute.NoDa
    ∷ attribute.EncryptedDuplication
    ∷ attribute.Restricted
    ∷ attribute.Decrypt
    ∷ attribute.Sign
    ∷ []

-- the bits of the 32-bit field that are not used for attributes
abbrev pub reserved_bits : ℕ
reserved_bits = 2 ^ 32 - 1 - sum_by (λ one. 2 ^ attribute_bit one) all_attributes

abbrev pub attributes_text : ℕ → List ℕ
attributes_text attributes = to_be_bytes w32 attributes

-- The attributes of an object can be encoded if no reserved bit is set.
abbrev pub IsAttributes : ℕ → Type 0
IsAttributes attributes = AreAttributeBits reserved_bits attributes

-- the attributes of an object at the start of the bytes, and the remaining bytes
abbrev pub attributes_at : List ℕ → Result (ℕ × List ℕ) Rc
attributes_at text = attribute_bits_at reserved_bits text
