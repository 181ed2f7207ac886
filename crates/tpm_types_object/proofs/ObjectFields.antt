-- A read returns an object type exactly when the input starts with its encoding. The same holds for
-- the attributes of an object.
use Rattle.std.proofs.Common.{◌≡◌, ℕ, ◌^◌, ◌<◌, Some, None, refl, arith}
use Rattle.tpm_types_common.specs.declared.rc.ResponseCode.TheVariants as code
use Rattle.tpm_types_common.proofs.Named.{link, named_spelled, none}
use Rattle.tpm_types_common.proofs.AttributeBitsLaws.{attribute_bits_spelled}
use Rattle.tpm_types_common.proofs.Spelled.{Spelled}
use Rattle.tpm_types_object.specs.declared.public.ObjectType.{ObjectType}
use Rattle.tpm_types_object.specs.declared.public.ObjectType.TheVariants as object
use Rattle.tpm_types_object.specs.ObjectAttributes.{IsAttributes, attributes_at, attributes_text, reserved_bits}
use Rattle.tpm_types_object.specs.Public.{object_type_at, object_type_named, object_type_number, object_type_text}

pub object_type_named-is : (number : ℕ) (type : ObjectType) → object_type_named number ≡ Some type
    → number ≡ object_type_number type
object_type_named-is number type =
    link object_type_number number object.KeyedHash _ type λ o. link object_type_number number
    object.SymCipher None o (none object_type_number number)

pub object_type_named-again : (type : ObjectType)
    → object_type_named (object_type_number type) ≡ Some type
object_type_named-again object.KeyedHash = refl
object_type_named-again object.SymCipher = refl

pub object_type_number-small : (type : ObjectType) → object_type_number type < 2 ^ 16
object_type_number-small object.KeyedHash = omega arith
object_type_number-small object.SymCipher = omega arith

-- A read returns an object type exactly when the input starts with its encoding.
pub object_type_spelled : Spelled object_type_text (λ type. Unit {0}) object_type_at
unfolding object_type_at
object_type_spelled = named_spelled object_type_number object_type_named code.Type
    object_type_named-is object_type_named-again object_type_number-small

-- A read returns an object's attributes exactly when the input starts with their encoding.
pub attributes_spelled : Spelled attributes_text IsAttributes attributes_at
attributes_spelled = attribute_bits_spelled reserved_bits
