-- The checks of the values that a caller provides for a new object, and the sizes of the values
-- that the device generates. TPM 2.0 Library, Part 1, section 27 (object creation), and Part 3,
-- section 12.1 (TPM2_Create). The order of the checks is a choice of this implementation.
use Rattle.std.specs.Prelude.{ℕ, ◌+◌, ◌==◌, ◌&&◌, not, nat_lt, Bool, if◌then◌else◌}
use Rattle.std.specs.Prelude.{List, [], ◌∷◌, length, Result}
use Rattle.tpm_mac.specs.Digest.{digest_size}
use Rattle.tpm_mac.specs.declared.algorithm.HashAlg.{HashAlg}
use Rattle.tpm_types_common.specs.AuthValue.{trimmed}
use Rattle.tpm_types_common.specs.Buffer.{is_given}
use Rattle.tpm_types_object.specs.ObjectAttributes.{has}
use Rattle.tpm_types_object.specs.SensitiveCreate.{SensitiveValues}
use Rattle.tpm_types_object.specs.declared.object_attributes.ObjectAttribute.TheVariants as attribute
use Rattle.tpm_types_object.specs.declared.public.KeyedHashScheme.TheVariants.{Null, Hmac}
use Rattle.tpm_types_object.specs.declared.public.Public.{Public}
use Rattle.tpm_types_object.specs.declared.public.PublicParameters.{PublicParameters}
use Rattle.tpm_types_object.specs.declared.public.PublicParameters.TheVariants as parameters_of
use Rattle.tpm_object.specs.Checks.{first_fault, one_of}
use Rattle.tpm_object.specs.Object.{is_cipher, is_keyed_hash}
use Rattle.tpm_object.specs.declared.creation.CreationFault.{CreationFault}
use Rattle.tpm_object.specs.declared.creation.CreationFault.TheVariants as fault

-- whether an authorization value is longer than a nameAlg digest, not counting trailing zeros
abbrev pub is_long_auth : SensitiveValues → Public → Bool
is_long_auth given t = nat_lt (digest_size t.name_alg) (length (trimmed given.user_auth))

-- tests for the conflicts that sensitiveDataOrigin can cause, one for each conflict: the attribute
-- is set, but the caller provides the key or data; the attribute is clear, but the caller provides
-- neither; or the attribute is set, and the device would have to generate the data to seal
abbrev pub origin_conflicts : SensitiveValues → Public → List Bool
origin_conflicts given t =
    let made : Bool = has t.attributes attribute.SensitiveDataOrigin in
    (made && is_given given.data)
    ∷ (not made && not (is_given given.data))
    ∷ (made && is_keyed_hash t && not (has t.attributes attribute.Sign)) ∷ []

-- whether the caller provides a cipher key that is not 16 bytes long; if the caller provides no
-- key, the device generates it
abbrev pub has_wrong_key_size : SensitiveValues → Public → Bool
has_wrong_key_size given t = is_cipher t && is_given given.data && not (length given.data == 16)

abbrev pub creation_checks : SensitiveValues → Public → List (Bool × CreationFault)
creation_checks given t =
    (is_long_auth given t, fault.AuthValueSize)
    ∷ (one_of (origin_conflicts given t), fault.Attributes)
    ∷ (has_wrong_key_size given t, fault.DataSize) ∷ []

-- success if the caller's values are accepted, otherwise the fault of the first check that fails
unfoldable pub creation_passes : SensitiveValues → Public → Result (Unit {0}) CreationFault
creation_passes given t = first_fault (creation_checks given t)

-- the size of a key: 128 bits for AES; otherwise the digest size of the scheme's hash algorithm, or
-- of nameAlg if there is no scheme
abbrev pub parameters_key_size : HashAlg → PublicParameters → ℕ
parameters_key_size name_alg parameters_of.SymCipher = 16
parameters_key_size name_alg (parameters_of.KeyedHash (Hmac hash)) = digest_size hash
parameters_key_size name_alg (parameters_of.KeyedHash Null) = digest_size name_alg

abbrev pub key_size : Public → ℕ
key_size t = parameters_key_size t.name_alg t.parameters

-- the number of key bytes that the device generates
abbrev pub generated_size : Public → SensitiveValues → ℕ
generated_size t given = if is_given given.data then 0 else key_size t

-- the number of random bytes that a new object uses, for its key and its seedValue
abbrev pub drawn_by : Public → SensitiveValues → ℕ
drawn_by t given = generated_size t given + digest_size t.name_alg
