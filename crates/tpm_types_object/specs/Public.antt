-- The public areas of objects. TPM 2.0 Library, Part 2, section 12.2.4 (TPMT_PUBLIC). For their
-- parameters: sections 12.2.3.7 (TPMU_PUBLIC_PARMS), 11.1.9 (TPMS_SYMCIPHER_PARMS), 11.1.23
-- (TPMT_KEYEDHASH_SCHEME) and 6.3 (TPM_ALG_ID: KEYEDHASH 0008, SYMCIPHER 0025, NULL 0010, HMAC
-- 0005). For any other scheme, this implementation chooses the response code SCHEME.
use Rattle.std.specs.Prelude.{ℕ, ◌==◌, ◌≤◌, List, ◌++◌, length, if◌then◌else◌}
use Rattle.std.specs.Prelude.{Option, Some, None, Result, Ok, Err, ok_or}
use Rattle.std.specs.Int.{w16, to_be_bytes}
use Rattle.tpm_bytes.specs.Reading.{◌>>=◌, number_at, or_fault, refused_if}
use Rattle.tpm_bytes.specs.Writing.{sized_text}
use Rattle.tpm_types_object.specs.declared.public.KeyedHashScheme.{KeyedHashScheme}
use Rattle.tpm_types_object.specs.declared.public.KeyedHashScheme.TheVariants.{Null, Hmac}
use Rattle.tpm_types_object.specs.declared.public.ObjectType.{ObjectType}
use Rattle.tpm_types_object.specs.declared.public.ObjectType.TheVariants as object
use Rattle.tpm_types_object.specs.declared.public.Public.{Public}
use Rattle.tpm_types_object.specs.declared.public.PublicParameters.{PublicParameters}
use Rattle.tpm_types_object.specs.declared.public.PublicParameters.TheVariants as parameters_of
use Rattle.tpm_types_common.specs.declared.rc.Rc.{Rc}
use Rattle.tpm_types_common.specs.declared.rc.ResponseCode.TheVariants as code
use Rattle.tpm_types_common.specs.declared.symmetric.SymmetricDefinition.TheVariants as symmetric
use Rattle.tpm_types_common.specs.Algorithm.{hash_at, hash_number}
use Rattle.tpm_types_common.specs.Buffer.{buffer_at}
use Rattle.tpm_types_object.specs.ObjectAttributes.{IsAttributes, attributes_at, attributes_text}
use Rattle.tpm_types_common.specs.Rc.{plain}
use Rattle.tpm_types_common.specs.Symmetric.{cipher_at, symmetric_text}

-- ---- the types of objects

abbrev pub object_type_number : ObjectType → ℕ
object_type_number object.KeyedHash = 0x0008
object_type_number object.SymCipher = 0x0025

-- the object type with this number, or None
abbrev pub object_type_named : ℕ → Option ObjectType
object_type_named number =
    if number == 0x0008 then Some object.KeyedHash
    else (if number == 0x0025 then Some object.SymCipher else None)

abbrev pub object_type_text : ObjectType → List ℕ
object_type_text type = to_be_bytes w16 (object_type_number type)

-- the object type at the start of the bytes, and the remaining bytes
unfoldable pub object_type_at : List ℕ → Result (ObjectType × List ℕ) Rc
object_type_at text = do
  number ← or_fault (number_at w16 text) (plain code.Insufficient)
  type ← ok_or (object_type_named number.0) (plain code.Type)
  Ok (type, number.1)

-- ---- the parameters of each type of object

-- the encoding of a KEYEDHASH object's scheme: NULL alone, or HMAC and its hash algorithm
unfoldable pub scheme_text : KeyedHashScheme → List ℕ
scheme_text Null = to_be_bytes w16 0x0010
scheme_text (Hmac hash) = to_be_bytes w16 0x0005 ++ to_be_bytes w16 (hash_number hash)

abbrev pub hmac_at : List ℕ → Result (KeyedHashScheme × List ℕ) Rc
hmac_at text = do
  hash ← hash_at text
  Ok (Hmac hash.0, hash.1)

-- the scheme of a KEYEDHASH object and the remaining bytes, given the scheme's number and the bytes
-- after this number
abbrev pub behind_scheme_at : ℕ → List ℕ → Result (KeyedHashScheme × List ℕ) Rc
behind_scheme_at number text =
    if number == 0x0010 then Ok (Null, text)
    else (if number == 0x0005 then hmac_at text else Err (plain code.Scheme))

-- the scheme of a KEYEDHASH object at the start of the bytes, and the remaining bytes
unfoldable pub scheme_at : List ℕ → Result (KeyedHashScheme × List ℕ) Rc
scheme_at text = do
  scheme ← or_fault (number_at w16 text) (plain code.Insufficient)
  behind_scheme_at scheme.0 scheme.1

-- the parameters of a SYMCIPHER object at the start of the bytes, and the remaining bytes. The
-- parameters are a cipher
unfoldable pub sym_cipher_at : List ℕ → Result (PublicParameters × List ℕ) Rc
sym_cipher_at text = do
  cipher ← cipher_at text
  Ok (parameters_of.SymCipher, cipher.1)

abbrev pub keyed_hash_at : List ℕ → Result (PublicParameters × List ℕ) Rc
keyed_hash_at text = do
  scheme ← scheme_at text
  Ok (parameters_of.KeyedHash scheme.0, scheme.1)

-- the parameters of an object of this type at the start of the bytes, and the remaining bytes
abbrev pub parameters_at : ObjectType → List ℕ → Result (PublicParameters × List ℕ) Rc
parameters_at object.KeyedHash text = keyed_hash_at text
parameters_at object.SymCipher text = sym_cipher_at text

-- the encoding of an object's parameters. For a KEYEDHASH object: its scheme. For a SYMCIPHER
-- object: AES, the key size in bits, and the mode
abbrev pub parameters_text : PublicParameters → List ℕ
parameters_text (parameters_of.KeyedHash scheme) = scheme_text scheme
parameters_text parameters_of.SymCipher = symmetric_text symmetric.Aes128Cfb

abbrev pub type_of_parameters : PublicParameters → ObjectType
type_of_parameters (parameters_of.KeyedHash scheme) = object.KeyedHash
type_of_parameters parameters_of.SymCipher = object.SymCipher

-- ---- public areas

abbrev pub object_type : Public → ObjectType
object_type p = type_of_parameters p.parameters

-- the encoding of a public area: the type, nameAlg, the attributes, the policy, the parameters of
-- the type, and the unique field
unfoldable pub public_text : Public → List ℕ
public_text p =
    object_type_text (object_type p) ++ to_be_bytes w16 (hash_number p.name_alg)
    ++ attributes_text p.attributes ++ sized_text p.auth_policy
    ++ parameters_text p.parameters ++ sized_text p.unique

-- A public area can be encoded if its buffers are at most 32 bytes long and no reserved bit of its
-- attributes is set.
pub record IsPublic (p : Public) : Type 0 where
  pub attributes : IsAttributes p.attributes
  pub auth_policy : length p.auth_policy ≤ 32
  pub unique : length p.unique ≤ 32

-- the public area at the start of the bytes, and the remaining bytes
unfoldable pub public_at : List ℕ → Result (Public × List ℕ) Rc
public_at text = do
  type ← object_type_at text
  name_alg ← hash_at type.1
  attributes ← attributes_at name_alg.1
  auth_policy ← buffer_at 32 attributes.1
  parameters ← parameters_at type.0 auth_policy.1
  unique ← buffer_at 32 parameters.1
  Ok (
    record {
      name_alg = name_alg.0;
      attributes = attributes.0;
      auth_policy = auth_policy.0;
      parameters = parameters.0;
      unique = unique.0;
    },
    unique.1,
  )
