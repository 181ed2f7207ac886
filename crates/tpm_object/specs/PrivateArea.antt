-- Private areas: the sensitive area of an object, encrypted and authenticated by its parent. TPM
-- 2.0 Library, Part 1, section 22 (protected storage: symmetric encryption, and integrity), and
-- Part 2, sections 12.3.6 (_PRIVATE) and 12.3.7 (TPM2B_PRIVATE).
use Rattle.std.specs.Prelude.{◌≡◌, ℕ, ◌==◌, not, List, [], ◌∷◌, ◌++◌, length, Result, Ok, Err}
use Rattle.std.specs.Borrow.{Bor}
use Rattle.std.specs.Str.{bytes_eq}
use Rattle.tpm_aes.specs.Cfb.{cfb_decrypt_of, cfb_encrypt_of}
use Rattle.tpm_bytes.specs.Reading.{◌>>=◌, or_fault, refused_if, sized_at}
use Rattle.tpm_bytes.specs.Writing.{sized_text}
use Rattle.tpm_mac.specs.Digest.{digest_size}
use Rattle.tpm_mac.specs.Hmac.{hmac_of}
use Rattle.tpm_mac.specs.Kdf.{kdfa_of}
use Rattle.tpm_name.specs.ObjectName.{object_name}
use Rattle.tpm_types_common.specs.Filled.{filled_by}
use Rattle.tpm_types_object.specs.Public.{object_type, object_type_number}
use Rattle.tpm_types_object.specs.Sensitive.{IsSensitive, sensitive_at, sensitive_text}
use Rattle.tpm_types_object.specs.declared.public.Public.{Public}
use Rattle.tpm_types_object.specs.declared.sensitive.Sensitive.{Sensitive}
use Rattle.tpm_object.specs.declared.object.Object.{Object}
use Rattle.tpm_object.specs.declared.private_area.IntegrityFault.{IntegrityFault}

-- "STORAGE": the KDFa label for the key that encrypts a private area
abbrev pub storage_label : List ℕ
storage_label = 0x53 ∷ 0x54 ∷ 0x4f ∷ 0x52 ∷ 0x41 ∷ 0x47 ∷ 0x45 ∷ []

-- "INTEGRITY": the KDFa label for the HMAC key of a private area
abbrev pub integrity_label : List ℕ
integrity_label =
    0x49 ∷ 0x4e ∷ 0x54 ∷ 0x45 ∷ 0x47 ∷ 0x52 ∷ 0x49 ∷ 0x54 ∷ 0x59 ∷ []

-- the key that encrypts a private area: KDFa(pNameAlg, seedValue, "STORAGE", name, NULL, 128
-- bits), with the nameAlg and seedValue of the parent
unfoldable pub storage_key : (parent : Object) → (name : List ℕ) → List ℕ
storage_key parent name =
    kdfa_of parent.public.name_alg parent.seed_value storage_label name [] 16

-- the HMAC key of a private area: KDFa(pNameAlg, seedValue, "INTEGRITY", NULL, NULL, size of a
-- digest in bits)
unfoldable pub integrity_key : (parent : Object) → List ℕ
integrity_key parent =
    kdfa_of parent.public.name_alg parent.seed_value integrity_label [] []
    (digest_size parent.public.name_alg)

-- the integrity value of a private area: HMAC(pNameAlg, HMACkey, protected bytes || name)
unfoldable pub integrity_of : (parent : Object) → (name protected : List ℕ) → List ℕ
integrity_of parent name protected =
    hmac_of parent.public.name_alg (integrity_key parent) (protected ++ name)

-- ---- writing a private area

-- the sensitive area, encoded as a sized buffer and then encrypted
unfoldable pub encrypted_area : (parent : Object) → (name iv : List ℕ) → Sensitive → List ℕ
encrypted_area parent name iv area =
    cfb_encrypt_of (storage_key parent name) iv (sized_text (sensitive_text area))

-- the bytes that the integrity value protects: the IV as a sized buffer, then the encrypted area
abbrev pub protected_text : (parent : Object) → (name iv : List ℕ) → Sensitive → List ℕ
protected_text parent name iv area = sized_text iv ++ encrypted_area parent name iv area

-- a private area: the integrity value as a sized buffer, then the bytes that it protects
abbrev pub authenticated_text : (parent : Object) → (name protected : List ℕ) → List ℕ
authenticated_text parent name protected =
    sized_text (integrity_of parent name protected) ++ protected

unfoldable pub private_text : (parent : Object) → (name iv : List ℕ) → Sensitive → List ℕ
private_text parent name iv area =
    authenticated_text parent name (protected_text parent name iv area)

-- These bytes are the protected form of this sensitive area, made by the parent with some IV of 16
-- bytes.
abbrev pub IsProtected : (parent : Object) → (name protected : List ℕ) → Sensitive → Type 0
IsProtected parent name protected area =
    (iv : List ℕ) × (length iv ≡ 16) × (protected ≡ protected_text parent name iv area)

-- These bytes are a private area that the parent made from this sensitive area, with some IV of 16
-- bytes, for a public area of the same type. The sensitive area satisfies `IsSensitive`.
pub record IsWrapped (parent : Object) (public : Public) (text : List ℕ) (area : Sensitive)
    : Type 0 where
  pub typed : area.object_type ≡ object_type public
  pub sized : IsSensitive area
  pub iv : List ℕ
  pub whole : length iv ≡ 16
  pub spelled : text ≡ private_text parent (object_name public) iv area

-- ---- reading a private area

abbrev pub integrity_fault : IntegrityFault
integrity_fault = record {}

-- the protected bytes of a private area, if its integrity value is correct
unfoldable pub protected_in : (parent : Object)
    → (name text : List ℕ)
    → Result (List ℕ) IntegrityFault
protected_in parent name text = do
  integrity ← or_fault (sized_at 0xffff text) integrity_fault
  right ← refused_if (not (bytes_eq integrity.0 (integrity_of parent name integrity.1)))
      integrity_fault
  Ok integrity.1

-- the sensitive area that decrypted bytes encode; the bytes must consist of exactly one sized
-- buffer
unfoldable pub area_in : (plain : List ℕ) → Result Sensitive IntegrityFault
area_in plain = do
  area ← or_fault (filled_by sensitive_at plain) integrity_fault
  whole ← refused_if (not (length area.1 == 0)) integrity_fault
  Ok area.0

-- the decrypted sensitive area, from a 16-byte IV and the bytes after it
unfoldable pub decrypted_area : (parent : Object)
    → (name protected : List ℕ)
    → Result Sensitive IntegrityFault
decrypted_area parent name protected = do
  iv ← or_fault (sized_at 16 protected) integrity_fault
  whole ← refused_if (not (length iv.0 == 16)) integrity_fault
  area_in (cfb_decrypt_of (storage_key parent name) iv.0 iv.1)

-- the sensitive area that a private area contains, if the object has this public area. The
-- sensitive area and the public area must have the same type
unfoldable pub unwrapped_sensitive : (parent : Object)
    → Public
    → (text : List ℕ)
    → Result Sensitive IntegrityFault
unwrapped_sensitive parent public text = do
  protected ← protected_in parent (object_name public) text
  area ← decrypted_area parent (object_name public) protected
  typed ← refused_if
      (not (object_type_number area.object_type == object_type_number (object_type public)))
      integrity_fault
  Ok area
