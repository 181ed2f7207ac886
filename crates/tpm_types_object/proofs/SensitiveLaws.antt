-- A read returns a sensitive area exactly when the input starts with its encoding. The same is true
-- of the values that a caller provides for a new sensitive area.
use Rattle.std.proofs.Common.{ℕ, ◌^◌, ◌<◌, List, ◌++◌, length, refl, arith, length-append}
use Rattle.tpm_bytes.specs.Writing.{sized_text}
use Rattle.tpm_types_object.specs.declared.public.ObjectType.{ObjectType}
use Rattle.tpm_types_object.specs.declared.sensitive.Sensitive.{Sensitive}
use Rattle.tpm_types_common.specs.Filled.{filled_by}
use Rattle.tpm_types_object.specs.Public.{object_type_text}
use Rattle.tpm_types_object.specs.Sensitive.{IsSensitive, sensitive_at, sensitive_text}
use Rattle.tpm_types_object.specs.SensitiveCreate.{IsSensitiveCreate, SensitiveValues, sensitive_create_at, sensitive_create_text}
use Rattle.tpm_types_common.proofs.FieldLaws.{buffer_spelled}
use Rattle.tpm_types_object.proofs.ObjectFields.{object_type_spelled}
use Rattle.tpm_types_common.proofs.FilledLaws.{filled_spelled}
use Rattle.tpm_types_common.proofs.Spelled.{Spelled, all_read, first, four_texts, respelled, then, two_texts}

-- the fields of a sensitive area, in order
abbrev Fields : Type 0
Fields = ((ObjectType × List ℕ) × List ℕ) × List ℕ

abbrev fields_of : Sensitive → Fields
fields_of s = (((s.object_type, s.auth_value), s.seed_value), s.sensitive)

abbrev sensitive_of : Fields → Sensitive
sensitive_of f = record {
  object_type = f.0.0.0;
  auth_value = f.0.0.1;
  seed_value =
      f.0.1;
  sensitive = f.1;
}

pub sensitive_spelled : Spelled sensitive_text IsSensitive sensitive_at
unfolding sensitive_at sensitive_text
sensitive_spelled =
    let b32 = buffer_spelled 32 (omega arith) in
    let b128 = buffer_spelled 128 (omega arith) in
    let fields = first object_type_spelled
    (then b32
    (then b32 (then b128 (all_read fields_of sensitive_of (λ _. refl) (λ _. refl))))) in
    respelled fields
    (λ s. four_texts (object_type_text s.object_type) (sized_text s.auth_value)
    (sized_text s.seed_value) (sized_text s.sensitive))
    (λ s is. record { auth_value = is.1.0; seed_value = is.1.1.0; sensitive = is.1.1.1.0 })
    (λ s is. (tt, (is.auth_value, (is.seed_value, (is.sensitive, tt)))))

-- ---- sensitive areas in a sized buffer

pub sensitive_small : (s : Sensitive) → IsSensitive s → length (sensitive_text s) < 2 ^ 16
unfolding sensitive_text
sensitive_small s is =
    let auth = object_type_text s.object_type ++ sized_text s.auth_value in
    let seed = auth ++ sized_text s.seed_value in
    omega (
      arith,
      is.auth_value,
      is.seed_value,
      is.sensitive,
      length-append (object_type_text s.object_type) (sized_text s.auth_value),
      length-append auth (sized_text s.seed_value),
      length-append seed (sized_text s.sensitive),
    )

abbrev pub sized_sensitive_text : Sensitive → List ℕ
sized_sensitive_text s = sized_text (sensitive_text s)

pub sized_sensitive_spelled : Spelled sized_sensitive_text IsSensitive (filled_by sensitive_at)
sized_sensitive_spelled = filled_spelled sensitive_spelled sensitive_small

-- ---- the values that a caller provides for a new object

abbrev given_of : SensitiveValues → List ℕ × List ℕ
given_of s = (s.user_auth, s.«data»)

abbrev values_of : List ℕ × List ℕ → SensitiveValues
values_of given = record { user_auth = given.0; «data» = given.1 }

pub sensitive_create_spelled : Spelled sensitive_create_text IsSensitiveCreate sensitive_create_at
unfolding sensitive_create_at
sensitive_create_spelled =
    let fields = first (buffer_spelled 32 (omega arith))
    (then (buffer_spelled 128 (omega arith))
    (all_read given_of values_of (λ _. refl) (λ _. refl))) in
    respelled fields
    (λ s. two_texts (sized_text s.user_auth) (sized_text s.«data»))
    (λ s is. record { user_auth = is.0; «data» = is.1.0 })
    (λ s is. (is.user_auth, (is.«data», tt)))

sensitive_create_small : (s : SensitiveValues) → IsSensitiveCreate s
    → length (sensitive_create_text s) < 2 ^ 16
sensitive_create_small s is =
    omega (
      arith,
      is.user_auth,
      is.«data»,
      length-append (sized_text s.user_auth) (sized_text s.«data»),
    )

abbrev pub sized_sensitive_create_text : SensitiveValues → List ℕ
sized_sensitive_create_text s = sized_text (sensitive_create_text s)

pub sized_sensitive_create_spelled : Spelled sized_sensitive_create_text IsSensitiveCreate
    (filled_by sensitive_create_at)
sized_sensitive_create_spelled = filled_spelled sensitive_create_spelled sensitive_create_small
