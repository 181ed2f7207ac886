-- The areas of a new object. TPM 2.0 Library, Part 1, section 27 (object creation), and Part 2,
-- section 12.2.3.2 (TPMU_PUBLIC_ID: unique of a KEYEDHASH and of a SYMCIPHER).
use Rattle.std.specs.Prelude.{◌≡◌, ℕ, if◌then◌else◌, List, ◌++◌, take, drop}
use Rattle.tpm_mac.specs.Digest.{digest_size, hash_of}
use Rattle.tpm_types_common.specs.AuthValue.{trimmed}
use Rattle.tpm_types_object.specs.Public.{object_type}
use Rattle.tpm_types_object.specs.SensitiveCreate.{SensitiveValues}
use Rattle.tpm_types_object.specs.declared.public.Public.{Public}
use Rattle.tpm_types_object.specs.declared.sensitive.Sensitive.{Sensitive}
use Rattle.tpm_types_common.specs.Buffer.{is_given}
use Rattle.tpm_object.specs.Creation.{generated_size}
use Rattle.tpm_object.specs.declared.areas.Created.{Created}

-- the sensitive area of a new object: the type of the template, the authorization value without
-- trailing zeros, the seedValue, and the caller's data, or the key if the caller provides no data
abbrev pub new_sensitive : Public → SensitiveValues → (seed key : List ℕ) → Sensitive
new_sensitive template given seed key = record {
  object_type = object_type template;
  auth_value = trimmed given.user_auth;
  seed_value = seed;
  sensitive = if is_given given.data then given.data else key;
}

-- the public area of a new object: the template with its unique field set to H(seedValue ||
-- sensitive)
abbrev pub new_public : Public → Sensitive → Public
new_public template area =
    record template { unique = hash_of template.name_alg (area.seed_value ++ area.sensitive) }

-- both areas of an object with this seedValue, and with this key if the caller provides no data
unfoldable pub new_object_areas : Public → SensitiveValues → (seed key : List ℕ) → Created
new_object_areas template given seed key =
    let area : Sensitive = new_sensitive template given seed key in
    record { public = new_public template area; sensitive = area }

-- both areas of a new object. The first random bytes become its key, and the next random bytes
-- become its seedValue
unfoldable pub created_areas : Public → SensitiveValues → (random : List ℕ) → Created
created_areas template given random =
    new_object_areas template given
    (take (digest_size template.name_alg) (drop (generated_size template given) random))
    (take (generated_size template given) random)

-- The public and sensitive areas have the same type.
abbrev pub AreOfOneType : Created → Type 0
AreOfOneType areas = object_type areas.public ≡ areas.sensitive.object_type
