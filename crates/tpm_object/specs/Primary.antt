-- Primary objects. TPM 2.0 Library, Part 1, section 14 (primary seeds) and section 27 (object
-- creation), and Part 3, section 24.1 (TPM2_CreatePrimary). The standard leaves the derivation from
-- the seed to the TPM; this device applies KDFa to the two structures that the caller sends.
use Rattle.std.specs.Prelude.{ℕ, ◌+◌, List, [], ◌∷◌, take, drop}
use Rattle.tpm_mac.specs.Digest.{digest_size, hash_of}
use Rattle.tpm_mac.specs.Kdf.{kdfa_of}
use Rattle.tpm_types_name.specs.Name.{handle_name}
use Rattle.tpm_types_common.specs.Handle.{hierarchy_handle}
use Rattle.tpm_types_object.specs.Public.{public_text}
use Rattle.tpm_types_object.specs.SensitiveCreate.{SensitiveValues, sensitive_create_text}
use Rattle.tpm_types_common.specs.declared.handle.HierarchyHandle.{HierarchyHandle}
use Rattle.tpm_types_object.specs.declared.public.Public.{Public}
use Rattle.tpm_object.specs.Areas.{new_object_areas}
use Rattle.tpm_object.specs.Creation.{generated_size}
use Rattle.tpm_object.specs.Object.{loaded_object}
use Rattle.tpm_object.specs.declared.areas.Created.{Created}
use Rattle.tpm_object.specs.declared.object.Object.{Object}

-- the KDFa label for primary objects: "PRIMARY"
abbrev pub primary_label : List ℕ
primary_label = 0x50 ∷ 0x52 ∷ 0x49 ∷ 0x4d ∷ 0x41 ∷ 0x52 ∷ 0x59 ∷ []

-- the bytes of a primary object: KDFa(nameAlg, seed, "PRIMARY", H(TPMT_PUBLIC),
-- H(TPMS_SENSITIVE_CREATE), bits). Both structures are hashed as the caller sends them, without
-- their sizes: the template with its unique field, the authorization value with trailing zeros
unfoldable pub primary_bytes : (seed : List ℕ) → Public → SensitiveValues → List ℕ
primary_bytes seed template given =
    kdfa_of template.name_alg seed primary_label (hash_of template.name_alg (public_text template))
    (hash_of template.name_alg (sensitive_create_text given))
    (digest_size template.name_alg + generated_size template given)

-- both areas of a primary object. The seedValue is the first part of `primary_bytes`, as long as a
-- nameAlg digest. The remaining bytes are the key
unfoldable pub primary_areas : (seed : List ℕ) → Public → SensitiveValues → Created
primary_areas seed template given =
    let bytes : List ℕ = primary_bytes seed template given in
    new_object_areas template given (take (digest_size template.name_alg) bytes)
    (drop (digest_size template.name_alg) bytes)

-- an object directly under its hierarchy; the hierarchy's handle is used as the parent's qualified
-- Name
abbrev pub under_hierarchy : HierarchyHandle → Created → Object
under_hierarchy hierarchy areas =
    loaded_object hierarchy areas.public areas.sensitive (handle_name (hierarchy_handle hierarchy))

unfoldable pub primary_object : HierarchyHandle
    → (seed : List ℕ) → Public → SensitiveValues → Object
primary_object hierarchy seed template given =
    under_hierarchy hierarchy (primary_areas seed template given)
