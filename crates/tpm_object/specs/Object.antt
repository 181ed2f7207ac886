-- Objects. TPM 2.0 Library, Part 1, section 23 (the protected storage hierarchy).
use Rattle.std.specs.Prelude.{ℕ, ◌≤◌, ◌&&◌, not, Bool, true, false, List, length}
use Rattle.tpm_types_name.specs.Name.{qualified_name}
use Rattle.tpm_name.specs.ObjectName.{object_name}
use Rattle.tpm_types_common.specs.Limits.{sensitive_limit}
use Rattle.tpm_types_common.specs.AuthValue.{IsAuthValue, trimmed}
use Rattle.tpm_types_object.specs.ObjectAttributes.{has}
use Rattle.tpm_types_object.specs.Public.{IsPublic}
use Rattle.tpm_types_object.specs.declared.object_attributes.ObjectAttribute.TheVariants as attribute
use Rattle.tpm_types_object.specs.declared.public.Public.{Public}
use Rattle.tpm_types_object.specs.declared.public.PublicParameters.{PublicParameters}
use Rattle.tpm_types_object.specs.declared.public.PublicParameters.TheVariants as parameters_of
use Rattle.tpm_types_common.specs.declared.handle.HierarchyHandle.{HierarchyHandle}
use Rattle.tpm_types_object.specs.declared.sensitive.Sensitive.{Sensitive}
use Rattle.tpm_object.specs.declared.object.Object.{Object}

abbrev pub are_of_cipher : PublicParameters → Bool
are_of_cipher (parameters_of.KeyedHash scheme) = false
are_of_cipher parameters_of.SymCipher = true

-- whether an object is a SYMCIPHER object
abbrev pub is_cipher : Public → Bool
is_cipher p = are_of_cipher p.parameters

-- whether an object is a KEYEDHASH object
abbrev pub is_keyed_hash : Public → Bool
is_keyed_hash p = not (are_of_cipher p.parameters)

-- whether an object is a storage parent, under which other objects can be created or loaded: a
-- SYMCIPHER object that is restricted, decrypts, and does not sign
abbrev pub is_storage_parent : Public → Bool
is_storage_parent p =
    is_cipher p && has p.attributes attribute.Restricted && has p.attributes attribute.Decrypt
    && not (has p.attributes attribute.Sign)

-- an object with these areas, under a parent with this qualified Name. Trailing zeros of its
-- authorization value are removed, and its public area determines its type
abbrev pub loaded_object : HierarchyHandle
    → Public → Sensitive → (parent_qualified_name : List ℕ) → Object
loaded_object hierarchy public area parent_qualified_name = record {
  hierarchy = hierarchy;
  public = public;
  auth_value = trimmed area.auth_value;
  seed_value = area.seed_value;
  sensitive = area.sensitive;
  qualified_name =
      qualified_name public.name_alg parent_qualified_name (object_name public);
}

-- The conditions that every loaded object satisfies: its public area can be encoded; its
-- authorization value can be stored; its seedValue is at most 32 bytes long; its key or data is
-- within the limit (Part 2, sections 12.2.4 and 12.3.2.4); and its qualified Name is at most 34
-- bytes long.
pub record IsObject (object : Object) : Type 0 where
  pub public : IsPublic object.public
  pub auth_value : IsAuthValue object.auth_value
  pub seed_value : length object.seed_value ≤ 32
  pub sensitive : length object.sensitive ≤ sensitive_limit
  pub qualified_name : length object.qualified_name ≤ 34

-- the highest byte of a transient object's handle, 80 (TPM_HT_TRANSIENT of Part 2, section 7.2)
abbrev pub transient_byte : Object → ℕ
transient_byte object = 0x80
