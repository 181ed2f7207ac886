-- The checks of a template, or of a public area to be loaded. TPM 2.0 Library, Part 1, section 25
-- (object attributes), and Part 3, section 12.1 (TPM2_Create). The order of the checks is a choice
-- of this implementation. No KEYEDHASH object has decrypt set here, since XOR schemes and
-- derivation parents are not supported.
use Rattle.std.specs.Prelude.{ℕ, ◌&&◌, not, Bool, false, if◌then◌else◌}
use Rattle.std.specs.Prelude.{List, [], ◌∷◌, length, Result}
use Rattle.std.specs.Bool.{beq}
use Rattle.tpm_types_common.specs.Algorithm.{is_policy_size}
use Rattle.tpm_types_object.specs.ObjectAttributes.{has}
use Rattle.tpm_types_object.specs.declared.object_attributes.ObjectAttribute.TheVariants as attribute
use Rattle.tpm_types_object.specs.declared.public.KeyedHashScheme.TheVariants.{Null, Hmac}
use Rattle.tpm_types_object.specs.declared.public.Public.{Public}
use Rattle.tpm_types_object.specs.declared.public.PublicParameters.{PublicParameters}
use Rattle.tpm_types_object.specs.declared.public.PublicParameters.TheVariants as parameters_of
use Rattle.tpm_object.specs.Checks.{first_fault, one_of}
use Rattle.tpm_object.specs.Object.{is_cipher, is_keyed_hash}
use Rattle.tpm_object.specs.declared.template.TemplateFault.{TemplateFault}
use Rattle.tpm_object.specs.declared.template.TemplateFault.TheVariants as fault

-- whether fixedTPM is wrong. Under a hierarchy or a parent with fixedTPM, an object must have
-- fixedTPM exactly when it has fixedParent; under any other parent it must not have fixedTPM
abbrev pub has_wrong_fixing : (parent_is_fixed : Bool) → (attributes : ℕ) → Bool
has_wrong_fixing parent_is_fixed a =
    if parent_is_fixed then not (beq (has a attribute.FixedTpm) (has a attribute.FixedParent))
    else has a attribute.FixedTpm

-- tests for the conflicts that the attributes of a template can have, one for each conflict
abbrev pub object_attribute_conflicts : (parent_is_fixed : Bool) → Public → List Bool
object_attribute_conflicts parent_is_fixed t =
    let restricted : Bool = has t.attributes attribute.Restricted in
    let decrypt : Bool = has t.attributes attribute.Decrypt in
    let sign : Bool = has t.attributes attribute.Sign in
    (has t.attributes attribute.FixedTpm && has t.attributes attribute.EncryptedDuplication)
    ∷ has_wrong_fixing parent_is_fixed t.attributes
    ∷ (restricted && beq sign decrypt)
    ∷ (is_keyed_hash t && decrypt)
    ∷ (is_cipher t && not sign && not decrypt)
    ∷ (is_cipher t && restricted && sign) ∷ []

-- whether attributes and scheme contradict each other: an HMAC scheme without sign, or a
-- restricted KEYEDHASH object without a scheme
abbrev pub has_wrong_scheme : PublicParameters → (attributes : ℕ) → Bool
has_wrong_scheme (parameters_of.KeyedHash (Hmac hash)) a = not (has a attribute.Sign)
has_wrong_scheme (parameters_of.KeyedHash Null) a = has a attribute.Restricted
has_wrong_scheme parameters_of.SymCipher a = false

abbrev pub template_checks : (parent_is_fixed : Bool) → Public → List (Bool × TemplateFault)
template_checks parent_is_fixed t =
    (not (is_policy_size t.name_alg (length t.auth_policy)), fault.AuthPolicySize)
    ∷ (one_of (object_attribute_conflicts parent_is_fixed t), fault.Attributes)
    ∷ (has_wrong_scheme t.parameters t.attributes, fault.Scheme) ∷ []

-- success if a template is accepted, otherwise the fault of the first check that fails
unfoldable pub template_passes : (parent_is_fixed : Bool)
    → Public
    → Result (Unit {0}) TemplateFault
template_passes parent_is_fixed t = first_fault (template_checks parent_is_fixed t)
