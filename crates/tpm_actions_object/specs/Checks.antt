-- The checks of a template and of inSensitive, as part of a command's own checks. TPM 2.0 Library,
-- Part 3, section 12 (object commands). The response codes and the order of the checks are choices
-- of this implementation.
use Rattle.tpm_types_common.specs.ActionCheck.{action_named}
use Rattle.std.specs.Prelude.{ℕ, ◌+◌, Bool, Result}
use Rattle.tpm_object.specs.declared.creation.CreationFault.{CreationFault}
use Rattle.tpm_object.specs.declared.creation.CreationFault.TheVariants as creation
use Rattle.tpm_object.specs.declared.template.TemplateFault.{TemplateFault}
use Rattle.tpm_object.specs.declared.template.TemplateFault.TheVariants as template
use Rattle.tpm_object.specs.Creation.{creation_passes}
use Rattle.tpm_object.specs.Template.{template_passes}
use Rattle.tpm_types_object.specs.declared.public.Public.{Public}
use Rattle.tpm_types_object.specs.SensitiveCreate.{SensitiveValues}
use Rattle.tpm_types_common.specs.declared.rc.ResponseCode.TheVariants as code
use Rattle.tpm_types_common.specs.declared.refused.Refused.{Refused}
use Rattle.tpm_record.specs.rows.Refusals.{or_refusal, parameter_refusal}

-- the refusal if a template, or a public area to be loaded, fails a check; `before` is the number
-- of the command's own checks before the template's checks. The template is the second parameter
abbrev pub template_refusal : (before : ℕ) → TemplateFault → Refused
template_refusal before template.AuthPolicySize = parameter_refusal (action_named (before + 1)) 2 code.Size
template_refusal before template.Attributes = parameter_refusal (action_named (before + 2)) 2 code.Attributes
template_refusal before template.Scheme = parameter_refusal (action_named (before + 3)) 2 code.Scheme

-- the refusal if inSensitive, the first parameter, fails a check. A conflict with the template's
-- attributes is reported as an error of the attributes
abbrev pub creation_refusal : (before : ℕ) → CreationFault → Refused
creation_refusal before creation.AuthValueSize = parameter_refusal (action_named (before + 1)) 1 code.Size
creation_refusal before creation.Attributes = parameter_refusal (action_named (before + 2)) 2 code.Attributes
creation_refusal before creation.DataSize = parameter_refusal (action_named (before + 3)) 1 code.Size

-- the checks of a public area
abbrev pub public_passes : (before : ℕ)
    → (parent_is_fixed : Bool) → Public → Result (Unit {0}) Refused
public_passes before parent_is_fixed p =
    or_refusal (template_refusal before) (template_passes parent_is_fixed p)

-- the checks of inSensitive
abbrev pub given_passes : (before : ℕ) → SensitiveValues → Public → Result (Unit {0}) Refused
given_passes before given template =
    or_refusal (creation_refusal before) (creation_passes given template)
