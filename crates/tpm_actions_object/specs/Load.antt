-- TPM2_Load. TPM 2.0 Library, Part 3, section 12.2.
use Rattle.tpm_types_common.specs.declared.action_check.ActionCheck.TheVariants as action
use Rattle.std.specs.Prelude.{ℕ, List, Some, Result, Ok}
use Rattle.tpm_bytes.specs.Reading.{◌>>=◌, or_fault}
use Rattle.tpm_name.specs.ObjectName.{object_name}
use Rattle.tpm_object.specs.declared.object.Object.{Object}
use Rattle.tpm_object.specs.Object.{loaded_object}
use Rattle.tpm_object.specs.PrivateArea.{unwrapped_sensitive}
use Rattle.tpm_types_object.specs.declared.public.Public.{Public}
use Rattle.tpm_types_common.specs.declared.rc.ResponseCode.TheVariants as code
use Rattle.tpm_types_object.specs.declared.sensitive.Sensitive.{Sensitive}
use Rattle.tpm_types_common.specs.Buffer.{buffer_at}
use Rattle.tpm_types_common.specs.Filled.{filled_by}
use Rattle.tpm_types_object.specs.Public.{public_at}
use Rattle.tpm_record.specs.Objects.{object_handle, with_object}
use Rattle.tpm_record.specs.Record.{Record}
use Rattle.tpm_types_common.specs.declared.refused.Refused.{Refused}
use Rattle.tpm_record.specs.rows.Request.{Request, first_handle}
use Rattle.tpm_record.specs.rows.Answer.{AnswerParts, Sized}
use Rattle.tpm_record.specs.rows.Rows.{Success, all_read, parameter}
use Rattle.tpm_record.specs.rows.Refusals.{parameter_refusal}
use Rattle.tpm_actions_object.specs.Checks.{public_passes}
use Rattle.tpm_actions_object.specs.Loaded.{is_fixed, parent_passes, loaded_at, place_for}

-- the sensitive area in a private area. Refused by check A5 if this parent did not wrap the private
-- area for this public area
abbrev pub sensitive_of : Object → Public → List ℕ → Result Sensitive Refused
sensitive_of parent public private =
    or_fault (unwrapped_sensitive parent public private)
    (parameter_refusal action.Fifth 1 code.Integrity)

-- the loaded object, a child of this parent in the same hierarchy
abbrev pub loaded_below : Object → Public → Sensitive → Object
loaded_below parent public sensitive =
    loaded_object parent.hierarchy public sensitive parent.qualified_name

-- the answer of TPM2_Load: the object's handle and its Name
abbrev pub load_answer : ℕ → Object → AnswerParts
load_answer place object = record {
  handle = Some (object_handle place);
  body = Sized (object_name object.public);
  drawn = 0;
}

-- the parameters inPrivate, at most 256 bytes (the longest private area is 254 bytes), and
-- inPublic
pub record Parameters : Type 0 where
  pub private : List ℕ
  pub public : Public

unfoldable pub parameters_in : List ℕ → Result Parameters Refused
parameters_in text = do
  private ← parameter 1 (buffer_at 256 text)
  public ← parameter 2 (filled_by public_at private.1)
  ended ← all_read public.1
  Ok (record { private = private.0; public = public.0 })

-- the row of TPM2_Load. Handle: parentHandle. Refused by check A1 if the handle's object is not a
-- storage parent; by A2 to A4, the checks of the public area; by A5, the check of the private area;
-- by A6 if no slot is free
unfoldable pub load_row : Record → Request → Result Success Refused
load_row r q = do
  handle ← first_handle q.handles
  parent ← loaded_at r handle
  p ← parameters_in q.parameters
  a1 ← parent_passes parent
  t ← public_passes 1 (is_fixed parent) p.public
  sensitive ← sensitive_of parent p.public p.private
  place ← place_for action.Sixth r
  let object : Object = loaded_below parent p.public sensitive
  Ok (record {
    answer = load_answer place object;
    after = record r { objects = with_object r.objects place object };
  })
