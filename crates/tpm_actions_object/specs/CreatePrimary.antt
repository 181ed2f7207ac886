-- TPM2_CreatePrimary. TPM 2.0 Library, Part 3, section 24.1.
use Rattle.tpm_types_common.specs.declared.action_check.ActionCheck.TheVariants as action
use Rattle.std.specs.Prelude.{ℕ, ◌++◌, true, Some, Result, Ok, ok_or}
use Rattle.tpm_bytes.specs.Reading.{◌>>=◌}
use Rattle.tpm_bytes.specs.Writing.{sized_text}
use Rattle.tpm_name.specs.ObjectName.{object_name}
use Rattle.tpm_object.specs.declared.object.Object.{Object}
use Rattle.tpm_object.specs.Primary.{primary_object}
use Rattle.tpm_types_common.specs.declared.handle.Handle.{Handle}
use Rattle.tpm_types_common.specs.declared.handle.HierarchyHandle.{HierarchyHandle}
use Rattle.tpm_types_common.specs.Handle.{hierarchy_of}
use Rattle.tpm_types_object.specs.Public.{public_text}
use Rattle.tpm_record.specs.Hierarchy.{secrets_of}
use Rattle.tpm_record.specs.Objects.{object_handle, with_object}
use Rattle.tpm_record.specs.Record.{Record}
use Rattle.tpm_types_common.specs.declared.refused.Refused.{Refused}
use Rattle.tpm_record.specs.rows.Refusals.{handle_refusal}
use Rattle.tpm_record.specs.rows.Request.{Request, first_handle}
use Rattle.tpm_record.specs.rows.Answer.{AnswerParts, SizedFirst}
use Rattle.tpm_record.specs.rows.Rows.{Success}
use Rattle.tpm_actions_object.specs.Checks.{given_passes, public_passes}
use Rattle.tpm_actions_object.specs.Creation.{Parameters, creation_rest, hierarchy_parent, parameters_in}
use Rattle.tpm_actions_object.specs.Loaded.{place_for}

-- the hierarchy that a handle names; the general checks ensure that the handle names a hierarchy
abbrev pub named_hierarchy : Handle → Result HierarchyHandle Refused
named_hierarchy handle = ok_or (hierarchy_of handle) handle_refusal

-- the primary object, derived from the hierarchy's seed
abbrev pub primary_from_seed : Record → HierarchyHandle → Parameters → Object
primary_from_seed r hierarchy p =
    primary_object hierarchy (secrets_of r.fixed.hierarchies hierarchy).seed p.template p.given

-- the answer of TPM2_CreatePrimary: the object's handle, the data about its creation, and its
-- Name
abbrev pub primary_answer : Record → Request → HierarchyHandle → Parameters → ℕ → Object
    → AnswerParts
primary_answer r q hierarchy p place object = record {
  handle = Some (object_handle place);
  body = SizedFirst (public_text object.public)
      (creation_rest r q.locality (hierarchy_parent hierarchy) p object.public
      ++ sized_text (object_name object.public));
  drawn = 0;
}

-- the row of TPM2_CreatePrimary. Handle: primaryHandle. Refused by A1 to A3, the checks of the
-- template; by A4 to A6, the checks of inSensitive; by A7 if no slot is free
unfoldable pub create_primary_row : Record → Request → Result Success Refused
create_primary_row r q = do
  handle ← first_handle q.handles
  hierarchy ← named_hierarchy handle
  p ← parameters_in q.parameters
  t ← public_passes 0 true p.template
  c ← given_passes 3 p.given p.template
  place ← place_for action.Seventh r
  let object : Object = primary_from_seed r hierarchy p
  Ok (record {
    answer = primary_answer r q hierarchy p place object;
    after = record r { objects = with_object r.objects place object };
  })
