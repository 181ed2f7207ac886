-- TPM2_Create. TPM 2.0 Library, Part 3, section 12.1.
use Rattle.std.specs.Prelude.{ℕ, ◌+◌, List, take, drop, None, Result, Ok}
use Rattle.tpm_bytes.specs.Reading.{◌>>=◌}
use Rattle.tpm_name.specs.ObjectName.{object_name}
use Rattle.tpm_object.specs.declared.areas.Created.{Created}
use Rattle.tpm_object.specs.declared.object.Object.{Object}
use Rattle.tpm_object.specs.Areas.{created_areas}
use Rattle.tpm_object.specs.Creation.{drawn_by}
use Rattle.tpm_object.specs.PrivateArea.{private_text}
use Rattle.tpm_record.specs.Record.{Record}
use Rattle.tpm_types_common.specs.declared.refused.Refused.{Refused}
use Rattle.tpm_record.specs.rows.Request.{Request, first_handle}
use Rattle.tpm_record.specs.rows.Answer.{AnswerParts, SizedFirst}
use Rattle.tpm_record.specs.rows.Rows.{Success, unchanged_success}
use Rattle.tpm_actions_object.specs.Checks.{given_passes, public_passes}
use Rattle.tpm_actions_object.specs.Creation.{Parameters, creation_text, object_parent, parameters_in}
use Rattle.tpm_actions_object.specs.Loaded.{is_fixed, parent_passes, loaded_at}

-- the IV of the private area: the sixteen random bytes that follow the random bytes for the object
abbrev pub initial_vector : Parameters → List ℕ → List ℕ
initial_vector p random = take 16 (drop (drawn_by p.template p.given) random)

-- the answer of TPM2_Create: the new object, wrapped by its parent; the device does not store it
abbrev pub create_answer : Record → Request → Object → Parameters → Created → AnswerParts
create_answer r q parent p new = record {
  handle = None;
  body = SizedFirst
      (private_text parent (object_name new.public) (initial_vector p q.random) new.sensitive)
      (creation_text r q.locality (object_parent parent) p new.public);
  drawn = drawn_by p.template p.given + 16;
}

-- the row of TPM2_Create. Handle: parentHandle. Refused by check A1 if the handle's object is not a
-- storage parent; by A2 to A4, the checks of the template; by A5 to A7, the checks of inSensitive
unfoldable pub create_row : Record → Request → Result Success Refused
create_row r q = do
  handle ← first_handle q.handles
  parent ← loaded_at r handle
  p ← parameters_in q.parameters
  a1 ← parent_passes parent
  t ← public_passes 1 (is_fixed parent) p.template
  c ← given_passes 4 p.given p.template
  Ok (unchanged_success r (create_answer r q parent p (created_areas p.template p.given q.random)))
