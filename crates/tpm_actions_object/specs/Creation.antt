-- The common part of TPM2_CreatePrimary and TPM2_Create: their parameters, and the part of their
-- answer that describes the creation. TPM 2.0 Library, Part 3, sections 12.1 and 24.1, and Part 2,
-- sections 15.1 (TPMS_CREATION_DATA) and 10.7.3 (TPMT_TK_CREATION).
use Rattle.std.specs.Prelude.{ℕ, ◌^◌, List, ◌++◌, Some, None, Result, Ok}
use Rattle.std.specs.Int.{w16, w32, to_be_bytes}
use Rattle.tpm_bytes.specs.Reading.{◌>>=◌}
use Rattle.tpm_bytes.specs.Writing.{sized_text}
use Rattle.tpm_mac.specs.declared.algorithm.HashAlg.TheVariants.{Sha256}
use Rattle.tpm_mac.specs.Digest.{hash_of}
use Rattle.tpm_mac.specs.Hmac.{hmac_of}
use Rattle.tpm_types_name.specs.Name.{handle_name}
use Rattle.tpm_name.specs.ObjectName.{object_name}
use Rattle.tpm_object.specs.declared.object.Object.{Object}
use Rattle.tpm_pcr.specs.Banks.{select_digest_of}
use Rattle.tpm_types_object.specs.declared.creation_data.CreationData.{CreationData}
use Rattle.tpm_types_common.specs.declared.handle.HierarchyHandle.{HierarchyHandle}
use Rattle.tpm_types_common.specs.declared.pcr_selection.BankSelection.{BankSelection}
use Rattle.tpm_types_object.specs.declared.public.Public.{Public}
use Rattle.tpm_types_common.specs.Buffer.{buffer_at}
use Rattle.tpm_types_object.specs.CreationData.{creation_data_text}
use Rattle.tpm_types_common.specs.Filled.{filled_by}
use Rattle.tpm_types_common.specs.Handle.{hierarchy_handle}
use Rattle.tpm_types_common.specs.PcrSelection.{selection_at}
use Rattle.tpm_types_object.specs.Public.{public_at, public_text}
use Rattle.tpm_types_object.specs.SensitiveCreate.{SensitiveValues, sensitive_create_at, sensitive_values_of}
use Rattle.tpm_record.specs.Hierarchy.{secrets_of}
use Rattle.tpm_record.specs.Record.{Record}
use Rattle.tpm_types_common.specs.declared.refused.Refused.{Refused}
use Rattle.tpm_record.specs.rows.Rows.{all_read, parameter}
use Rattle.tpm_actions_object.specs.declared.creation.CreationParameters.{CreationParameters}
use Rattle.tpm_actions_object.specs.declared.creation.Parent.{Parent}

-- the parameters inSensitive, inPublic, outsideInfo and creationPCR
pub record Parameters : Type 0 where
  pub given : SensitiveValues
  pub template : Public
  pub outside_info : List ℕ
  pub selection : List BankSelection

unfoldable pub parameters_in : List ℕ → Result Parameters Refused
parameters_in text = do
  given ← parameter 1 (filled_by sensitive_create_at text)
  template ← parameter 2 (filled_by public_at given.1)
  outside_info ← parameter 3 (buffer_at 34 template.1)
  selection ← parameter 4 (selection_at outside_info.1)
  ended ← all_read selection.1
  Ok (record {
    given = given.0;
    template = template.0;
    outside_info = outside_info.0;
    selection = selection.0;
  })

abbrev pub parameters_of : CreationParameters → Parameters
parameters_of asked = record {
  given = sensitive_values_of asked.given;
  template = asked.template;
  outside_info = asked.outside_info;
  selection = asked.selection.banks.items;
}

-- a hierarchy as the parent of a new object: it has no nameAlg; its handle serves as its Name and
-- its qualified Name
abbrev pub hierarchy_parent : HierarchyHandle → Parent
hierarchy_parent hierarchy = record {
  name_alg = None;
  name = handle_name (hierarchy_handle hierarchy);
  qualified_name = handle_name (hierarchy_handle hierarchy);
  hierarchy = hierarchy;
}

-- an object as the parent of a new object
abbrev pub object_parent : Object → Parent
object_parent o = record {
  name_alg = Some o.public.name_alg;
  name = object_name o.public;
  qualified_name = o.qualified_name;
  hierarchy = o.hierarchy;
}

-- the circumstances of an object's creation: the digest of the selected PCRs is computed with the
-- new object's nameAlg, and bit n of the creation data's locality stands for locality n
abbrev pub creation_data : Record → (locality : ℕ) → Parent → Parameters → Public → CreationData
creation_data r locality parent p public = record {
  pcr_select = record { banks = record { items = p.selection } };
  pcr_digest = select_digest_of r.fixed.banks public.name_alg p.selection;
  locality = 2 ^ locality;
  parent_name_alg = parent.name_alg;
  parent_name = parent.name;
  parent_qualified_name = parent.qualified_name;
  outside_info = p.outside_info;
}

-- the hash of creation data, without its size field
abbrev pub creation_hash : Public → CreationData → List ℕ
creation_hash public creation = hash_of public.name_alg (creation_data_text creation)

-- the tag of a creation ticket: TPM_ST_CREATION
abbrev pub creation_tag : List ℕ
creation_tag = to_be_bytes w16 0x8021

-- the creation ticket: its tag, the hierarchy, and an HMAC over the tag, the object's Name and the
-- creation hash. The HMAC's key is the hierarchy's proof; its hash algorithm is SHA-256 (a choice
-- of this implementation)
unfoldable pub ticket_text : HierarchyHandle → (proof name hash : List ℕ) → List ℕ
ticket_text hierarchy proof name hash =
    creation_tag ++ to_be_bytes w32 (hierarchy_handle hierarchy).number
    ++ sized_text (hmac_of Sha256 proof (creation_tag ++ name ++ hash))

-- the part of the answer of TPM2_CreatePrimary or TPM2_Create after the public area: the creation
-- data, their hash, and the ticket
unfoldable pub creation_rest : Record → (locality : ℕ) → Parent → Parameters → Public → List ℕ
creation_rest r locality parent p public =
    let creation : CreationData = creation_data r locality parent p public in
    let hash : List ℕ = creation_hash public creation in
    let proof : List ℕ = (secrets_of r.fixed.hierarchies parent.hierarchy).proof in
    sized_text (creation_data_text creation) ++ sized_text hash
    ++ ticket_text parent.hierarchy proof (object_name public) hash

-- the public area in the answer of TPM2_CreatePrimary or TPM2_Create, and everything after it
abbrev pub creation_text : Record → (locality : ℕ) → Parent → Parameters → Public → List ℕ
creation_text r locality parent p public =
    sized_text (public_text public) ++ creation_rest r locality parent p public
