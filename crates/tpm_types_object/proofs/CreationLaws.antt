-- A read returns creation data exactly when the input starts with their encoding.
use Rattle.std.proofs.Common.{ℕ, ◌^◌, ◌<◌, List, ◌++◌, length, Option, refl, arith, length-append}
use Rattle.std.specs.Int.{w8, w16, to_be_bytes}
use Rattle.tpm_bytes.specs.Writing.{sized_text}
use Rattle.tpm_bytes.proofs.Fields.{wide8}
use Rattle.tpm_mac.specs.declared.algorithm.HashAlg.{HashAlg}
use Rattle.tpm_types_object.specs.declared.creation_data.CreationData.{CreationData}
use Rattle.tpm_types_common.specs.declared.pcr_selection.BankSelection.{BankSelection}
use Rattle.tpm_types_common.specs.declared.rc.ResponseCode.TheVariants as code
use Rattle.tpm_types_common.specs.Algorithm.{hash_or_null_number}
use Rattle.tpm_types_object.specs.CreationData.{IsCreationData, creation_data_at, creation_data_text}
use Rattle.tpm_types_common.specs.Filled.{filled_by}
use Rattle.tpm_types_common.specs.PcrSelection.{selection_text}
use Rattle.tpm_types_common.specs.Rc.{plain}
use Rattle.tpm_types_common.proofs.BanksLemmas.{length-selection_text}
use Rattle.tpm_types_common.proofs.FieldLaws.{buffer_spelled, number_spelled, selection_spelled}
use Rattle.tpm_types_common.proofs.FilledLaws.{filled_spelled}
use Rattle.tpm_types_common.proofs.HashLaws.{hash_or_null_spelled}
use Rattle.tpm_types_common.proofs.Spelled.{Spelled, all_read, first, respelled, seven_texts, then}

-- the fields of creation data, in order
abbrev Fields : Type 0
Fields = (((((List BankSelection × List ℕ) × ℕ) × Option HashAlg) × List ℕ) × List ℕ) × List ℕ

abbrev fields_of : CreationData → Fields
fields_of c = (
  (
    ((((c.pcr_select.banks.items, c.pcr_digest), c.locality), c.parent_name_alg), c.parent_name),
    c.parent_qualified_name,
  ),
  c.outside_info,
)

abbrev creation_data_of : Fields → CreationData
creation_data_of f = record {
  pcr_select = record { banks = record { items = f.0.0.0.0.0.0 } };
  pcr_digest = f.0.0.0.0.0.1;
  locality = f.0.0.0.0.1;
  parent_name_alg = f.0.0.0.1;
  parent_name = f.0.0.1;
  parent_qualified_name = f.0.1;
  outside_info = f.1;
}

pub creation_data_spelled : Spelled creation_data_text IsCreationData creation_data_at
unfolding creation_data_at creation_data_text
creation_data_spelled =
    let b32 = buffer_spelled 32 (omega arith) in
    let b34 = buffer_spelled 34 (omega arith) in
    let octet = number_spelled w8 (2 ^ 8) wide8 (plain code.Insufficient) in
    let fields =
    first selection_spelled
    (then b32
    (then octet
    (then hash_or_null_spelled
    (then b34
    (then b34
    (then b34 (all_read fields_of creation_data_of (λ _. refl) (λ _. refl)))))))) in
    respelled fields
    (λ c. seven_texts (selection_text c.pcr_select.banks.items) (sized_text c.pcr_digest)
    (to_be_bytes w8 c.locality) (to_be_bytes w16 (hash_or_null_number c.parent_name_alg))
    (sized_text c.parent_name) (sized_text c.parent_qualified_name)
    (sized_text c.outside_info))
    (λ c is. record {
      pcr_select = is.0;
      pcr_digest = is.1.0;
      locality = is.1.1.0;
      parent_name =
          is.1.1.1.1.0;
      parent_qualified_name = is.1.1.1.1.1.0;
      outside_info = is.1.1.1.1.1.1.0;
    })
    (λ c is. (
      is.pcr_select,
      (
        is.pcr_digest,
        (
          is.locality,
          (tt, (is.parent_name, (is.parent_qualified_name, (is.outside_info, tt)))),
        ),
      ),
    ))

-- ---- creation data in a sized buffer

pub creation_data_small : (c : CreationData) → IsCreationData c
    → length (creation_data_text c) < 2 ^ 16
unfolding creation_data_text
creation_data_small c is =
    let select = selection_text c.pcr_select.banks.items in
    let digest = select ++ sized_text c.pcr_digest in
    let numbers = digest ++ to_be_bytes w8 c.locality
    ++ to_be_bytes w16 (hash_or_null_number c.parent_name_alg) in
    let parent = numbers ++ sized_text c.parent_name in
    let qualified = parent ++ sized_text c.parent_qualified_name in
    let few = is.pcr_select.few in
    omega (
      arith,
      few,
      is.pcr_digest,
      is.parent_name,
      is.parent_qualified_name,
      is.outside_info,
      length-selection_text c.pcr_select.banks.items,
      length-append select (sized_text c.pcr_digest),
      length-append digest (to_be_bytes w8 c.locality),
      length-append (digest ++ to_be_bytes w8 c.locality)
          (to_be_bytes w16 (hash_or_null_number c.parent_name_alg)),
      length-append numbers (sized_text c.parent_name),
      length-append parent (sized_text c.parent_qualified_name),
      length-append qualified (sized_text c.outside_info),
    )

abbrev pub sized_creation_data_text : CreationData → List ℕ
sized_creation_data_text c = sized_text (creation_data_text c)

pub sized_creation_data_spelled : Spelled sized_creation_data_text IsCreationData
    (filled_by creation_data_at)
sized_creation_data_spelled = filled_spelled creation_data_spelled creation_data_small
