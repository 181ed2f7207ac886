-- The NV indices of an image: decoding returns them exactly when the bytes begin with their
-- encoding.
use Rattle.tpm_image_text.specs.Sizes.{indices_size}
use Rattle.tpm_types_common.specs.Limits.{nv_data_limit}
use Rattle.std.proofs.Common.{◌≡◌, ℕ, ◌+◌, ◌*◌, ◌≤◌, Bool, true, false, cond, List, [], ◌∷◌, ◌++◌, length, Option, Some, None, refl, sym, ap, arith, length-append}
use Rattle.std.specs.Prelude.{◌==◌}
use Rattle.std.specs.Int.{w16, to_be_bytes}
use Rattle.std.specs.List.{AllByRecursion, flat_map}
use Rattle.std.proofs.lemmas.Bool.{eqb-true, le-leb, leb-true}
use Rattle.std.proofs.lemmas.Bool.Decides.{Decides-eqb}
use Rattle.std.proofs.lemmas.List.Sums.{sum_by-cons}
use Rattle.tpm_containers.specs.SortedMap.{Ascends, Entries}
use Rattle.tpm_bytes.specs.Writing.{sized_text}
use Rattle.tpm_mac.specs.Digest.{digest_size}
use Rattle.tpm_mac.specs.declared.algorithm.HashAlg.{HashAlg}
use Rattle.tpm_mac.specs.declared.algorithm.HashAlg.TheVariants.{Sha1, Sha256}
use Rattle.tpm_nv.specs.Definition.{has_type_size, is_type_size}
use Rattle.tpm_nv.specs.Index.{NvIndex}
use Rattle.tpm_nv.specs.IsContents.{AreIndices, IsIndex}
use Rattle.tpm_types_common.specs.Algorithm.{hash_number}
use Rattle.tpm_types_common.specs.AuthValue.{IsAuthValue}
use Rattle.tpm_types_common.proofs.Spelled.{Spelled, all_read, first, respelled, then}
use Rattle.tpm_types_nv.specs.NvAttributes.{has, index_type, nv_attributes_text}
use Rattle.tpm_types_nv.specs.NvPublic.{IsNvPublic, nv_index_text, nv_public_text}
use Rattle.tpm_types_nv.specs.declared.nv_attributes.NvAttribute.TheVariants as attribute
use Rattle.tpm_types_nv.specs.declared.nv_public.NvPublic.{NvPublic}
use Rattle.tpm_types_nv.specs.declared.nv_type.NvType.{NvType}
use Rattle.tpm_types_nv.specs.declared.nv_type.NvType.TheVariants as type
use Rattle.tpm_types_nv.proofs.NvPublicLaws.{sized_nv_public_spelled}
use Rattle.tpm_image_text.specs.Body.{ascend_from, bytes_of, data_size, fields_of_index_in, have_space, index_in, index_text, indices_in, indices_text, is_index}
use Rattle.tpm_image_text.specs.Version.{index_limit, space_limit}
use Rattle.tpm_image_text.specs.declared.version.Version.{Version}
use Rattle.tpm_image_text.specs.declared.version.Version.TheVariants.{Two}
use Rattle.tpm_image_text.proofs.SortedMapLaws.{are_both, ascends, ascends-again, both}
use Rattle.tpm_image_text.proofs.FieldSpelling.{auth_value_spelled, buffer_in_spelled, counted_spelled, in_body_spelled, made_of, passing_spelled, three_texts}
use Rattle.tpm_image_text.proofs.VersionLaws.{indices_within}

-- ---- the size of the data

digest_small : (alg : HashAlg) → digest_size alg ≤ nv_data_limit
digest_small Sha1 = omega arith
digest_small Sha256 = omega arith

type_size_small : (p : NvPublic) (of : Option NvType) → is_type_size p of ≡ true
    → p.data_size ≤ nv_data_limit
type_size_small p (Some type.Ordinary) is = leb-true _ _ is
type_size_small p (Some type.Counter) is = omega (arith, eqb-true _ _ is)
type_size_small p (Some type.Bits) is = omega (arith, eqb-true _ _ is)
type_size_small p (Some type.Extend) is = omega (arith, eqb-true _ _ is, digest_small p.name_alg)
type_size_small p None is = absurd cc

data_within : (p : NvPublic) → data_size p ≤ p.data_size
data_within p = if_written (has p.attributes attribute.Written)
  where
    if_written : (written : Bool) → cond written p.data_size 0 ≤ p.data_size
    if_written true = omega arith
    if_written false = omega arith

-- ---- one NV index

abbrev Fields : Type 0
Fields = (NvPublic × List ℕ) × List ℕ

abbrev fields_of : NvIndex → Fields
fields_of index = ((index.public, index.auth_value), index.bytes)

abbrev index_of : Fields → NvIndex
index_of f = record { public = f.0.0; auth_value = f.0.1; bytes = f.1 }

abbrev keyed : NvIndex → ℕ × NvIndex
keyed index = (index.public.nv_index.number, index)

-- Each field of an NV index has an allowed value and size.
record HasFields (index : NvIndex) : Type 0 where
  public : IsNvPublic index.public
  auth_value : IsAuthValue index.auth_value
  bytes : length index.bytes ≤ nv_data_limit

abbrev text_of : NvIndex → List ℕ
text_of index = index_text (keyed index)

fields_spelled : Spelled text_of HasFields fields_of_index_in
unfolding index_text
fields_spelled =
    let bytes = buffer_in_spelled nv_data_limit (omega arith) in
    let fields = first (in_body_spelled sized_nv_public_spelled)
    (then auth_value_spelled
    (then bytes (all_read fields_of index_of (λ _. refl) (λ _. refl)))) in
    respelled fields
    (λ index. three_texts (sized_text (nv_public_text index.public)) (sized_text index.auth_value)
    (sized_text index.bytes))
    (λ index is. record { public = is.0; auth_value = is.1.0; bytes = is.1.1.0 })
    (λ index is. (is.public, (is.auth_value, (is.bytes, tt))))

pub index_spelled : Spelled index_text (λ e. IsIndex e.0 e.1) index_in
unfolding index_in index_text
index_spelled = made_of keyed (λ e. e.1) to from (passing_spelled is_index fields_spelled)
  where
    to : (index : NvIndex) → HasFields index × (is_index index ≡ true)
        → (index ≡ index) × IsIndex index.public.nv_index.number index
    to index is =
        let tests = are_both (has_type_size index.public)
        (length index.bytes == data_size index.public) is.1 in (
          refl,
          record {
            named = refl;
            public = is.0.public;
            sized = tests.0;
            auth_value =
                is.0.auth_value;
            data_size = eqb-true _ _ tests.1;
          },
        )

    from : (e : ℕ × NvIndex) → IsIndex e.0 e.1
        → (keyed e.1 ≡ e) × (HasFields e.1 × (is_index e.1 ≡ true))
    from e is =
        let small = type_size_small e.1.public (index_type e.1.public.attributes) is.sized in
        let few : length e.1.bytes ≤ nv_data_limit =
        omega (arith, small, is.data_size, data_within e.1.public) in
        let tests = both (has_type_size e.1.public) (length e.1.bytes == data_size e.1.public)
        is.sized ((Decides-eqb _ _).1 is.data_size) in (
          ap (λ (key : ℕ). (key, e.1)) (sym is.named),
          (record { public = is.public; auth_value = is.auth_value; bytes = few }, tests),
        )

-- ---- all NV indices

-- An image of this version can store these NV indices.
pub record AreStored (version : Version) (indices : Entries NvIndex) : Type 0 where
  pub ascends : Ascends indices
  pub few : length indices ≤ index_limit version
  pub small : bytes_of indices ≤ space_limit version
  pub each : AreIndices indices

are_each : (es : Entries NvIndex) → AllByRecursion (λ e. IsIndex e.0 e.1) es → AreIndices es
are_each [] all = tt
are_each (e ∷ es) all = (all.0, are_each es all.1)

are_each-again : (es : Entries NvIndex) → AreIndices es → AllByRecursion (λ e. IsIndex e.0 e.1) es
are_each-again [] each = tt
are_each-again (e ∷ es) each = (each.0, are_each-again es each.1)

pub indices_spelled : (version : Version)
    → Spelled indices_text (AreStored version) (indices_in version)
unfolding indices_in indices_text
indices_spelled version =
    respelled (passing_spelled (have_space (space_limit version))
    (passing_spelled (ascend_from 0)
    (counted_spelled (index_limit version) (omega (arith, indices_within version))
    index_spelled))) (λ _. refl)
    (λ es is. record {
      ascends = ascends 0 es is.0.1;
      few = is.0.0.0;
      small =
          leb-true _ _ is.1;
      each = are_each es is.0.0.1;
    })
    (λ es are. (
      ((are.few, are_each-again es are.each), ascends-again es are.ascends),
      le-leb _ _ are.small,
    ))

-- ---- the largest size of the encoded indices

nv_public_short : (p : NvPublic) → IsNvPublic p → length (nv_public_text p) ≤ 46
unfolding nv_public_text
nv_public_short p is =
    let front = nv_index_text p.nv_index ++ to_be_bytes w16 (hash_number p.name_alg)
    ++ nv_attributes_text p.attributes in
    let policy = front ++ sized_text p.auth_policy in
    omega (
      arith,
      is.auth_policy,
      length-append front (sized_text p.auth_policy),
      length-append policy (to_be_bytes w16 p.data_size),
    )

pub index_small : (e : ℕ × NvIndex) → IsIndex e.0 e.1
    → length (index_text e) ≤ 84 + e.1.public.data_size
unfolding index_text
index_small e is =
    let public = sized_text (nv_public_text e.1.public) in
    omega (
      arith,
      nv_public_short e.1.public is.public,
      is.auth_value.0,
      is.data_size,
      data_within e.1.public,
      length-append public (sized_text e.1.auth_value),
      length-append (public ++ sized_text e.1.auth_value) (sized_text e.1.bytes),
    )

all_small : (es : Entries NvIndex) → AreIndices es
    → length (flat_map index_text es) ≤ 84 * length es + bytes_of es
all_small [] each = omega arith
all_small (e ∷ es) each =
    omega (
      arith,
      index_small e each.0,
      all_small es each.1,
      length-append (index_text e) (flat_map index_text es),
      sum_by-cons (λ (d : ℕ × NvIndex). d.1.public.data_size) e es,
    )

pub indices_small : (es : Entries NvIndex) → AreStored Two es
    → length (indices_text es) ≤ indices_size
unfolding indices_text
indices_small es are =
    omega (
      arith,
      are.few,
      are.small,
      all_small es are.each,
      length-append (to_be_bytes w16 (length es)) (flat_map index_text es),
    )
