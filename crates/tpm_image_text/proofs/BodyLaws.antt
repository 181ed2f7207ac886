-- The body of an image: decoding returns a non-volatile state exactly when the bytes begin with its
-- encoding. This file also proves how large a body can be.
use Rattle.tpm_image_text.specs.Sizes.{body_size}
use Rattle.std.proofs.Common.{◌≡◌, ℕ, ◌^◌, ◌<◌, ◌≤◌, List, ◌++◌, length, Ok, refl, arith, length-append}
use Rattle.tpm_commands.specs.declared.profile.Profile.{Profile}
use Rattle.tpm_commands.specs.declared.profile.Profile.TheVariants.{Symmetric, Complete}
use Rattle.tpm_containers.specs.SortedMap.{Entries}
use Rattle.tpm_bytes.proofs.Fields.{AreBytes}
use Rattle.tpm_nv.specs.Index.{NvIndex}
use Rattle.tpm_nv.specs.IsContents.{IsContents}
use Rattle.tpm_object.specs.declared.object.Object.{Object}
use Rattle.tpm_image_text.specs.Body.{body_of, image_body_text, indices_text, kept_in, limits_text, objects_text, state_text}
use Rattle.tpm_image_text.specs.Image.{IsWithin}
use Rattle.tpm_image_text.specs.NonVolatile.{IsNonVolatile, KeptState, NonVolatile, nv_of}
use Rattle.tpm_image_text.specs.Version.{version_of}
use Rattle.tpm_image_text.specs.declared.version.Version.{Version}
use Rattle.tpm_image_text.specs.declared.version.Version.TheVariants.{Two}
use Rattle.tpm_types_common.proofs.Spelled.{Spelled, all_read, first, four_texts, respelled, then}
use Rattle.tpm_image_text.proofs.FieldSpelling.{filling_again, filling_taken}
use Rattle.tpm_image_text.proofs.IndexLaws.{AreStored, indices_small, indices_spelled}
use Rattle.tpm_image_text.proofs.ObjectLaws.{objects_small, objects_spelled}
use Rattle.tpm_image_text.proofs.StateLaws.{state_small, state_spelled}
use Rattle.tpm_image_text.proofs.VersionLaws.{indices_within, limits_small, limits_spelled, space_within}

-- ---- encoding and decoding

-- if the NV indices of a device are within the limits of a version, an image of this version can
-- store them
stored : (version : Version) (kept : NonVolatile) → IsNonVolatile kept → IsWithin version kept
    → AreStored version kept.indices
stored version kept is within =
    record { ascends = is.nv.ascends; few = within.few; small = within.small; each = is.nv.indices }

-- the NV indices of a device are always within the limits of the version of its profile
pub within_device : (kept : NonVolatile) → IsNonVolatile kept
    → IsWithin (version_of kept.profile) kept
within_device kept is = by kept.profile refl
  where
    by : (p : Profile) → kept.profile ≡ p → IsWithin (version_of p) kept
    by Symmetric is_of = record { few = is.nv.few; small = is.nv.small; profile = is_of }
    by Complete is_of = record { few = is.nv.few; small = is.nv.small; profile = is_of }

stored_device : (kept : NonVolatile) → IsNonVolatile kept → AreStored Two kept.indices
stored_device kept is = record {
  ascends = is.nv.ascends;
  few = is.nv.few;
  small = is.nv.small;
  each = is.nv.indices;
}

-- if an image of some version can store these NV indices, they are valid contents of the device's
-- NV memory
indices_is : (version : Version) (kept : NonVolatile) → kept.state.max_count < 2 ^ 64
    → AreStored version kept.indices → IsContents (nv_of kept)
indices_is version kept count are =
    record {
      ascends = are.ascends;
      few = omega (arith, are.few, indices_within version);
      small =
          omega (arith, are.small, space_within version);
      indices = are.each;
      max_count = count;
    }

abbrev Fields : Type 0
Fields = ((Profile × KeptState) × Entries Object) × Entries NvIndex

abbrev fields_of : NonVolatile → Fields
fields_of kept = (((kept.profile, kept.state), kept.persistent), kept.indices)

abbrev kept_of_fields : Fields → NonVolatile
kept_of_fields f =
    record { profile = f.0.0.0; state = f.0.0.1; persistent = f.0.1; indices = f.1 }

pub kept_spelled : (version : Version)
    → Spelled (image_body_text version) (λ kept. IsNonVolatile kept × IsWithin version kept)
    (kept_in version)
unfolding kept_in image_body_text
kept_spelled version =
    respelled (first (limits_spelled version)
    (then state_spelled
    (then objects_spelled
    (then (indices_spelled version)
    (all_read fields_of kept_of_fields (λ _. refl) (λ _. refl))))))
    (λ kept. four_texts (limits_text version) (state_text kept.state) (objects_text kept.persistent)
    (indices_text kept.indices))
    (λ kept is.
    let stored = is.1.1.1.0 in (
      record {
        state = is.1.0.0;
        persistent = is.1.1.0;
        nv =
            indices_is version kept is.1.0.1 stored;
      },
      record { few = stored.few; small = stored.small; profile = is.0 },
    ))
    (λ kept is. (
      is.1.profile,
      (
        (is.0.state, is.0.nv.max_count),
        (is.0.persistent, (stored version kept is.0 is.1, tt)),
      ),
    ))

pub body_taken : (version : Version) (text : List ℕ) (kept : NonVolatile) → AreBytes text
    → body_of version text ≡ Ok kept → (text ≡ image_body_text version kept) × IsNonVolatile kept
    × IsWithin version kept
unfolding body_of
body_taken version text kept fits e = let t =
    filling_taken (kept_spelled version) text kept fits e in (t.0, t.1.0, t.1.1)

pub body_again : (version : Version) (kept : NonVolatile) → IsNonVolatile kept
    → IsWithin version kept → body_of version (image_body_text version kept) ≡ Ok kept
unfolding body_of
body_again version kept is within = filling_again (kept_spelled version) kept (is, within)

-- ---- the largest size of an encoded body

pub body_small : (version : Version) (kept : NonVolatile) → IsNonVolatile kept
    → length (image_body_text version kept) ≤ body_size
unfolding image_body_text
body_small version kept is =
    let limits = limits_text version in
    let state = state_text kept.state in
    let objects = objects_text kept.persistent in
    omega (
      arith,
      limits_small version,
      state_small kept.state is.state,
      objects_small kept.persistent is.persistent,
      indices_small kept.indices (stored_device kept is),
      length-append limits state,
      length-append (limits ++ state) objects,
      length-append (limits ++ state ++ objects) (indices_text kept.indices),
    )
