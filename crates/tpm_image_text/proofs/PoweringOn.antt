-- Reading a body into a new `Keep` yields the record that the body encodes.
use Rattle.std.proofs.Common.{◌≡◌, ℕ, List, Ok, refl}
use Rattle.std.specs.Prelude.{replicate}
use Rattle.tpm_commands.specs.declared.profile.Profile.{Profile}
use Rattle.tpm_containers.specs.SortedMap.{Entries}
use Rattle.tpm_nv.specs.Index.{NvContents, NvIndex}
use Rattle.tpm_object.specs.declared.object.Object.{Object}
use Rattle.tpm_record.specs.Record.{Record, manufactured}
use Rattle.tpm_record.specs.declared.fixed.Fixed.{Fixed}
use Rattle.tpm_image_text.specs.Body.{indices_in, kept_in, limits_in, objects_in, state_in}
use Rattle.tpm_image_text.specs.Filling.{with_state}
use Rattle.tpm_image_text.specs.NonVolatile.{KeptState, powered_on}
use Rattle.tpm_image_text.specs.declared.version.Version.{Version}

pub powered : (r : Record) (profile : Profile) (old new : Fixed) (state : KeptState)
    (persistent : Entries Object) (nv : NvContents) → r ≡ manufactured (replicate 256 0)
    → old ≡ r.fixed → new ≡ with_state (record old { profile = profile }) state
    → nv.max_count ≡ state.max_count
    → record r { fixed = new; persistent = persistent; nv = nv }
    ≡ powered_on (record {
      profile = profile;
      state = state;
      persistent = persistent;
      indices = nv.indices;
    })
powered r profile old new state persistent nv made is restored count =
    rw (restored, is, made, ← count) refl

-- decoding the parts of the non-volatile state one after another yields the whole state
pub kept_read : (version : Version) (profile : Profile)
    (text behind_limits behind_state behind_objects behind_indices : List ℕ) (state : KeptState)
    (persistent : Entries Object) (indices : Entries NvIndex)
    → limits_in version text ≡ Ok (profile, behind_limits)
    → state_in behind_limits ≡ Ok (state, behind_state)
    → objects_in behind_state ≡ Ok (persistent, behind_objects)
    → indices_in version behind_objects ≡ Ok (indices, behind_indices)
    → kept_in version text
    ≡ Ok (
      record { profile = profile; state = state; persistent = persistent; indices = indices },
      behind_indices,
    )
unfolding kept_in
kept_read version profile text behind_limits behind_state behind_objects behind_indices state persistent
    indices front first second third = rw (front, first, second, third) refl
