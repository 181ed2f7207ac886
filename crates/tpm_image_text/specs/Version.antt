-- The versions of an image, the profile of the devices that have images of each version, and the
-- limits of each version on NV indices. The format is specific to this device.
use Rattle.std.specs.Prelude.{ℕ, ◌==◌, Bool, if◌then◌else◌, Option, Some, None}
use Rattle.tpm_types_common.specs.Limits.{nv_index_limit, nv_space_limit}
use Rattle.tpm_commands.specs.declared.profile.Profile.{Profile}
use Rattle.tpm_commands.specs.declared.profile.Profile.TheVariants as profile
use Rattle.tpm_image_text.specs.declared.version.Version.{Version}
use Rattle.tpm_image_text.specs.declared.version.Version.TheVariants.{One, Two, CompleteOne}

-- the last letter of the magic word: I (TPMI) if the device is of the symmetric profile, and C (TPMC)
-- if it is of the complete profile
abbrev pub symmetric_letter : ℕ
symmetric_letter = 0x49

abbrev pub complete_letter : ℕ
complete_letter = 0x43

abbrev pub version_letter : Version → ℕ
version_letter One = symmetric_letter
version_letter Two = symmetric_letter
version_letter CompleteOne = complete_letter

abbrev pub version_number : Version → ℕ
version_number One = 1
version_number Two = 2
version_number CompleteOne = 1

-- the version with this number, if any, after the magic word of the complete profile, or after that
-- of the symmetric profile
unfoldable pub version_numbered : (is_complete : Bool) → ℕ → Option Version
version_numbered is_complete number =
    if is_complete then (if number == 1 then Some CompleteOne else None)
    else (if number == 1 then Some One else (if number == 2 then Some Two else None))

-- the largest number of NV indices in an image; in version 1 of the symmetric profile it is less than
-- the device's limit
abbrev pub index_limit : Version → ℕ
index_limit One = 32
index_limit Two = nv_index_limit
index_limit CompleteOne = nv_index_limit

-- the largest total size of the data of all NV indices in an image; in version 1 of the symmetric
-- profile it is less than the device's limit
abbrev pub space_limit : Version → ℕ
space_limit One = 8192
space_limit Two = nv_space_limit
space_limit CompleteOne = nv_space_limit

-- the profile of the devices that have images of this version
abbrev pub profile_of : Version → Profile
profile_of One = profile.Symmetric
profile_of Two = profile.Symmetric
profile_of CompleteOne = profile.Complete

-- the version in which the image of a device of this profile is written
abbrev pub version_of : Profile → Version
version_of profile.Symmetric = Two
version_of profile.Complete = CompleteOne
