-- The versions of a state text, and the profile of the devices whose state texts have each version.
-- The format is specific to this device.
use Rattle.std.specs.Prelude.{ℕ, ◌==◌, if◌then◌else◌, Option, Some, None}
use Rattle.tpm_commands.specs.declared.profile.Profile.{Profile}
use Rattle.tpm_commands.specs.declared.profile.Profile.TheVariants.{Symmetric, Complete}
use Rattle.tpm_state_text.specs.declared.version.StateVersion.{StateVersion}
use Rattle.tpm_state_text.specs.declared.version.StateVersion.TheVariants.{One, Two, Three}

abbrev pub state_version_number : StateVersion → ℕ
state_version_number One = 1
state_version_number Two = 2
state_version_number Three = 3

-- the version with this number, or None if no version has this number
unfoldable pub state_version_numbered : ℕ → Option StateVersion
state_version_numbered number =
    if number == 1 then Some One else (if number == 2 then Some Two
    else (if number == 3 then Some Three else None))

-- the profile of the devices whose state texts have this version. Version 1 is no longer read
abbrev pub state_profile : StateVersion → Option Profile
state_profile One = None
state_profile Two = Some Symmetric
state_profile Three = Some Complete

-- the version in which the state text of a device of this profile is written
abbrev pub state_version_of : Profile → StateVersion
state_version_of Symmetric = Two
state_version_of Complete = Three
