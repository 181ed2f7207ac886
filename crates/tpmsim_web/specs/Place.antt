-- The handle, parameter or session that a response code names, as one number.
use Rattle.std.specs.Prelude.{ℕ, ◌+◌}
use Rattle.tpm_types_common.specs.declared.rc.Place.{Place}
use Rattle.tpm_types_common.specs.declared.rc.Place.TheVariants as place

-- one number for what a response code refers to: nothing, or the handle, parameter or session with
-- this number
abbrev pub place_number : Place → ℕ
place_number place.Nowhere = 0
place_number (place.Handle number) = 0x100 + number
place_number (place.Parameter number) = 0x200 + number
place_number (place.Session number) = 0x300 + number
