-- Localities 0 to 4. TPM 2.0 Library, Part 2, section 8.5 (TPMA_LOCALITY has a bit for each of
-- them). The device does not support extended localities (32 and above).
use Rattle.std.specs.Prelude.{◌≡◌, ℕ, ◌≤◌, ◌<◌, Option, Some, None}
use Rattle.tpm_types_common.specs.declared.locality.Locality.{Locality}

abbrev pub locality_number : Locality → ℕ
locality_number locality = locality.number

-- The result is the locality with this number if the number is 0 to 4, and None otherwise.
abbrev pub SomeLocality : ℕ → Option Locality → Type 0
SomeLocality number (Some locality) = (number ≤ 4) × (locality_number locality ≡ number)
SomeLocality number None = 4 < number
