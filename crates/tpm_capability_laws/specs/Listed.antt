-- The value of a property that a device of the complete profile lists. TPM 2.0 Library, Part 2, section
-- 6.13 (TPM_PT), and Part 3, section 30.2 (TPM2_GetCapability).
use Rattle.std.specs.Prelude.{◌≡◌, ℕ, ◌==◌, Option, Some, option_map}
use Rattle.std.specs.List.{find}
use Rattle.tpm_record.specs.Record.{Record}
use Rattle.tpm_actions_capability.specs.Properties.{complete_elements}
use Rattle.tpm_actions_capability.specs.declared.element.Element.{Element}

-- the value of the property with this number, or None if the device does not list it
abbrev pub value_of : (number : ℕ) → Record → Option ℕ
value_of number r =
    option_map (λ (e : Element). e.told)
    (find (λ (e : Element). e.number == number) (complete_elements r))

-- The device lists the property with this number, and its value says this about the device.
abbrev pub Says : (number : ℕ) → Record → (ℕ → Type 0) → Type 0
Says number r Is = (value : ℕ) × (value_of number r ≡ Some value) × Is value
