-- The properties of PCRs that a device of the complete profile lists, in ascending order. TPM 2.0
-- Library, Part 2, sections 6.14 (TPM_PT_PCR) and 10.8.3 (TPMS_TAGGED_PCR_SELECT). Bit n of a value
-- is PCR n.
use Rattle.std.specs.Prelude.{ℕ, ◌+◌, ◌*◌, ◌^◌, ◌≡◌, nat_lt, Bool, List, [], ◌∷◌, ◌++◌, length, if◌then◌else◌}
use Rattle.std.specs.List.{flat_map, sum_by}
use Rattle.tpm_bytes.specs.Numbers.{numbers_below}
use Rattle.tpm_pcr.specs.Changes.{may_extend, may_reset, use_of}
use Rattle.tpm_pcr.specs.Saved.{no_values}
use Rattle.tpm_actions_capability.specs.Element.{element}
use Rattle.tpm_actions_capability.specs.declared.element.Element.{Element}

-- for each property, the PCRs that have it: PCRs that TPM2_Shutdown(STATE) saves; PCRs that can be
-- extended or reset from each locality; PCRs whose changes do not increment the update counter
-- (none); PCRs with a policy or an authorization value (none)
abbrev pub pcr_property_elements : List Element
pcr_property_elements =
    element 0x00 0x00_ffff  -- SAVE
    ∷ element 0x01 0x81_ffff  -- EXTEND_L0
    ∷ element 0x02 0x81_0000  -- RESET_L0
    ∷ element 0x03 0x81_ffff  -- EXTEND_L1
    ∷ element 0x04 0x81_0000  -- RESET_L1
    ∷ element 0x05 0xff_ffff  -- EXTEND_L2
    ∷ element 0x06 0x81_0000  -- RESET_L2
    ∷ element 0x07 0xff_ffff  -- EXTEND_L3
    ∷ element 0x08 0x81_0000  -- RESET_L3
    ∷ element 0x09 0xff_ffff  -- EXTEND_L4
    ∷ element 0x0a 0xff_0000  -- RESET_L4
    ∷ element 0x11 0  -- NO_INCREMENT
    ∷ element 0x13 0  -- POLICY
    ∷ element 0x14 0  -- AUTH
    ∷ []

-- ---- what the list means

-- the PCRs for which a test is true, as a number with one bit for each PCR
abbrev pub pcrs_with : (ℕ → Bool) → ℕ
pcrs_with test = sum_by (λ pcr. if test pcr then 2 ^ pcr else 0) (numbers_below 24)

-- the properties of a locality: which PCRs can be extended from it, and which can be reset
abbrev pub of_locality : (locality : ℕ) → List Element
of_locality locality =
    element (2 * locality + 1) (pcrs_with (λ pcr. may_extend (use_of pcr) locality))
    ∷ element (2 * locality + 2) (pcrs_with (λ pcr. may_reset (use_of pcr) locality))
    ∷ []

-- The listed properties of PCRs match the device: as many PCRs are saved as there are saved values,
-- and each PCR is listed for the localities from which it can be extended or reset.
abbrev pub PcrPropertiesHold : Type 0
PcrPropertiesHold =
    pcr_property_elements
    ≡ element 0 (pcrs_with (λ pcr. nat_lt pcr (length no_values.sha1)))
    ∷ flat_map of_locality (numbers_below 5)
    ++ element 0x11 0 ∷ element 0x13 0 ∷ element 0x14 0 ∷ []
