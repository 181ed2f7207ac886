-- The properties of PCRs that the completing layer lists, in ascending order. TPM 2.0 Library,
-- Part 2, sections 6.14 (TPM_PT_PCR) and 10.8.3 (TPMS_TAGGED_PCR_SELECT). Bit n of a value is PCR
-- n.
use Rattle.std.specs.Prelude.{List, [], ◌∷◌}
use Rattle.tpm_actions_capability.specs.declared.element.Element.{Element}
use Rattle.tpm_completion.specs.Listing.{element}

-- for each property, the PCRs that have it: PCRs that TPM2_Shutdown(STATE) saves; PCRs that can be
-- extended or reset from each locality; PCRs whose changes do not increment the update counter
-- (none); PCRs with a policy or an authorization value (none)
abbrev pub pcr_property_elements : List Element
pcr_property_elements =
    element 0x00 0x00_ffff  -- SAVE
    ∷ element 0x01 0x81_ffff  -- EXTEND_L0
    ∷ element 0x02 0x81_0000  -- RESET_L0
    ∷ element 0x03 0x81_ffff  -- EXTEND_L1
    ∷ element 0x04 0x81_0000  -- RESET_L1
    ∷ element 0x05 0xff_ffff  -- EXTEND_L2
    ∷ element 0x06 0x81_0000  -- RESET_L2
    ∷ element 0x07 0xff_ffff  -- EXTEND_L3
    ∷ element 0x08 0x81_0000  -- RESET_L3
    ∷ element 0x09 0xff_ffff  -- EXTEND_L4
    ∷ element 0x0a 0xff_0000  -- RESET_L4
    ∷ element 0x11 0  -- NO_INCREMENT
    ∷ element 0x13 0  -- POLICY
    ∷ element 0x14 0  -- AUTH
    ∷ []
