-- The meaning of the attributes in TPM2_GetCapability. TPM 2.0 Library, Part 2, sections 8.6
-- (TPMA_PERMANENT) and 8.7 (TPMA_STARTUP_CLEAR).
use Rattle.std.specs.Prelude.{◌≡◌, ℕ, ◌/◌, ◌%◌, ◌^◌, ◌==◌, not, Bool, true}
use Rattle.tpm_lockout.specs.Tries.{is_locked}
use Rattle.tpm_record.specs.Record.{Record}
use Rattle.tpm_record.specs.declared.fixed.Fixed.{Fixed}
use Rattle.tpm_actions_capability.specs.Properties.{is_set}
use Rattle.tpm_capability_laws.specs.Listed.{Says}

-- whether bit n of an attribute field is set
abbrev pub bit : (n field : ℕ) → Bool
bit n field = field / 2 ^ n % 2 == 1

-- The bits of TPMA_PERMANENT: ownerAuthSet (0), endorsementAuthSet (1), lockoutAuthSet (2),
-- disableClear (8), inLockout (9) and tpmGeneratedEPS (10).
pub record SaysPermanent (f : Fixed) (field : ℕ) : Type 0 where
  pub owner : bit 0 field ≡ is_set f.hierarchies.owner.auth_value
  pub endorsement : bit 1 field ≡ is_set f.hierarchies.endorsement.auth_value
  pub lockout : bit 2 field ≡ is_set f.hierarchies.lockout_auth
  pub disable_clear : bit 8 field ≡ f.disable_clear
  pub in_lockout : bit 9 field ≡ is_locked f.lockout.fields
  pub generated : bit 10 field ≡ true

-- TPM_PT_PERMANENT (200) has these bits.
abbrev pub PermanentSays : Type 0
PermanentSays = (r : Record) → Says 0x200 r (SaysPermanent r.fixed)

-- The bits of TPMA_STARTUP_CLEAR: phEnable (0), shEnable (1), ehEnable (2), phEnableNV (3) and
-- orderly (31).
pub record SaysStartup (f : Fixed) (field : ℕ) : Type 0 where
  pub platform : bit 0 field ≡ true
  pub storage : bit 1 field ≡ true
  pub endorsement : bit 2 field ≡ true
  pub platform_nv : bit 3 field ≡ true
  pub orderly : bit 31 field ≡ not (f.restart_count == 0)

-- TPM_PT_STARTUP_CLEAR (201) has these bits.
abbrev pub StartupSays : Type 0
StartupSays = (r : Record) → Says 0x201 r (SaysStartup r.fixed)
