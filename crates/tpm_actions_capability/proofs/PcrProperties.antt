-- The listed properties of PCRs match the device.
use Rattle.std.proofs.Common.{refl}
use Rattle.tpm_actions_capability.specs.PcrProperties.{PcrPropertiesHold}

pub pcr_properties_hold : PcrPropertiesHold
pcr_properties_hold = refl
