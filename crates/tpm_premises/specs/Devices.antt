-- Examples of two devices with the same history, and of two devices that differ only in secrets: in
-- the data of an index, or in an object's sealed data.
use Rattle.std.specs.Prelude.{◌≡◌, ◌≢◌, ℕ, false, true, [], ◌∷◌, Some, replicate}
use Rattle.tpm_record.specs.Objects.{object_at}
use Rattle.tpm_record.specs.Record.{Record, manufactured}
use Rattle.tpm_row_secrecy.specs.Secrecy.{DifferInSecrets, of_data}
use Rattle.tpm_step.specs.uses.Alike.{AreAlike}
use Rattle.tpm_step.specs.history.FailedRun.{protected_index, tried_device}
use Rattle.tpm_step.specs.step.Placing.{record_with_object}
use Rattle.tpm_premises.specs.Placed.{first_transient, saved_object}

-- a device whose seeds and proofs consist only of this byte
abbrev pub seeded_device : (byte : ℕ) → Record
seeded_device byte = manufactured (replicate 256 byte)

-- Before any command, two devices with different seeds satisfy `AreAlike`: they follow the same
-- history and show the same views.
pub record AreTwoDevices : Type 0 where
  pub alike : AreAlike (seeded_device 0) (seeded_device 1) []
  pub differ : seeded_device 0 ≢ seeded_device 1

-- a device with an NV index that contains this byte eight times
abbrev pub holding_device : (byte : ℕ) → Record
holding_device byte =
    let r : Record = tried_device 0 0 0 in
    record r {
      nv = record r.nv {
        indices = (0x01000001, record protected_index { bytes = replicate 8 byte }) ∷ [];
      };
    }

-- Two devices differ only in the data of an NV index, and this data is secret.
pub record AreTwoSecrets : Type 0 where
  pub secrets : DifferInSecrets (of_data (λ number. true) (λ public. true))
      (holding_device 0) (holding_device 1)
  pub differ : holding_device 0 ≢ holding_device 1

-- a device with a transient object that seals this byte eight times
abbrev pub sealing_device : (byte : ℕ) → Record
sealing_device byte =
    record_with_object (tried_device 0 0 0)
    (record saved_object { sensitive = replicate 8 byte })

-- Two devices differ only in the sealed data of an object, and this data is secret.
pub record AreTwoSealed : Type 0 where
  pub found : object_at (sealing_device 0).objects first_transient
      ≡ Some (record saved_object { sensitive = replicate 8 0 })
  pub secrets : DifferInSecrets (of_data (λ number. false) (λ public. true))
      (sealing_device 0) (sealing_device 1)
  pub differ : sealing_device 0 ≢ sealing_device 1
