-- An example of a wrong guess of a secret authorization value, and of a refused command that reads
-- no secret data.
use Rattle.std.specs.Prelude.{◌≡◌, ◌≢◌, ℕ, true, false, [], ◌∷◌, Ok}
use Rattle.tpm_commands.specs.declared.command_code.CommandCode.TheVariants as command
use Rattle.tpm_types_common.specs.Handle.{numbered_handle}
use Rattle.tpm_types_command.specs.AuthEntry.{Entry}
use Rattle.tpm_types_command.specs.Command.{Whole}
use Rattle.tpm_record.specs.Record.{Record}
use Rattle.tpm_record.specs.Tick.{after_tick}
use Rattle.tpm_row_secrecy.specs.Secrecy.{CoversKeys, DifferInSecrets, Secrecy, of_data}
use Rattle.tpm_secrecy.specs.Guesses.{is_guess}
use Rattle.tpm_secrecy.specs.Tells.{EventKeepsSecrets, is_reading}
use Rattle.tpm_step.specs.history.FailedRun.{protected_index, tried_device, wrong_after, wrong_read}
use Rattle.tpm_step.specs.step.General.{general}
use Rattle.tpm_premises.specs.Devices.{holding_device}

-- the choice that the authorization values of NV indices, and the keys of bound sessions, are secret
abbrev pub value_secrecy : Secrecy
value_secrecy = record {
  index_data = λ number. false;
  object_data = λ public. false;
  index_values = λ number. true;
  object_values = λ public. false;
  hierarchy_values = λ hierarchy. false;
  bound_names = λ name. true;
}

-- a device with an NV index whose authorization value is this byte
abbrev pub guarded_device : (byte : ℕ) → Record
guarded_device byte =
    let r : Record = tried_device 0 0 0 in
    record r {
      nv = record r.nv {
        indices = (0x01000001, record protected_index { auth_value = byte ∷ [] }) ∷ [];
      };
    }

-- the entry with the password "b"
abbrev pub wrong_entry : Entry
wrong_entry = record {
  session = numbered_handle 0x40000009;
  nonce = [];
  attributes = record { octet = 1 };
  hmac = 0x62 ∷ [];
}

-- the TPM2_NV_Read in `wrong_read`
abbrev pub wrong_command : Whole
wrong_command = record {
  code = command.NvRead;
  handles = numbered_handle 0x01000001 ∷ numbered_handle 0x01000001 ∷ [];
  entries = wrong_entry ∷ [];
  parameters = 0x00 ∷ 0x08 ∷ 0x00 ∷ 0x00 ∷ [];
}

-- Two devices differ only in the authorization value of an index. The password of a TPM2_NV_Read is
-- a guess of this value, and fails on both.
pub record HasWrongGuess : Type 0 where
  pub covers : CoversKeys value_secrecy
  pub secrets : DifferInSecrets value_secrecy (guarded_device 0x61) (guarded_device 0x63)
  pub differ : guarded_device 0x61 ≢ guarded_device 0x63
  pub decoded : general (after_tick (guarded_device 0x61) 0) wrong_read ≡ Ok wrong_command
  pub guess : is_guess value_secrecy (after_tick (guarded_device 0x61) 0) wrong_command 0 0
      wrong_entry ≡ true
  pub first : EventKeepsSecrets value_secrecy (guarded_device 0x61) (wrong_after 0)
  pub second : EventKeepsSecrets value_secrecy (guarded_device 0x63) (wrong_after 0)
  -- a refused TPM2_NV_Read of an index whose data are secret reads no secret data
  pub refused : is_reading (of_data (λ number. true) (λ public. true)) (holding_device 0)
      (wrong_after 0) ≡ false
