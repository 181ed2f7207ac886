-- Defines when a device has the PCRs that its history determines.
use Rattle.std.specs.Prelude.{◌≡◌, ℕ, ◌<◌, List, length, slice_index_or, []}
use Rattle.tpm_mac.specs.declared.algorithm.HashAlg.{HashAlg}
use Rattle.tpm_mac.specs.declared.algorithm.HashAlg.TheVariants as alg
use Rattle.tpm_pcr.specs.Banks.{HaveAll, HaveValues, PcrValues}
use Rattle.tpm_pcr.specs.Saved.{SavedValues}
use Rattle.tpm_pcr.specs.Values.{BankValues}
use Rattle.tpm_record.specs.Record.{Record}
use Rattle.tpm_record.specs.Saved.{Clear, Nothing, SavedState, State}
use Rattle.tpm_step.specs.history.History.{History}
use Rattle.tpm_step.specs.history.Pcrs.{pcr_of, pcrs_after, updates_of}

-- the PCR values that a shutdown saved for this bank
abbrev pub saved_in : SavedValues → HashAlg → List (List ℕ)
saved_in saved alg.Sha1 = saved.sha1
saved_in saved alg.Sha256 = saved.sha256

-- A shutdown saved these values of PCR 0 to 15.
pub record AreSaved (saved : SavedValues) (values : PcrValues) : Type 0 where
  pub sixteen : (bank : HashAlg) → length (saved_in saved bank) ≡ 16
  pub each : (bank : HashAlg) (pcr : ℕ) → pcr < 16
      → slice_index_or (saved_in saved bank) pcr [] ≡ values bank pcr

-- If a shutdown saved the state, it saved these values of PCR 0 to 15.
abbrev pub IsSavedAs : SavedState → PcrValues → Type 0
IsSavedAs Nothing values = Unit {0}
IsSavedAs Clear values = Unit {0}
IsSavedAs (State saved) values = AreSaved saved values

-- A device and its history have the same PCRs: all 24 values of both banks, the number of updates,
-- and the values that a shutdown saved.
pub record ArePcrs (banks : BankValues) (saved : SavedState) (history : History) : Type 0 where
  pub all : HaveAll banks
  pub values : HaveValues banks (pcr_of history)
  pub updates : banks.update_count ≡ updates_of history
  pub saved_values : IsSavedAs saved (pcrs_after history).saved

abbrev pub HasPcrs : Record → History → Type 0
HasPcrs r history = ArePcrs r.fixed.banks r.fixed.saved history
