-- The PCR values that TPM2_Shutdown(STATE) saves and TPM2_Startup(STATE) restores: the values of
-- the PCRs that measure the platform's startup. TPM 2.0 Library, Part 1, section 12.2.3, and Part
-- 3, sections 9.3 and 9.4; the PC Client Platform TPM Profile specifies these PCRs.
use Rattle.std.specs.Prelude.{◌≡◌, ℕ, ◌++◌, List, length, take, drop, replicate}
use Rattle.std.specs.List.{All}
use Rattle.tpm_pcr.specs.Values.{BankValues}

-- the saved values of PCRs 0 to 15 in each bank
pub record SavedValues : Type 0 where
  pub sha1 : List (List ℕ)
  pub sha256 : List (List ℕ)

-- the initial saved values, which are all zeros
abbrev pub no_values : SavedValues
no_values = record { sha1 = replicate 16 (replicate 20 0); sha256 = replicate 16 (replicate 32 0) }

abbrev pub saved_of : BankValues → SavedValues
saved_of banks = record { sha1 = take 16 banks.sha1; sha256 = take 16 banks.sha256 }

-- the banks after the saved values were restored; the PCRs above 15 are unchanged
abbrev pub restored_in : SavedValues → BankValues → BankValues
restored_in saved banks = record banks {
  sha1 = saved.sha1 ++ drop 16 banks.sha1;
  sha256 = saved.sha256 ++ drop 16 banks.sha256;
}

-- A bank of saved values contains sixteen values of this size.
abbrev pub IsSavedBank : ℕ → List (List ℕ) → Type 0
IsSavedBank size values = (length values ≡ 16) × All (λ value. length value ≡ size) values

pub record IsSaved (saved : SavedValues) : Type 0 where
  pub sha1 : IsSavedBank 20 saved.sha1
  pub sha256 : IsSavedBank 32 saved.sha256
