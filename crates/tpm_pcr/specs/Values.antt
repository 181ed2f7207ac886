-- Contracts describe the banks by the values of their PCRs and the update counter.
use Rattle.std.specs.Prelude.{◌≡◌, ℕ, ◌<◌, ◌^◌, List, length}
use Rattle.std.specs.List.{All}

-- the PCR banks of a device
pub record BankValues : Type 0 where
  -- the values of PCRs 0 to 23 in the SHA-1 bank
  pub sha1 : List (List ℕ)
  -- the values of PCRs 0 to 23 in the SHA-256 bank
  pub sha256 : List (List ℕ)
  -- the update counter: the number of values written plus the number of TPM2_Clear commands, both
  -- since the last TPM2_Startup
  pub update_count : ℕ

-- A bank contains 24 values of this size.
abbrev pub IsBank : ℕ → List (List ℕ) → Type 0
IsBank size values = (length values ≡ 24) × All (λ value. length value ≡ size) values

-- The conditions that all banks satisfy: each bank contains 24 values, of 20 bytes for SHA-1 and of
-- 32 bytes for SHA-256; and the update counter fits in 64 bits.
pub record IsBanks (banks : BankValues) : Type 0 where
  pub sha1 : IsBank 20 banks.sha1
  pub sha256 : IsBank 32 banks.sha256
  pub count : banks.update_count < 2 ^ 64
