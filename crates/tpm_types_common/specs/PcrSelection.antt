-- Selections of PCRs on the wire. TPM 2.0 Library, Part 2, section 10.6.2 (TPMS_PCR_SELECTION) and
-- section 10.9.7 (TPML_PCR_SELECTION).
use Rattle.std.specs.Prelude.{ℕ, ◌≤◌, ◌<◌, ◌^◌, ◌==◌, not, nat_lt, List, ◌++◌, length, Result, Ok}
use Rattle.std.specs.List.{flat_map, AllByRecursion}
use Rattle.std.specs.Int.{w8, w16, w32, to_be_bytes}
use Rattle.tpm_bytes.specs.Many.{many_at}
use Rattle.tpm_bytes.specs.Reading.{◌>>=◌, bytes_at, number_at, or_fault, refused_if}
use Rattle.tpm_types_common.specs.declared.pcr_selection.BankSelection.{BankSelection}
use Rattle.tpm_types_common.specs.declared.rc.Rc.{Rc}
use Rattle.tpm_types_common.specs.declared.rc.ResponseCode.TheVariants as code
use Rattle.tpm_types_common.specs.Algorithm.{hash_at, hash_number}
use Rattle.tpm_types_common.specs.Pcr.{select_of, select_text}
use Rattle.tpm_types_common.specs.Rc.{plain}

-- the encoding of the PCR selection for one bank: its hash algorithm, the number of octets, and the
-- octets
unfoldable pub bank_text : BankSelection → List ℕ
bank_text bank =
    to_be_bytes w16 (hash_number bank.hash) ++ to_be_bytes w8 3 ++ select_text bank.select

unfoldable pub banks_text : List BankSelection → List ℕ
banks_text banks = flat_map bank_text banks

-- the encoding of a selection: the number of banks, then the PCR selection for each bank
unfoldable pub selection_text : List BankSelection → List ℕ
selection_text banks = to_be_bytes w32 (length banks) ++ banks_text banks

-- The PCR selection for a bank contains only PCRs below 24.
abbrev pub IsBank : BankSelection → Type 0
IsBank bank = bank.select < 2 ^ 24

-- A selection that can be encoded names at most sixteen banks.
pub record IsSelection (banks : List BankSelection) : Type 0 where
  pub few : length banks ≤ 16
  pub each : AllByRecursion IsBank banks

-- ---- reading a selection, up to the first fault

unfoldable pub bank_at : List ℕ → Result (BankSelection × List ℕ) Rc
bank_at text = do
  hash ← hash_at text
  size ← or_fault (number_at w8 hash.1) (plain code.Insufficient)
  three ← refused_if (not (size.0 == 3)) (plain code.Value)
  octets ← or_fault (bytes_at 3 size.1) (plain code.Insufficient)
  Ok (record { hash = hash.0; select = select_of octets.0 }, octets.1)

unfoldable pub selection_at : List ℕ → Result (List BankSelection × List ℕ) Rc
selection_at text = do
  count ← or_fault (number_at w32 text) (plain code.Insufficient)
  few ← refused_if (nat_lt 16 count.0) (plain code.Size)
  many_at bank_at count.0 count.1
