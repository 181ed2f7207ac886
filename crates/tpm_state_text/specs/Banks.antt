-- The PCR banks of a device. TPM 2.0 Library, Part 1, section 17, and docs/table/pcrs.md, say what
-- the banks contain; the layout is specific to this device.
use Rattle.std.specs.Prelude.{ℕ, List, ◌++◌, Result, Ok}
use Rattle.std.specs.Int.{w64, to_be_bytes}
use Rattle.std.specs.List.{flat_map}
use Rattle.tpm_bytes.specs.Many.{many_at}
use Rattle.tpm_bytes.specs.Reading.{◌>>=◌}
use Rattle.tpm_image_text.specs.Fields.{bytes_in, number_in}
use Rattle.tpm_image_text.specs.declared.fault.Malformed.{Malformed}
use Rattle.tpm_pcr.specs.Values.{BankValues}

-- the encoding of a bank: the values of its PCRs, one after another
abbrev pub bank_text : List (List ℕ) → List ℕ
bank_text values = flat_map (λ value. value) values

-- decodes the values of 24 PCRs, each with the given size
unfoldable pub bank_in : ℕ → List ℕ → Result (List (List ℕ) × List ℕ) Malformed
bank_in size text = many_at (bytes_in size) 24 text

-- the encoding of the banks: the SHA-1 bank, the SHA-256 bank, and the update counter
unfoldable pub banks_text : BankValues → List ℕ
banks_text banks =
    bank_text banks.sha1 ++ bank_text banks.sha256 ++ to_be_bytes w64 banks.update_count

unfoldable pub banks_in : List ℕ → Result (BankValues × List ℕ) Malformed
banks_in text = do
  sha1 ← bank_in 20 text
  sha256 ← bank_in 32 sha1.1
  update_count ← number_in w64 sha256.1
  Ok (
    record { sha1 = sha1.0; sha256 = sha256.0; update_count = update_count.0 },
    update_count.1,
  )
