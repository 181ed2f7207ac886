-- PCR banks. TPM 2.0 Library, Part 1, section 17, and Part 3, section 22.4 (TPM2_PCR_Read). The
-- number of PCRs and their starting values follow the PC Client Platform TPM Profile.
use Rattle.tpm_bytes.specs.Numbers.{numbers_below}
use Rattle.std.specs.Prelude.{◌≡◌, ◌<◌, ℕ, zero, suc, ◌-◌, nat_le, ◌&&◌, if◌then◌else◌, List, [], ◌∷◌, ◌++◌}
use Rattle.std.specs.Prelude.{length, take, map, filter, fold, replicate, slice_index_or}
use Rattle.std.specs.List.{concat, flat_map}
use Rattle.tpm_mac.specs.declared.algorithm.HashAlg.{HashAlg}
use Rattle.tpm_mac.specs.declared.algorithm.HashAlg.TheVariants.{Sha1, Sha256}
use Rattle.tpm_mac.specs.Digest.{digest_size, hash_of}
use Rattle.tpm_types_common.specs.declared.pcr_selection.BankSelection.{BankSelection}
use Rattle.tpm_types_common.specs.Pcr.{is_selected, with_pcr}
use Rattle.tpm_pcr.specs.Values.{BankValues}

-- the PCRs of a bank: 0 to 23
unfoldable pub all_pcrs : List ℕ
all_pcrs = numbers_below 24

-- the starting value of a PCR: for 17 to 22, all bits are set until a dynamic launch; for all other
-- PCRs, the value is zeros
abbrev pub starting_value : HashAlg → ℕ → List ℕ
starting_value bank pcr =
    replicate (digest_size bank) (if nat_le 17 pcr && nat_le pcr 22 then 0xff else 0)

unfoldable pub starting_values : HashAlg → List (List ℕ)
starting_values bank = map (starting_value bank) all_pcrs

-- the banks after manufacture and after a power cycle
abbrev pub new_banks : BankValues
new_banks =
    record { sha1 = starting_values Sha1; sha256 = starting_values Sha256; update_count = 0 }

abbrev pub bank_values : BankValues → HashAlg → List (List ℕ)
bank_values banks Sha1 = banks.sha1
bank_values banks Sha256 = banks.sha256

abbrev pub pcr_value : BankValues → HashAlg → ℕ → List ℕ
pcr_value banks bank pcr = slice_index_or (bank_values banks bank) pcr []

-- a value for each PCR of each bank
abbrev pub PcrValues : Type 0
PcrValues = HashAlg → ℕ → List ℕ

-- Each bank contains a value for each of the 24 PCRs.
abbrev pub HaveAll : BankValues → Type 0
HaveAll banks = (bank : HashAlg) → length (bank_values banks bank) ≡ 24

-- Both banks contain these values.
abbrev pub HaveValues : BankValues → PcrValues → Type 0
HaveValues banks values =
    (bank : HashAlg) (pcr : ℕ) → pcr < 24 → pcr_value banks bank pcr ≡ values bank pcr

-- ---- the response of TPM2_PCR_Read

-- the PCRs that a bank's selection names, in ascending order
unfoldable pub selected_pcrs : BankSelection → List ℕ
selected_pcrs bank = filter (is_selected bank.select) all_pcrs

-- the values of the PCRs that a bank's selection names, in ascending order of the PCRs
abbrev pub selected_values : BankValues → BankSelection → List (List ℕ)
selected_values banks bank = map (pcr_value banks bank.hash) (selected_pcrs bank)

-- the bitmap that selects exactly these PCRs, computed by adding them one by one
abbrev pub select_with : List ℕ → ℕ
select_with pcrs = fold with_pcr 0 pcrs

-- the values of the PCRs in a selection, in the selection's order, up to this number of values
unfoldable pub read_values : BankValues → ℕ → List BankSelection → List (List ℕ)
read_values banks room selection = take room (flat_map (selected_values banks) selection)

-- the selection of exactly the PCRs whose values `read_values` returns: the first selected PCRs of
-- all banks together, up to this number. A bank without a returned value remains in the list
abbrev pub answer_selection : ℕ → List BankSelection → List BankSelection
answer_selection room [] = []
answer_selection room (bank ∷ selection) =
    record bank { select = select_with (take room (selected_pcrs bank)) }
    ∷ answer_selection (room - length (selected_pcrs bank)) selection

-- the digest of the selected PCRs: the hash of all their values, bank by bank in the selection's
-- order, and in ascending order within a bank (TPM 2.0 Library, Part 3, section 23.7,
-- TPM2_PolicyPCR)
unfoldable pub select_digest_of : BankValues → HashAlg → List BankSelection → List ℕ
select_digest_of banks hash selection =
    hash_of hash (concat (flat_map (selected_values banks) selection))
