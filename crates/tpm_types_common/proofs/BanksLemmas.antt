-- An encoded PCR selection consists of a count and six bytes for each bank. The loop over the banks
-- writes this encoding.
use Rattle.std.proofs.Common.{◌≡◌, ℕ, ◌+◌, ◌*◌, ◌<◌, List, [], ◌∷◌, ◌++◌, length, take, get_or, refl, append_assoc, arith, length-append, take_all}
use Rattle.std.specs.Int.{w32, to_be_bytes}
use Rattle.tpm_bytes.proofs.WrittenTexts.{written_more}
use Rattle.tpm_types_common.specs.declared.pcr_selection.BankSelection.{BankSelection}
use Rattle.tpm_types_common.specs.PcrSelection.{bank_text, banks_text, selection_text}

pub length-bank_text : (bank : BankSelection) → length (bank_text bank) ≡ 6
unfolding bank_text
length-bank_text bank = refl

pub length-banks_text : (banks : List BankSelection) → length (banks_text banks) ≡ 6 * length banks
unfolding banks_text
length-banks_text [] = refl
length-banks_text (bank ∷ banks) =
    omega (
      arith,
      length-banks_text banks,
      length-bank_text bank,
      length-append (bank_text bank) (banks_text banks),
    )

pub banks_text-nil : banks_text [] ≡ []
unfolding banks_text
banks_text-nil = refl

-- Writing one more bank appends its six bytes to the encoding of the previous banks.
pub bank_written : (banks : List BankSelection) (i : ℕ) (bank : BankSelection)
    (start so_far new : List ℕ) → i < length banks → bank ≡ get_or banks i bank
    → so_far ≡ start ++ banks_text (take i banks) → length so_far ≡ length start + 6 * i
    → new ≡ so_far ++ bank_text bank → (new ≡ start ++ banks_text (take (i + 1) banks))
    × (length new ≡ length start + 6 * (i + 1))
unfolding banks_text
bank_written banks i bank start so_far new below is so size wrote = (
  written_more bank_text banks i bank bank start so_far new below is so wrote,
  rw wrote (omega (arith, length-append so_far (bank_text bank), length-bank_text bank)),
)

pub selection_text-is : (banks : List BankSelection)
    → selection_text banks ≡ to_be_bytes w32 (length banks) ++ banks_text banks
unfolding selection_text
selection_text-is banks = refl

pub length-selection_text : (banks : List BankSelection)
    → length (selection_text banks) ≡ 4 + 6 * length banks
length-selection_text banks = rw (selection_text-is banks) (omega (arith, length-banks_text banks))

-- The encoding of a selection is the number of banks, followed by the encoded banks.
pub selection_written : (banks : List BankSelection) (start : List ℕ)
    → start ++ to_be_bytes w32 (length banks) ++ banks_text banks ≡ start ++ selection_text banks
unfolding selection_text
selection_written banks start =
    append_assoc start (to_be_bytes w32 (length banks)) (banks_text banks)

pub ruleset writing_banks =
    (length-bank_text, length-banks_text, length-selection_text, selection_text-is, take_all)
