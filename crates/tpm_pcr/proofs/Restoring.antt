-- If saved values replace the first values of a bank, the bank still contains 24 values of the
-- right size.
use Rattle.std.proofs.Common.{arith, ◌≡◌, ℕ, List, ◌++◌, length, drop, length-append, length-drop}
use Rattle.std.proofs.lemmas.List.Elements.{All-append, All-drop}
use Rattle.tpm_pcr.specs.Saved.{IsSavedBank}
use Rattle.tpm_pcr.specs.Values.{IsBank}

pub restored_bank : (size : ℕ) (saved bank : List (List ℕ)) → IsSavedBank size saved
    → IsBank size bank → IsBank size (saved ++ drop 16 bank)
restored_bank size saved bank is_saved is_bank = (
  omega (arith, length-append saved (drop 16 bank), length-drop 16 bank, is_saved.0, is_bank.0),
  All-append (λ (value : List ℕ). length value ≡ size) saved (drop 16 bank) is_saved.1
      (All-drop (λ (value : List ℕ). length value ≡ size) 16 bank is_bank.1),
)
