-- The history determines the digest of selected PCRs. Two digests of the same selection are equal
-- if the PCR values are equal.
use Rattle.std.proofs.Common.{arith, ◌≡◌, ℕ, zero, suc, ◌<◌, ◌≤◌, ◌++◌, Bool, true, false, cond, List, [], ◌∷◌, filter, map, refl, ap, ◌∙◌}
use Rattle.std.proofs.lemmas.List.{map-append}
use Rattle.std.proofs.lemmas.List.Elements.{filter-append}
use Rattle.std.specs.List.{concat, flat_map}
use Rattle.tpm_bytes.specs.Numbers.{numbers_below}
use Rattle.tpm_mac.specs.Digest.{hash_of}
use Rattle.tpm_mac.specs.declared.algorithm.HashAlg.{HashAlg}
use Rattle.tpm_types_common.specs.Pcr.{is_selected}
use Rattle.tpm_types_common.specs.declared.pcr_selection.BankSelection.{BankSelection}
use Rattle.tpm_pcr.specs.Banks.{HaveValues, PcrValues, all_pcrs, pcr_value, select_digest_of, selected_pcrs}
use Rattle.tpm_record.specs.Record.{Record}
use Rattle.tpm_step.specs.history.History.{History}
use Rattle.tpm_step.specs.history.Pcrs.{digest_in, pcr_of}

one_more : (f g : ℕ → List ℕ) (n : ℕ) (chosen : Bool) (a b : List (List ℕ)) → a ≡ b → f n ≡ g n
    → a ++ map f (cond chosen (n ∷ []) []) ≡ b ++ map g (cond chosen (n ∷ []) [])
one_more f g n true a b before here = rw (before, here) refl
one_more f g n false a b before here = rw before refl

same_below : (f g : ℕ → List ℕ) (chosen : ℕ → Bool) (n : ℕ) → n ≤ 24
    → ((pcr : ℕ) → pcr < 24 → f pcr ≡ g pcr)
    → map f (filter chosen (numbers_below n)) ≡ map g (filter chosen (numbers_below n))
same_below f g chosen zero few same = refl
same_below f g chosen (suc n) few same =
    rw (
      filter-append chosen (numbers_below n) (n ∷ []),
      map-append f (filter chosen (numbers_below n)) (filter chosen (n ∷ [])),
      map-append g (filter chosen (numbers_below n)) (filter chosen (n ∷ [])),
    )
    (one_more f g n (chosen n) _ _ (same_below f g chosen n (omega arith) same)
    (same n (omega arith)))

-- Two assignments of PCR values agree for all 24 PCRs.
abbrev pub AgreeBelow : PcrValues → PcrValues → Type 0
AgreeBelow f g = (bank : HashAlg) (pcr : ℕ) → pcr < 24 → f bank pcr ≡ g bank pcr

-- the values of the selected PCRs in an assignment of PCR values
abbrev chosen_values : PcrValues → BankSelection → List (List ℕ)
chosen_values f bank = map (f bank.hash) (selected_pcrs bank)

module _ (f g : PcrValues) (same : AgreeBelow f g) where
  bank_same : (bank : BankSelection) → chosen_values f bank ≡ chosen_values g bank
  unfolding selected_pcrs all_pcrs
  bank_same bank = same_below (f bank.hash) (g bank.hash) (is_selected bank.select) 24 (omega arith)
      (same bank.hash)

  banks_same : (selection : List BankSelection)
      → flat_map (chosen_values f) selection ≡ flat_map (chosen_values g) selection
  banks_same [] = refl
  banks_same (bank ∷ selection) =
      ap (λ (values : List (List ℕ)). values ++ flat_map (chosen_values f) selection)
      (bank_same bank)
      ∙ ap (λ (values : List (List ℕ)). chosen_values g bank ++ values) (banks_same selection)

  chosen_same : (hash : HashAlg) (selection : List BankSelection)
      → hash_of hash (concat (flat_map (chosen_values f) selection))
      ≡ hash_of hash (concat (flat_map (chosen_values g) selection))
  chosen_same hash selection =
      ap (λ (values : List (List ℕ)). hash_of hash (concat values)) (banks_same selection)

pub digest_same : (r : Record) (history : History) (hash : HashAlg) (selection : List BankSelection)
    → HaveValues r.fixed.banks (pcr_of history)
    → select_digest_of r.fixed.banks hash selection ≡ digest_in history hash selection
unfolding select_digest_of
digest_same r history hash selection same =
    chosen_same (pcr_value r.fixed.banks) (pcr_of history) same hash selection

pub digests_agree : (old new : History) (hash : HashAlg) (selection : List BankSelection)
    → AgreeBelow (pcr_of old) (pcr_of new)
    → digest_in old hash selection ≡ digest_in new hash selection
digests_agree old new hash selection same =
    chosen_same (pcr_of old) (pcr_of new) same hash selection
