-- Feeding a hasher the values of the selected PCRs one by one, bank by bank, is the same as feeding
-- it their concatenation.
use Rattle.tpm_bytes.specs.Numbers.{numbers_below}
use Rattle.std.proofs.Common.{◌≡◌, ℕ, ◌+◌, ◌<◌, Bool, true, false, cond, List, [], ◌∷◌, ◌++◌, add-one, ap, append-nil, append_assoc, filter, get_or, length, map, refl, subst, sym, take, ◌∙◌}
use Rattle.std.proofs.lemmas.Grind.{flat_map-append}
use Rattle.std.proofs.lemmas.List.{map-append, take_more}
use Rattle.std.proofs.lemmas.List.Elements.{filter-append}
use Rattle.std.proofs.lemmas.List.Folds.{concat-append}
use Rattle.std.specs.List.{concat, flat_map}
use Rattle.tpm_mac.specs.Hasher.{Holds, Takes}
use Rattle.tpm_mac.specs.declared.algorithm.HashAlg.{HashAlg}
use Rattle.tpm_mac.specs.declared.hasher.Hasher.{Hasher}
use Rattle.tpm_types_common.specs.Pcr.{is_selected}
use Rattle.tpm_types_common.specs.declared.pcr_selection.BankSelection.{BankSelection}
use Rattle.tpm_pcr.specs.Banks.{all_pcrs, pcr_value, selected_pcrs, selected_values}
use Rattle.tpm_pcr.specs.Values.{BankValues}

-- the concatenated values of a bank's selected PCRs with numbers below n
abbrev pub text_below : BankValues → BankSelection → ℕ → List ℕ
text_below all bank n =
    concat (map (pcr_value all bank.hash) (filter (is_selected bank.select) (numbers_below n)))

-- If a number n is added to a list of numbers, `f n` is appended to the concatenated results of
-- `f`; otherwise nothing is appended.
joined_cond : (f : ℕ → List ℕ) (front : List ℕ) (n : ℕ) (b : Bool)
    → concat (map f (front ++ cond b (n ∷ []) [])) ≡ concat (map f front) ++ cond b (f n) []
joined_cond f front n true =
    ap concat (map-append f front (n ∷ []))
    ∙ concat-append (map f front) (f n ∷ [])
    ∙ ap (λ (text : List ℕ). concat (map f front) ++ text) (append-nil (f n))
joined_cond f front n false =
    ap (λ (pcrs : List ℕ). concat (map f pcrs)) (append-nil front)
    ∙ sym (append-nil (concat (map f front)))

-- If PCR n is selected, its value is appended to the values of the selected PCRs below n; otherwise
-- nothing is appended.
text_below_more : (all : BankValues) (bank : BankSelection) (n : ℕ)
    → text_below all bank (n + 1) ≡ text_below all bank n
    ++ cond (is_selected bank.select n) (pcr_value all bank.hash n) []
text_below_more all bank n =
    ap (text_below all bank) (add-one n)
    ∙ ap (λ (pcrs : List ℕ). concat (map (pcr_value all bank.hash) pcrs))
    (filter-append (is_selected bank.select) (numbers_below n) (n ∷ []))
    ∙ joined_cond (pcr_value all bank.hash) (filter (is_selected bank.select) (numbers_below n)) n
    (is_selected bank.select n)

-- The values of the selected PCRs below 24 are the values of all selected PCRs.
text_below_all : (all : BankValues) (bank : BankSelection)
    → text_below all bank 24 ≡ concat (selected_values all bank)
unfolding selected_pcrs all_pcrs
text_below_all all bank = refl

-- The values of the first i + 1 banks are the values of the first i banks, followed by the values
-- of bank i.
banks_joined_more : (all : BankValues) (banks : List BankSelection) (i : ℕ) (bank : BankSelection)
    → i < length banks
    → concat (flat_map (selected_values all) (take (i + 1) banks))
    ≡ concat (flat_map (selected_values all) (take i banks))
    ++ concat (selected_values all (get_or banks i bank))
banks_joined_more all banks i bank below =
    ap (λ (l : List BankSelection). concat (flat_map (selected_values all) l))
    (take_more banks i bank below)
    ∙ ap concat (flat_map-append (selected_values all) (take i banks) (get_or banks i bank ∷ []))
    ∙ concat-append (flat_map (selected_values all) (take i banks)) _
    ∙ ap (λ (l : List (List ℕ)). concat (flat_map (selected_values all) (take i banks)) ++ concat l)
    (append-nil (selected_values all (get_or banks i bank)))

-- One step of the loop over the PCRs: if a hasher was fed the values of the selected PCRs below n,
-- and then the value of PCR n if PCR n is selected, it was fed the values of the selected PCRs
-- below n + 1.
pub taken_more : (all : BankValues) (bank : BankSelection) (n pcr : ℕ) (start before after : Hasher)
    → pcr ≡ n
    → Takes start (text_below all bank n) before
    → Takes before (cond (is_selected bank.select pcr) (pcr_value all bank.hash pcr) []) after
    → Takes start (text_below all bank (n + 1)) after
taken_more all bank n pcr start before after is so_far one algorithm message held =
    let value : ℕ → List ℕ = λ k. cond (is_selected bank.select k) (pcr_value all bank.hash k) [] in
    let whole : (message ++ text_below all bank n) ++ value pcr
    ≡ message ++ text_below all bank (n + 1) =
    append_assoc message (text_below all bank n) (value pcr)
    ∙ ap (λ (k : ℕ). message ++ (text_below all bank n ++ value k)) is
    ∙ ap (λ (text : List ℕ). message ++ text) (sym (text_below_more all bank n)) in
    subst (Holds after algorithm) whole (one algorithm _ (so_far algorithm message held))

-- If a hasher was fed the values of the selected PCRs below 24, it was fed the values of all
-- selected PCRs.
pub taken_all : (all : BankValues) (bank : BankSelection) (n : ℕ) (start after : Hasher) → n ≡ 24
    → Takes start (text_below all bank n) after
    → Takes start (concat (selected_values all bank)) after
taken_all all bank n start after done so_far =
    subst (λ (text : List ℕ). Takes start text after)
    (ap (text_below all bank) done ∙ text_below_all all bank) so_far

-- One step of the loop over the banks: if a hasher was fed the values of the first i banks, and
-- then the values of bank i, it was fed the values of the first i + 1 banks.
pub held_more : (all : BankValues) (banks : List BankSelection) (i : ℕ) (bank : BankSelection)
    (hash : HashAlg)
    (before after : Hasher) → i < length banks → bank ≡ get_or banks i bank
    → Holds before hash (concat (flat_map (selected_values all) (take i banks)))
    → Takes before (concat (selected_values all bank)) after
    → Holds after hash (concat (flat_map (selected_values all) (take (i + 1) banks)))
held_more all banks i bank hash before after below is held more =
    let front : List ℕ = concat (flat_map (selected_values all) (take i banks)) in
    let whole : front ++ concat (selected_values all bank)
    ≡ concat (flat_map (selected_values all) (take (i + 1) banks)) =
    ap (λ (b : BankSelection). front ++ concat (selected_values all b)) is
    ∙ sym (banks_joined_more all banks i bank below) in
    subst (Holds after hash) whole (more hash front held)
