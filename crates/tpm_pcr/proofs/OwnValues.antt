-- A read of PCRs returns the values of some PCRs, and a selection of exactly these PCRs.
use Rattle.tpm_bytes.specs.Numbers.{numbers_below}
use Rattle.std.proofs.Common.{◌≡◌, ℕ, zero, suc, ◌-◌, ◌^◌, ◌<◌, ◌≤◌, ◌==◌, Bool, true, false, cond, List, [], ◌∷◌, ◌++◌, length, max, take, map, filter, refl, ap, sym, subst, ◌∙◌, arith, add-one, append-nil}
use Rattle.std.proofs.lemmas.List.{take-map, length-map}
use Rattle.std.proofs.lemmas.List.Elements.{filter-append}
use Rattle.std.proofs.lemmas.List.Sums.{fold-append}
use Rattle.std.proofs.lemmas.Nat.Bits.{bit_at_or, bit_at-lt, bit_at-zero, bit_at-pow_same, bit_at-pow_other}
use Rattle.std.specs.Int.{bit_at}
use Rattle.std.specs.List.{flat_map}
use Rattle.tpm_pcr.specs.Values.{BankValues}
use Rattle.tpm_types_common.specs.declared.pcr_selection.BankSelection.{BankSelection}
use Rattle.tpm_types_common.specs.Pcr.{is_selected, with_pcr}
use Rattle.tpm_pcr.specs.Banks.{all_pcrs, answer_selection, pcr_value, read_values, select_with, selected_pcrs, selected_values}
use Rattle.tpm_pcr.proofs.Reading.{chosen_more, read_values-nil, take-append}

-- Adding a PCR to a selection selects this PCR.
added_here : (select n : ℕ) → bit_at (with_pcr select n) n ≡ 1
added_here select n =
    let low : bit_at select n < 2 = bit_at-lt select n in
    bit_at_or select (2 ^ n) n ∙ ap (max (bit_at select n)) (bit_at-pow_same n) ∙ omega arith

-- Adding a PCR to a selection does not affect whether any other PCR is selected.
added_there : (select n k : ℕ) → (k ≡ n → ⊥) → bit_at (with_pcr select n) k ≡ bit_at select k
added_there select n k other = bit_at_or select (2 ^ n) k
    ∙ ap (max (bit_at select k)) (bit_at-pow_other n k other) ∙ omega arith

-- If two tests agree on all numbers below a limit, they choose the same PCRs below it.
chosen_same : (p q : ℕ → Bool) (n : ℕ) → ((k : ℕ) → k < n → p k ≡ q k)
    → filter p (numbers_below n) ≡ filter q (numbers_below n)
chosen_same p q zero same = refl
chosen_same p q (suc n) same =
    filter-append p (numbers_below n) (n ∷ [])
    ∙ ap (λ l. l ++ cond (p n) (n ∷ []) []) (chosen_same p q n (λ k below. same k (omega arith)))
    ∙ ap (λ b. filter q (numbers_below n) ++ cond b (n ∷ []) []) (same n (omega arith))
    ∙ sym (filter-append q (numbers_below n) (n ∷ []))

-- The bitmap `select` selects exactly these PCRs, which are all below n.
abbrev SelectsJust : ℕ → ℕ → List ℕ → Type 0
SelectsJust n select pcrs = (filter (is_selected select) (numbers_below n) ≡ pcrs)
    × ((k : ℕ) → n ≤ k → bit_at select k ≡ 0)

just_added : (n select : ℕ) (pcrs : List ℕ) → SelectsJust n select pcrs
    → SelectsJust (suc n) (with_pcr select n) (pcrs ++ n ∷ [])
just_added n select pcrs just = (
  filter-append (is_selected (with_pcr select n)) (numbers_below n) (n ∷ [])
      ∙ ap (λ l. l ++ cond (is_selected (with_pcr select n) n) (n ∷ []) [])
      (chosen_same _ _ n
      (λ k below. ap (λ b. b == 1) (added_there select n k (λ e. omega arith))) ∙ just.0)
      ∙ ap (λ b. pcrs ++ cond (b == 1) (n ∷ []) []) (added_here select n),
  λ k above. added_there select n k (λ e. omega arith) ∙ just.1 k (omega arith),
)

just_kept : (n select : ℕ) (pcrs : List ℕ) → SelectsJust n select pcrs
    → SelectsJust (suc n) select pcrs
just_kept n select pcrs just = (
  filter-append (is_selected select) (numbers_below n) (n ∷ [])
      ∙ ap (λ b. filter (is_selected select) (numbers_below n) ++ cond (b == 1) (n ∷ []) [])
      (just.1 n (omega arith))
      ∙ append-nil _
      ∙ just.0,
  λ k above. just.1 k (omega arith),
)

just_one_more : (n : ℕ) (pcrs : List ℕ) (b : Bool) → SelectsJust n (select_with pcrs) pcrs
    → SelectsJust (suc n) (select_with (cond b (pcrs ++ n ∷ []) pcrs))
    (cond b (pcrs ++ n ∷ []) pcrs)
just_one_more n pcrs true just =
    subst (λ s. SelectsJust (suc n) s (pcrs ++ n ∷ [])) (sym (fold-append with_pcr 0 pcrs (n ∷ [])))
    (just_added n (select_with pcrs) pcrs just)
just_one_more n pcrs false just = just_kept n (select_with pcrs) pcrs just

-- The bitmap of the first `room` chosen PCRs selects exactly these PCRs.
just_first : (p : ℕ → Bool) (room n : ℕ)
    → SelectsJust n (select_with (take room (filter p (numbers_below n))))
    (take room (filter p (numbers_below n)))
just_first p zero zero = (refl, λ k above. bit_at-zero k)
just_first p (suc room) zero = (refl, λ k above. bit_at-zero k)
just_first p room (suc n) =
    let is : take room (filter p (numbers_below (suc n))) ≡ _ =
    ap (λ k. take room (filter p (numbers_below k))) (sym (add-one n)) ∙ chosen_more p n room in
    subst (λ l. SelectsJust (suc n) (select_with l) l) (sym is)
    (just_one_more n (take room (filter p (numbers_below n))) _ (just_first p room n))

-- If a bank's selection is reduced to its first `room` PCRs, it selects exactly these PCRs.
pub selected_first : (room : ℕ) (bank : BankSelection)
    → selected_pcrs (record bank { select = select_with (take room (selected_pcrs bank)) })
    ≡ take room (selected_pcrs bank)
unfolding selected_pcrs all_pcrs
selected_first room bank = (just_first (is_selected bank.select) room 24).0

first_values : (all : BankValues) (room : ℕ) (bank : BankSelection)
    → selected_values all (record bank { select = select_with (take room (selected_pcrs bank)) })
    ≡ take room (selected_values all bank)
first_values all room bank = ap (map (pcr_value all bank.hash)) (selected_first room bank)
    ∙ sym (take-map (pcr_value all bank.hash) room (selected_pcrs bank))

-- The values of the PCRs in the returned selection are the first `room` values of the requested
-- selection.
pub own_values : (all : BankValues) (room : ℕ) (banks : List BankSelection)
    → flat_map (selected_values all) (answer_selection room banks) ≡ read_values all room banks
unfolding read_values
own_values all room [] = sym (read_values-nil all room)
own_values all room (bank ∷ banks) =
    let after = room - length (selected_pcrs bank) in
    ap (λ (l : List (List ℕ)). l ++ flat_map (selected_values all) (answer_selection after banks))
    (first_values all room bank)
    ∙ ap (λ (l : List (List ℕ)). take room (selected_values all bank) ++ l)
    (own_values all after banks)
    ∙ ap (λ n. take room (selected_values all bank)
    ++ take (room - n) (flat_map (selected_values all) banks))
    (sym (length-map (selected_pcrs bank) (pcr_value all bank.hash)))
    ∙ sym (take-append room (selected_values all bank) (flat_map (selected_values all) banks))
