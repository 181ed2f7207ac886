-- The digest of selected PCRs depends only on the encoded selection.
use Rattle.std.proofs.Common.{◌≡◌, ℕ, zero, suc, ◌+◌, ◌*◌, ◌/◌, ◌%◌, ◌^◌, ◌<◌, ◌≤◌, arith, Bool, cond, List, [], ◌∷◌, ◌++◌, filter, map, length, refl, ap, sym, ◌∙◌}
use Rattle.std.specs.Prelude.{◌==◌}
use Rattle.std.specs.Int.{bit_at, w8, w16, w32, from_be_bytes, to_be_bytes}
use Rattle.std.specs.List.{concat, flat_map}
use Rattle.std.proofs.lemmas.List.Elements.{filter-append}
use Rattle.std.proofs.lemmas.Nat.Bits.{bit_at_cat_low}
use Rattle.tpm_bytes.specs.Numbers.{numbers_below}
use Rattle.tpm_mac.specs.Digest.{hash_of}
use Rattle.tpm_mac.specs.declared.algorithm.HashAlg.{HashAlg}
use Rattle.tpm_mac.specs.declared.algorithm.HashAlg.TheVariants as alg
use Rattle.tpm_types_common.specs.Algorithm.{hash_number}
use Rattle.tpm_types_common.specs.Pcr.{is_selected, select_of, select_text}
use Rattle.tpm_types_common.specs.PcrSelection.{bank_text, banks_text, selection_text}
use Rattle.tpm_types_common.specs.declared.pcr_selection.BankSelection.{BankSelection}
use Rattle.tpm_types_common.proofs.SelectionLaws.{select_again}
use Rattle.tpm_pcr.specs.Banks.{all_pcrs, selected_pcrs}
use Rattle.tpm_step.specs.history.History.{History}
use Rattle.tpm_step.specs.history.Pcrs.{digest_in, pcr_of, values_in}
use Rattle.tpm_policy_meaning.proofs.Chains.{same_fronts}

-- ---- the selection of a bank, and its three octets

low_octets : (select : ℕ) → select_text select ≡ select_text (select % 2 ^ 24)
low_octets select =
    let low : select % 256 ≡ select % 16777216 % 256 = omega arith in
    let middle : select / 256 % 256 ≡ select % 16777216 / 256 % 256 = omega arith in
    let high : select / 65536 % 256 ≡ select % 16777216 / 65536 % 256 = omega arith in
    ap (λ n. n ∷ select / 256 % 256 ∷ select / 65536 % 256 ∷ []) low
    ∙ ap (λ n. select % 16777216 % 256 ∷ n ∷ select / 65536 % 256 ∷ []) middle
    ∙ ap (λ n. select % 16777216 % 256 ∷ select % 16777216 / 256 % 256 ∷ n ∷ []) high

read_again : (select : ℕ) → select_of (select_text select) ≡ select % 2 ^ 24
read_again select = ap select_of (low_octets select) ∙ select_again (select % 2 ^ 24) (omega arith)

low_bit : (select pcr : ℕ) → pcr < 24 → bit_at select pcr
    ≡ bit_at (select_of (select_text select)) pcr
low_bit select pcr below =
    let parts : select ≡ select / 16777216 * 2 ^ 24 + select % 2 ^ 24 = omega arith in
    ap (λ n. bit_at n pcr) parts
    ∙ bit_at_cat_low (select / 16777216) 24 (select % 2 ^ 24) pcr below
    ∙ ap (λ n. bit_at n pcr) (sym (read_again select))

one_more : (n : ℕ) (chosen other : Bool) (a b : List ℕ) → a ≡ b → chosen ≡ other
    → a ++ cond chosen (n ∷ []) [] ≡ b ++ cond other (n ∷ []) []
one_more n chosen other a b before here = rw (before, here) refl

filter_below : (f g : ℕ → Bool) (n : ℕ) → n ≤ 24 → ((pcr : ℕ) → pcr < 24 → f pcr ≡ g pcr)
    → filter f (numbers_below n) ≡ filter g (numbers_below n)
filter_below f g zero few same = refl
filter_below f g (suc n) few same =
    rw (filter-append f (numbers_below n) (n ∷ []), filter-append g (numbers_below n) (n ∷ []))
    (one_more n (f n) (g n) _ _ (filter_below f g n (omega arith) same) (same n (omega arith)))

-- the PCRs in an encoded selection
abbrev pcrs_in : List ℕ → List ℕ
pcrs_in octets = filter (is_selected (select_of octets)) (numbers_below 24)

selected_by_text : (bank : BankSelection) → selected_pcrs bank ≡ pcrs_in (select_text bank.select)
unfolding selected_pcrs all_pcrs
selected_by_text bank =
    filter_below (is_selected bank.select) (is_selected (select_of (select_text bank.select))) 24
    (omega arith)
    (λ pcr below. ap (λ (b : ℕ). b == 1) (low_bit bank.select pcr below))

-- ---- banks

hash_same : (a b : HashAlg) → to_be_bytes w16 (hash_number a) ≡ to_be_bytes w16 (hash_number b)
    → a ≡ b
hash_same alg.Sha1 alg.Sha1 is = refl
hash_same alg.Sha1 alg.Sha256 is =
    absurd (let never : 4 ≡ 11 = ap (from_be_bytes w16) is in omega (arith, never))
hash_same alg.Sha256 alg.Sha1 is =
    absurd (let never : 11 ≡ 4 = ap (from_be_bytes w16) is in omega (arith, never))
hash_same alg.Sha256 alg.Sha256 is = refl

bank_values : (history : History) (a b : BankSelection) → bank_text a ≡ bank_text b
    → values_in history a ≡ values_in history b
unfolding bank_text
bank_values history a b is =
    let parts = same_fronts (to_be_bytes w16 (hash_number a.hash) ++ to_be_bytes w8 3)
    (select_text a.select) (to_be_bytes w16 (hash_number b.hash) ++ to_be_bytes w8 3)
    (select_text b.select) refl is in
    let fronts = same_fronts (to_be_bytes w16 (hash_number a.hash)) (to_be_bytes w8 3)
    (to_be_bytes w16 (hash_number b.hash)) (to_be_bytes w8 3) refl parts.0 in
    ap (λ (hash : HashAlg). map (pcr_of history hash) (selected_pcrs a))
    (hash_same a.hash b.hash fronts.0)
    ∙ ap (map (pcr_of history b.hash))
    (selected_by_text a ∙ ap pcrs_in parts.1 ∙ sym (selected_by_text b))

some_text : (bank : BankSelection) (rest : List ℕ) → length (bank_text bank ++ rest) ≡ 0 → ⊥
unfolding bank_text
some_text bank rest is = omega (arith, is)

banks_values : (history : History) (a b : List BankSelection)
    → flat_map bank_text a ≡ flat_map bank_text b
    → flat_map (values_in history) a ≡ flat_map (values_in history) b
unfolding bank_text
banks_values history [] [] is = refl
banks_values history [] (b ∷ bs) is =
    absurd (some_text b (flat_map bank_text bs) (ap length (sym is)))
banks_values history (a ∷ others) [] is =
    absurd (some_text a (flat_map bank_text others) (ap length is))
banks_values history (a ∷ others) (b ∷ bs) is =
    let parts = same_fronts (bank_text a) (flat_map bank_text others) (bank_text b)
    (flat_map bank_text bs) refl is in
    ap (λ (values : List (List ℕ)). values ++ flat_map (values_in history) others)
    (bank_values history a b parts.0)
    ∙ ap (λ (values : List (List ℕ)). values_in history b ++ values)
    (banks_values history others bs parts.1)

pub digest_by_text : (history : History) (hash : HashAlg) (a b : List BankSelection)
    → selection_text a ≡ selection_text b → digest_in history hash a ≡ digest_in history hash b
unfolding selection_text banks_text
digest_by_text history hash a b is =
    ap (λ (values : List (List ℕ)). hash_of hash (concat values))
    (banks_values history a b
    (same_fronts (to_be_bytes w32 (length a)) (flat_map bank_text a)
    (to_be_bytes w32 (length b)) (flat_map bank_text b) refl is).1)
