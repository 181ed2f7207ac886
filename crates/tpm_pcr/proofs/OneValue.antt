-- New banks contain the starting values. Extending or resetting a PCR changes only the values of
-- this PCR, and increases the update counter.
use Rattle.std.proofs.Common.{arith, ◌≡◌, ℕ, zero, suc, ◌+◌, ◌<◌, ◌++◌, Bool, true, false, cond, List, [], ◌∷◌, length, fold, get_or, set, refl, ap, sym, ◌∙◌}
use Rattle.std.proofs.lemmas.Bool.Decides.{nat_tests}
use Rattle.std.proofs.lemmas.Grind.{common_steps}
use Rattle.std.proofs.lemmas.List.{get_or-map, get_or-set_same, get_or-set_other}
use Rattle.std.specs.Prelude.{◌==◌, ◌&&◌, replicate}
use Rattle.tpm_bytes.specs.Numbers.{numbers_below}
use Rattle.tpm_mac.specs.Digest.{digest_size, hash_of}
use Rattle.tpm_mac.specs.declared.algorithm.HashAlg.{HashAlg}
use Rattle.tpm_mac.specs.declared.algorithm.HashAlg.TheVariants as alg
use Rattle.tpm_types_common.specs.declared.digest_values.DigestValue.{DigestValue}
use Rattle.tpm_types_common.specs.declared.digest_values.DigestValue.TheVariants.{Sha1, Sha256}
use Rattle.tpm_pcr.specs.Banks.{HaveAll, HaveValues, all_pcrs, new_banks, pcr_value, starting_value, starting_values}
use Rattle.tpm_pcr.specs.Changes.{event_digests, value_extended, with_extension, with_value}
use Rattle.tpm_pcr.specs.Values.{BankValues}

-- ---- new banks

below_length : (n : ℕ) → length (numbers_below n) ≡ n
below_length zero = refl
below_length (suc n) = let h = below_length n in grind (arith, common_steps)

below_at : (n i : ℕ) → i < n → get_or (numbers_below n) i 0 ≡ i
below_at zero i below = omega arith
below_at (suc n) i below = let h = below_length n in let k =
    below_at n i in grind (arith, common_steps)

pub new_all : HaveAll new_banks
unfolding starting_values all_pcrs
new_all alg.Sha1 = refl
new_all alg.Sha256 = refl

pub new_values : HaveValues new_banks starting_value
unfolding starting_values all_pcrs
new_values alg.Sha1 pcr below =
    get_or-map (starting_value alg.Sha1) (numbers_below 24) pcr 0 [] below
    ∙ ap (starting_value alg.Sha1) (below_at 24 pcr below)
new_values alg.Sha256 pcr below =
    get_or-map (starting_value alg.Sha256) (numbers_below 24) pcr 0 [] below
    ∙ ap (starting_value alg.Sha256) (below_at 24 pcr below)

-- ---- replacing one value

-- whether two hash algorithms name the same bank
abbrev same_bank : HashAlg → HashAlg → Bool
same_bank alg.Sha1 alg.Sha1 = true
same_bank alg.Sha1 alg.Sha256 = false
same_bank alg.Sha256 alg.Sha1 = false
same_bank alg.Sha256 alg.Sha256 = true

set_at : (xs : List (List ℕ)) (i n : ℕ) (v : List ℕ) → n < length xs
    → get_or (set xs i v) n [] ≡ cond (i == n) v (get_or xs n [])
set_at xs i n v below = grind (arith, nat_tests, common_steps, get_or-set_same, get_or-set_other)

with_value_all : (banks : BankValues) (of : HashAlg) (i : ℕ) (v : List ℕ) → HaveAll banks
    → HaveAll (with_value of i v banks)
with_value_all banks alg.Sha1 i v h alg.Sha1 = let k = h alg.Sha1 in grind (arith, common_steps)
with_value_all banks alg.Sha1 i v h alg.Sha256 = h alg.Sha256
with_value_all banks alg.Sha256 i v h alg.Sha1 = h alg.Sha1
with_value_all banks alg.Sha256 i v h alg.Sha256 = let k =
    h alg.Sha256 in grind (arith, common_steps)

with_value_at : (banks : BankValues) (of bank : HashAlg) (i n : ℕ) (v : List ℕ) → HaveAll banks
    → n < 24 → pcr_value (with_value of i v banks) bank n
    ≡ cond (same_bank of bank && (i == n)) v (pcr_value banks bank n)
with_value_at banks alg.Sha1 alg.Sha1 i n v h below = let k =
    h alg.Sha1 in set_at banks.sha1 i n v (omega arith)
with_value_at banks alg.Sha1 alg.Sha256 i n v h below = refl
with_value_at banks alg.Sha256 alg.Sha1 i n v h below = refl
with_value_at banks alg.Sha256 alg.Sha256 i n v h below = let k =
    h alg.Sha256 in set_at banks.sha256 i n v (omega arith)

-- If the values of a PCR in both banks are replaced by zeros, these two values are zeros, and every
-- other value is unchanged.
pub zeros_at : (pcr : ℕ) (banks : BankValues) (bank : HashAlg) (n : ℕ) → HaveAll banks → n < 24
    → pcr_value (with_value alg.Sha256 pcr (replicate 32 0)
    (with_value alg.Sha1 pcr (replicate 20 0) banks)) bank n
    ≡ cond (pcr == n) (replicate (digest_size bank) 0) (pcr_value banks bank n)
zeros_at pcr banks alg.Sha1 n h below =
    with_value_at banks alg.Sha1 alg.Sha1 pcr n (replicate 20 0) h below
zeros_at pcr banks alg.Sha256 n h below =
    with_value_at banks alg.Sha256 alg.Sha256 pcr n (replicate 32 0) h below

-- ---- extensions

both_same : (b : Bool) (x : List ℕ) → x ≡ cond b x x
both_same true x = refl
both_same false x = refl

-- If i equals n, `f i` can be replaced by `f n`.
at_pcr : (i n : ℕ) (f : ℕ → List ℕ) (old : List ℕ)
    → cond (i == n) (f i) old ≡ cond (i == n) (f n) old
at_pcr i n f old = grind (arith, nat_tests)

extension_all : (pcr : ℕ) (banks : BankValues) (d : DigestValue) → HaveAll banks
    → HaveAll (with_extension pcr banks d)
unfolding with_extension
extension_all pcr banks d h = with_value_all banks _ pcr _ h

extension_at : (pcr : ℕ) (banks : BankValues) (d : DigestValue) (bank : HashAlg) (n : ℕ)
    → HaveAll banks → n < 24 → pcr_value (with_extension pcr banks d) bank n
    ≡ cond (pcr == n) (value_extended bank (pcr_value banks bank n) d) (pcr_value banks bank n)
unfolding with_extension
extension_at pcr banks (Sha1 d) alg.Sha1 n h below =
    with_value_at banks alg.Sha1 alg.Sha1 pcr n _ h below
    ∙ at_pcr pcr n (λ i. hash_of alg.Sha1 (pcr_value banks alg.Sha1 i ++ d)) _
extension_at pcr banks (Sha1 d) alg.Sha256 n h below = both_same (pcr == n) _
extension_at pcr banks (Sha256 d) alg.Sha1 n h below = both_same (pcr == n) _
extension_at pcr banks (Sha256 d) alg.Sha256 n h below =
    with_value_at banks alg.Sha256 alg.Sha256 pcr n _ h below
    ∙ at_pcr pcr n (λ i. hash_of alg.Sha256 (pcr_value banks alg.Sha256 i ++ d)) _

first_extended : (b : Bool) (bank : HashAlg) (old : List ℕ) (d : DigestValue)
    (ds : List DigestValue)
    → cond b (fold (value_extended bank) (cond b (value_extended bank old d) old) ds)
    (cond b (value_extended bank old d) old) ≡ cond b (fold (value_extended bank) old (d ∷ ds)) old
first_extended true bank old d ds = refl
first_extended false bank old d ds = refl

pub extensions_at : (pcr : ℕ) (ds : List DigestValue) (banks : BankValues) (bank : HashAlg) (n : ℕ)
    → HaveAll banks → n < 24 → pcr_value (fold (with_extension pcr) banks ds) bank n
    ≡ cond (pcr == n) (fold (value_extended bank) (pcr_value banks bank n) ds)
    (pcr_value banks bank n)
extensions_at pcr [] banks bank n h below = both_same (pcr == n) _
extensions_at pcr (d ∷ ds) banks bank n h below =
    extensions_at pcr ds (with_extension pcr banks d) bank n (extension_all pcr banks d h) below
    ∙ ap (λ (v : List ℕ). cond (pcr == n) (fold (value_extended bank) v ds) v)
    (extension_at pcr banks d bank n h below)
    ∙ first_extended (pcr == n) bank (pcr_value banks bank n) d ds

-- If a PCR is extended with the digests of an event's data, its value in each bank is extended with
-- the digest that the bank's hash algorithm computes.
pub event_digest : (bank : HashAlg) (old event : List ℕ)
    → fold (value_extended bank) old (event_digests event)
    ≡ hash_of bank (old ++ hash_of bank event)
event_digest alg.Sha1 old event = refl
event_digest alg.Sha256 old event = refl

extension_counts : (pcr : ℕ) (banks : BankValues) (d : DigestValue)
    → (with_extension pcr banks d).update_count ≡ banks.update_count + 1
unfolding with_extension
extension_counts pcr banks (Sha1 d) = refl
extension_counts pcr banks (Sha256 d) = refl

pub extensions_count : (pcr : ℕ) (ds : List DigestValue) (banks : BankValues)
    → (fold (with_extension pcr) banks ds).update_count ≡ banks.update_count + length ds
extensions_count pcr [] banks = omega arith
extensions_count pcr (d ∷ ds) banks =
    omega (
      arith,
      extensions_count pcr ds (with_extension pcr banks d),
      extension_counts pcr banks d,
    )
