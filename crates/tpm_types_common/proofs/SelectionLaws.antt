-- A read returns a PCR selection exactly when the input starts with its encoding.
use Rattle.std.proofs.Common.{◌≡◌, ℕ, zero, suc, ◌/◌, ◌%◌, ◌^◌, ◌<◌, Bool, true, false, ltb, List, [], ◌∷◌, ◌++◌, length, take, Ok, refl, sym, ap, subst, ◌∙◌, append_assoc, arith}
use Rattle.std.specs.Prelude.{◌==◌, not}
use Rattle.std.specs.Int.{w8, w16, w32, to_be_bytes, from_le_bytes, to_le_bytes}
use Rattle.std.proofs.lemmas.Bool.{eqb-true, ltb-false, le-ltb}
use Rattle.std.proofs.lemmas.Nat.{le_bytes_4, from_le_bytes-to_le_bytes_4}
use Rattle.tpm_bytes.specs.Reading.{◌>>=◌, bytes_at, number_at, or_fault, refused_if}
use Rattle.tpm_bytes.proofs.Fields.{AreBytes, Takes, Takes-then, bind_ok, or_fault_ok, passed, bytes_take, bytes_again, number_or_takes, number_or_again, wide8, ok_is}
use Rattle.tpm_mac.specs.declared.algorithm.HashAlg.{HashAlg}
use Rattle.tpm_types_common.specs.declared.pcr_selection.BankSelection.{BankSelection}
use Rattle.tpm_types_common.specs.declared.rc.ResponseCode.TheVariants as code
use Rattle.tpm_types_common.specs.Rc.{plain}
use Rattle.tpm_types_common.specs.Algorithm.{hash_at, hash_number}
use Rattle.tpm_types_common.specs.Pcr.{select_of, select_text}
use Rattle.tpm_types_common.specs.PcrSelection.{IsBank, IsSelection, bank_at, bank_text, banks_text, selection_at, selection_text}
use Rattle.tpm_types_common.proofs.CountedLaws.{counted_again, counted_takes}
use Rattle.tpm_types_common.proofs.HashLaws.{hash_again, hash_takes}

-- If the test for inequality fails, the two numbers are equal.
pub is_equal : (m n : ℕ) → not (m == n) ≡ false → m ≡ n
is_equal m n e = eqb-true m n (same (m == n) e)
  where
    same : (b : Bool) → not b ≡ false → b ≡ true
    same true e = refl
    same false e = absurd cc

-- ---- the octets of a bank's selection

octets_are_bytes : (a b c : ℕ) → a < 256 → b < 256 → c < 256 → AreBytes (a ∷ b ∷ c ∷ 0 ∷ [])
octets_are_bytes a b c fa fb fc zero = fa
octets_are_bytes a b c fa fb fc (suc zero) = fb
octets_are_bytes a b c fa fb fc (suc (suc zero)) = fc
octets_are_bytes a b c fa fb fc (suc (suc (suc zero))) = omega arith
octets_are_bytes a b c fa fb fc (suc (suc (suc (suc i)))) = omega arith

pub select_takes : (octets : List ℕ) → length octets ≡ 3 → AreBytes octets
    → (select_text (select_of octets) ≡ octets) × (select_of octets < 2 ^ 24)
select_takes [] len fits = absurd (omega arith)
select_takes (a ∷ []) len fits = absurd (omega arith)
select_takes (a ∷ b ∷ []) len fits = absurd (omega arith)
select_takes (a ∷ b ∷ c ∷ []) len fits = (
  ap (take 3)
      (le_bytes_4 (a ∷ b ∷ c ∷ 0 ∷ []) _ refl (octets_are_bytes a b c (fits 0) (fits 1) (fits 2))
      refl),
  omega (arith, fits 0, fits 1, fits 2),
)
select_takes (a ∷ b ∷ c ∷ d ∷ more) len fits = absurd (omega arith)

fourth_octet : (select : ℕ) → select < 2 ^ 24
    → select_text select ++ 0 ∷ [] ≡ to_le_bytes w32 select
fourth_octet select small =
    ap (λ n. select % 256 ∷ select / 256 % 256 ∷ select / 65536 % 256 ∷ n ∷ [])
    (let high : 0 ≡ select / 16777216 % 256 = omega arith in high)

pub select_again : (select : ℕ) → select < 2 ^ 24 → select_of (select_text select) ≡ select
select_again select small = ap (from_le_bytes w32) (fourth_octet select small)
    ∙ from_le_bytes-to_le_bytes_4 select (omega arith)

-- ---- the selection of one bank

abbrev bank_of : HashAlg → List ℕ × List ℕ → BankSelection × List ℕ
bank_of hash octets = (record { hash = hash; select = select_of octets.0 }, octets.1)

bank_takes : (bytes : List ℕ) (x : BankSelection × List ℕ) → AreBytes bytes → bank_at bytes ≡ Ok x
    → Takes bytes (bank_text x.0) x.1 × IsBank x.0
unfolding bank_at bank_text
bank_takes bytes x fits e =
    let a =
    bind_ok (hash_at bytes) (λ hash. or_fault (number_at w8 hash.1) (plain code.Insufficient)
    >>= λ size. refused_if (not (size.0 == 3)) (plain code.Value)
    >>= λ three. or_fault (bytes_at 3 size.1) (plain code.Insufficient)
    >>= λ octets. Ok (bank_of hash.0 octets)) x e in
    let b = bind_ok (or_fault (number_at w8 a.0.1) (plain code.Insufficient))
    (λ size. refused_if (not (size.0 == 3)) (plain code.Value)
    >>= λ three. or_fault (bytes_at 3 size.1) (plain code.Insufficient)
    >>= λ octets. Ok (bank_of a.0.0 octets)) x a.2 in
    let c = bind_ok (refused_if (not (b.0.0 == 3)) (plain code.Value))
    (λ three. or_fault (bytes_at 3 b.0.1) (plain code.Insufficient)
    >>= λ octets. Ok (bank_of a.0.0 octets)) x b.2 in
    let d = bind_ok (or_fault (bytes_at 3 b.0.1) (plain code.Insufficient))
    (λ octets. Ok (bank_of a.0.0 octets)) x c.2 in
    let three : b.0.0 ≡ 3 =
    is_equal b.0.0 3 (passed (not (b.0.0 == 3)) (plain code.Value) c.0 c.1) in
    let t0 = hash_takes bytes a.0 fits a.1 in
    let t1 = number_or_takes w8 (2 ^ 8) wide8 (plain code.Insufficient) a.0.1 b.0 t0.rest_fits
    b.1 in
    let t2 = bytes_take 3 b.0.1 d.0.0 d.0.1 t1.0.rest_fits
    (or_fault_ok (bytes_at 3 b.0.1) (plain code.Insufficient) d.0 d.1) in
    let octets = select_takes d.0.0 t2.1 t2.2 in
    let t01 = Takes-then bytes (to_be_bytes w16 (hash_number a.0.0)) a.0.1 (to_be_bytes w8 b.0.0)
    b.0.1 t0 t1.0 in
    let t02 = Takes-then bytes (to_be_bytes w16 (hash_number a.0.0) ++ to_be_bytes w8 b.0.0) b.0.1
    d.0.0 d.0.1 t01 t2.0 in
    let sized : Takes bytes ((to_be_bytes w16 (hash_number a.0.0) ++ to_be_bytes w8 3) ++ d.0.0)
    d.0.1 =
    subst (λ (n : ℕ). Takes bytes
    ((to_be_bytes w16 (hash_number a.0.0) ++ to_be_bytes w8 n) ++ d.0.0) d.0.1) three t02 in
    let spelled : Takes bytes ((to_be_bytes w16 (hash_number a.0.0) ++ to_be_bytes w8 3)
    ++ select_text (select_of d.0.0)) d.0.1 =
    subst (λ (l : List ℕ). Takes bytes
    ((to_be_bytes w16 (hash_number a.0.0) ++ to_be_bytes w8 3) ++ l) d.0.1) (sym octets.0)
    sized in
    subst (λ (y : BankSelection × List ℕ). Takes bytes
    ((to_be_bytes w16 (hash_number y.0.hash) ++ to_be_bytes w8 3) ++ select_text y.0.select)
    y.1 × (y.0.select < 2 ^ 24)) (ok_is (bank_of a.0.0 d.0) x d.2) (spelled, octets.1)

bank_again : (bank : BankSelection) (rest : List ℕ) → IsBank bank
    → bank_at (bank_text bank ++ rest) ≡ Ok (bank, rest)
unfolding bank_at bank_text
bank_again bank rest small =
    let regrouped : bank_text bank ++ rest ≡ to_be_bytes w16 (hash_number bank.hash)
    ++ (to_be_bytes w8 3 ++ (select_text bank.select ++ rest)) =
    append_assoc (to_be_bytes w16 (hash_number bank.hash) ++ to_be_bytes w8 3)
    (select_text bank.select) rest
    ∙ append_assoc (to_be_bytes w16 (hash_number bank.hash)) (to_be_bytes w8 3)
    (select_text bank.select ++ rest) in
    ap bank_at regrouped
    ∙ rw (
      hash_again bank.hash (to_be_bytes w8 3 ++ (select_text bank.select ++ rest)),
      number_or_again w8 (2 ^ 8) wide8 (plain code.Insufficient) 3
          (select_text bank.select ++ rest) (omega arith),
      bytes_again (select_text bank.select) rest 3 refl,
    )
    (ap (λ (n : ℕ). let made : BankSelection × List ℕ =
    (record { hash = bank.hash; select = n }, rest) in Ok made)
    (select_again bank.select small))

-- ---- the selection of several banks

pub selection_takes : (bytes : List ℕ) (x : List BankSelection × List ℕ) → AreBytes bytes
    → selection_at bytes ≡ Ok x → (bytes ≡ selection_text x.0 ++ x.1) × IsSelection x.0
unfolding selection_at selection_text banks_text
selection_takes bytes x fits e =
    let t = counted_takes (ltb 16) bank_text IsBank bank_at bank_takes bytes x fits e in
    (t.0, record { few = ltb-false _ _ t.1; each = t.2 })

pub selection_again : (banks : List BankSelection) (rest : List ℕ) → IsSelection banks
    → selection_at (selection_text banks ++ rest) ≡ Ok (banks, rest)
unfolding selection_at selection_text banks_text
selection_again banks rest is =
    counted_again (ltb 16) bank_text IsBank bank_at bank_again banks rest (omega (arith, is.few))
    (le-ltb _ _ is.few) is.each
