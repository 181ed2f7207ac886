-- A lookup by wire number finds only a value that has this number. Each value is found by its own
-- number.
use Rattle.std.proofs.Common.{◌≡◌, ℕ, ◌<◌, ◌^◌, Bool, true, false, cond, List, Option, Some, None, Ok, refl, ap, subst, ◌∙◌, arith}
use Rattle.std.specs.Prelude.{◌==◌, ok_or}
use Rattle.std.specs.Int.{w16, to_be_bytes}
use Rattle.std.specs.Option.{option_map}
use Rattle.std.proofs.lemmas.Bool.{eqb-true}
use Rattle.tpm_bytes.specs.Reading.{◌>>=◌, number_at, or_fault}
use Rattle.tpm_bytes.proofs.Fields.{Takes, bind_ok, ok_is, ok_or_ok, number_or_again, number_or_takes, wide16}
use Rattle.tpm_mac.specs.declared.algorithm.HashAlg.{HashAlg}
use Rattle.tpm_mac.specs.declared.algorithm.HashAlg.TheVariants.{Sha1, Sha256}
use Rattle.tpm_types_common.specs.declared.rc.ResponseCode.{ResponseCode}
use Rattle.tpm_types_common.specs.declared.rc.ResponseCode.TheVariants as code
use Rattle.tpm_types_common.specs.Algorithm.{hash_named, hash_number, hash_or_null_named, hash_or_null_number}
use Rattle.tpm_types_common.specs.Rc.{plain}
use Rattle.tpm_types_common.proofs.Spelled.{Spelled}

-- Suppose that a search finds only values with the given number. Then a search that first tests one
-- more value also finds only values with this number.
pub link : {A : Type 0} (number_of : A → ℕ) (number : ℕ) (first : A) (others : Option A) (x : A)
    → ((o : A) → others ≡ Some o → number ≡ number_of o)
    → cond (number == number_of first) (Some first) others ≡ Some x → number ≡ number_of x
link number_of number first others x after = chosen (number == number_of first) refl
  where
    chosen : (b : Bool) → (number == number_of first) ≡ b → cond b (Some first) others ≡ Some x
        → number ≡ number_of x
    chosen true is e = eqb-true _ _ is ∙ ap number_of cc
    chosen false is e = after x e

pub none : {A : Type 0} (number_of : A → ℕ) (number : ℕ) (o : A) → None ≡ Some o
    → number ≡ number_of o
none number_of number o e = absurd cc

pub hash_named-is : (number : ℕ) (hash : HashAlg) → hash_named number ≡ Some hash
    → number ≡ hash_number hash
hash_named-is number hash = link hash_number number Sha1 _ hash λ o. link hash_number number Sha256
    None o (none hash_number number)

pub hash_named-again : (hash : HashAlg) → hash_named (hash_number hash) ≡ Some hash
hash_named-again Sha1 = refl
hash_named-again Sha256 = refl

pub hash_number-small : (hash : HashAlg) → hash_number hash < 2 ^ 16
hash_number-small Sha1 = omega arith
hash_number-small Sha256 = omega arith

pub hash_or_null_named-is : (number : ℕ) (hash : Option HashAlg)
    → hash_or_null_named number ≡ Some hash → number ≡ hash_or_null_number hash
hash_or_null_named-is number hash =
    link hash_or_null_number number None _ hash λ o e. served o (hash_named number)
    (hash_named-is number) e
  where
    served : (o : Option HashAlg) (found : Option HashAlg)
        → ((one : HashAlg) → found ≡ Some one → number ≡ hash_number one)
        → option_map Some found ≡ Some o → number ≡ hash_or_null_number o
    served o None is e = absurd cc
    served None (Some one) is e = absurd cc
    served (Some other) (Some one) is e = let same : one ≡ other =
        cc in is one refl ∙ ap hash_number same

pub hash_or_null_named-again : (hash : Option HashAlg)
    → hash_or_null_named (hash_or_null_number hash) ≡ Some hash
hash_or_null_named-again (Some Sha1) = refl
hash_or_null_named-again (Some Sha256) = refl
hash_or_null_named-again None = refl

pub hash_or_null_number-small : (hash : Option HashAlg) → hash_or_null_number hash < 2 ^ 16
hash_or_null_number-small (Some hash) = hash_number-small hash
hash_or_null_number-small None = omega arith

-- ---- identifiers of two bytes

pub named_spelled : {A : Type 0} (number_of : A → ℕ) (named : ℕ → Option A) (unknown : ResponseCode)
    → ((n : ℕ) (x : A) → named n ≡ Some x → n ≡ number_of x)
    → ((x : A) → named (number_of x) ≡ Some x) → ((x : A) → number_of x < 2 ^ 16)
    → Spelled (λ x. to_be_bytes w16 (number_of x)) (λ x. Unit {0})
    (λ text. or_fault (number_at w16 text) (plain code.Insufficient)
    >>= λ number. ok_or (named number.0) (plain unknown) >>= λ one. Ok (one, number.1))
named_spelled {A} number_of named unknown is found small = record {
  taken = λ bytes x fits e.
      let a = bind_ok (or_fault (number_at w16 bytes) (plain code.Insufficient))
      (λ number. ok_or (named number.0) (plain unknown) >>= λ one. Ok (one, number.1)) x e in
      let b = bind_ok (ok_or (named a.0.0) (plain unknown)) (λ one. Ok (one, a.0.1)) x a.2 in
      let t = number_or_takes w16 (2 ^ 16) wide16 (plain code.Insufficient) bytes a.0 fits a.1 in
      let same : a.0.0 ≡ number_of b.0 =
      is a.0.0 b.0 (ok_or_ok (named a.0.0) (plain unknown) b.0 b.1) in
      let spelled : Takes bytes (to_be_bytes w16 (number_of b.0)) a.0.1 =
      subst (λ (n : ℕ). Takes bytes (to_be_bytes w16 n) a.0.1) same t.0 in
      let made : A × List ℕ = (b.0, a.0.1) in
      subst (λ (y : A × List ℕ). Takes bytes (to_be_bytes w16 (number_of y.0)) y.1 × Unit {0})
      (ok_is made x b.2) (spelled, tt);
  again =
      λ x rest _. rw (
        number_or_again w16 (2 ^ 16) wide16 (plain code.Insufficient) (number_of x)
            rest (small x),
        found x,
      ) refl;
}
