-- A password authorizes an object exactly when the password and the authorization value are equal,
-- ignoring trailing zeros.
use Rattle.std.proofs.Common.{◌≡◌, ℕ, zero, suc, ◌-◌, ◌<◌, Bool, true, false, List, [], ◌∷◌, ◌++◌, length, replicate, append-nil, append_assoc, refl, sym, ap, ◌∙◌, arith}
use Rattle.std.specs.Prelude.{if◌then◌else◌, nat_lt}
use Rattle.std.specs.Str.{bytes_eq}
use Rattle.std.proofs.lemmas.Bool.{ltb-true}
use Rattle.std.proofs.lemmas.List.{reverse-append}
use Rattle.std.proofs.lemmas.Slice.Eq.{bytes_eq-Decides}
use Rattle.tpm_types_common.proofs.Trimming.{trimmed_twice}
use Rattle.tpm_types_common.specs.AuthValue.{trimmed}
use Rattle.tpm_sequence.specs.Authorization.{padded}
use Rattle.tpm_sequence.specs.Meaning.{AuthorizesByValue}

-- a zero at the end does not change the trimmed bytes
trimmed_zero : (bytes : List ℕ) → trimmed (bytes ++ 0 ∷ []) ≡ trimmed bytes
unfolding trimmed
trimmed_zero bytes = rw (reverse-append bytes (0 ∷ [])) refl

-- zeros at the end do not change the trimmed bytes
trimmed_zeros : (bytes : List ℕ) (n : ℕ) → trimmed (bytes ++ replicate n 0) ≡ trimmed bytes
trimmed_zeros bytes zero = ap trimmed (append-nil bytes)
trimmed_zeros bytes (suc n) =
    ap trimmed (sym (append_assoc bytes (0 ∷ []) (replicate n 0)))
    ∙ trimmed_zeros (bytes ++ 0 ∷ []) n ∙ trimmed_zero bytes

-- padding does not change the trimmed bytes
pub trimmed_padded : (bytes : List ℕ) → trimmed (padded bytes) ≡ trimmed bytes
unfolding padded
trimmed_padded bytes = trimmed_zeros (trimmed bytes) _ ∙ trimmed_twice bytes

-- two Booleans that imply each other are equal
same_bool : (a b : Bool) → (a ≡ true → b ≡ true) → (b ≡ true → a ≡ true) → a ≡ b
same_bool true true to from = refl
same_bool true false to from = sym (to refl)
same_bool false true to from = from refl
same_bool false false to from = refl

-- padded values are equal exactly when the trimmed values are equal
padded_eq : (a b : List ℕ) → bytes_eq (padded a) (padded b) ≡ bytes_eq (trimmed a) (trimmed b)
unfolding padded
padded_eq a b =
    same_bool _ _
    (λ e. (bytes_eq-Decides (trimmed a) (trimmed b)).1
    (sym (trimmed_padded a) ∙ ap trimmed ((bytes_eq-Decides (padded a) (padded b)).0 e)
    ∙ trimmed_padded b))
    (λ e. (bytes_eq-Decides (padded a) (padded b)).1
    (ap (λ (t : List ℕ). t ++ replicate (32 - length t) 0)
    ((bytes_eq-Decides (trimmed a) (trimmed b)).0 e)))

-- values of different lengths differ
longer_differs : (a b : List ℕ) → length b < length a → bytes_eq a b ≡ false
longer_differs a b longer =
    same_bool (bytes_eq a b) false
    (λ e. let same = ap length ((bytes_eq-Decides a b).0 e) in absurd (omega (arith, same, longer)))
    (λ e. absurd cc)

by_size : (long : Bool) (test same : Bool) → (long ≡ true → same ≡ false) → test ≡ same
    → (if long then false else test) ≡ same
by_size true test same differs is = sym (differs refl)
by_size false test same differs is = is

pub authorizes_by_value : AuthorizesByValue
authorizes_by_value auth password sequence fits =
    by_size (nat_lt 32 (length (trimmed password))) _ _
    (λ long. longer_differs (trimmed password) (trimmed auth)
    (omega (arith, fits, ltb-true 32 (length (trimmed password)) long)))
    (padded_eq password auth)
