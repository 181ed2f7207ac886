-- Trimming removes trailing zeros. If one trailing zero is removed before trimming, the result is
-- the same.
use Rattle.std.proofs.Common.{◌≡◌, ◌≢◌, ℕ, zero, suc, ◌+◌, ◌-◌, ◌<◌, ◌≤◌, List, [], ◌∷◌, ◌++◌, length, take, reverse, get_or, refl, sym, ap, ◌∙◌, arith}
use Rattle.std.proofs.lemmas.List.{reverse-append, reverse-reverse, take_more}
use Rattle.tpm_types_common.specs.AuthValue.{trimmed, without_first_zeros}

first_zeros_twice : (bytes : List ℕ) → without_first_zeros (without_first_zeros bytes)
    ≡ without_first_zeros bytes
first_zeros_twice [] = refl
first_zeros_twice (zero ∷ bytes) = first_zeros_twice bytes
first_zeros_twice (suc byte ∷ bytes) = refl

pub trimmed_twice : (bytes : List ℕ) → trimmed (trimmed bytes) ≡ trimmed bytes
unfolding trimmed
trimmed_twice bytes =
    rw (reverse-reverse (without_first_zeros (reverse bytes)), first_zeros_twice (reverse bytes))
    refl

-- Trimming removes the last byte if it is zero.
trimmed_zero : (bytes : List ℕ) (last : ℕ) → last ≡ 0 → trimmed (bytes ++ last ∷ []) ≡ trimmed bytes
unfolding trimmed
trimmed_zero bytes zero none = rw (reverse-append bytes (0 ∷ [])) refl
trimmed_zero bytes (suc last) none = absurd (omega arith)

-- If the last byte is not zero, the bytes are already trimmed.
trimmed_other : (bytes : List ℕ) (last : ℕ) → last ≢ 0
    → trimmed (bytes ++ last ∷ []) ≡ bytes ++ last ∷ []
unfolding trimmed
trimmed_other bytes zero some = absurd (some refl)
trimmed_other bytes (suc last) some =
    ap (λ (l : List ℕ). reverse (without_first_zeros l)) (reverse-append bytes (suc last ∷ []))
    ∙ ap reverse (sym (reverse-append bytes (suc last ∷ [])))
    ∙ reverse-reverse (bytes ++ suc last ∷ [])

front_more : (bytes : List ℕ) (size : ℕ) → 0 < size → size ≤ length bytes
    → take size bytes ≡ take (size - 1) bytes ++ get_or bytes (size - 1) 0 ∷ []
front_more bytes size some within =
    ap (λ (n : ℕ). take n bytes) (let next : size ≡ size - 1 + 1 = omega arith in next)
    ∙ take_more bytes (size - 1) 0 (omega arith)

-- If the last byte of a prefix is zero, trimming the prefix has the same result as trimming the
-- prefix without this byte.
pub front_shorter : (bytes : List ℕ) (size : ℕ) → 0 < size → size ≤ length bytes
    → get_or bytes (size - 1) 0 ≡ 0 → trimmed (take size bytes) ≡ trimmed (take (size - 1) bytes)
front_shorter bytes size some within last = ap trimmed (front_more bytes size some within)
    ∙ trimmed_zero (take (size - 1) bytes) _ last

-- If the last byte of a prefix is not zero, the prefix is already trimmed.
pub front_stays : (bytes : List ℕ) (size : ℕ) → 0 < size → size ≤ length bytes
    → get_or bytes (size - 1) 0 ≢ 0 → trimmed (take size bytes) ≡ take size bytes
front_stays bytes size some within last = ap trimmed (front_more bytes size some within)
    ∙ trimmed_other (take (size - 1) bytes) _ last ∙ sym (front_more bytes size some within)

-- an empty prefix is already trimmed
pub trimmed_none : (bytes : List ℕ) (size : ℕ) → size ≡ 0
    → trimmed (take size bytes) ≡ take size bytes
unfolding trimmed
trimmed_none bytes zero none = refl
trimmed_none bytes (suc size) none = absurd (omega arith)
