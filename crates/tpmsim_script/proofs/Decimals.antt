-- Lemmas about texts that are decimal numbers.
use Rattle.std.proofs.Common.{◌≡◌, ℕ, List, [], ◌∷◌, Bool, true, false, length, refl, is_some, cond, Some, None, ap}
use Rattle.std.specs.List.{list_all}
use Rattle.std.specs.Str.Parse.{digits_value}
use Rattle.tpm_number.specs.Number.{is_digit, numeral}

some_if : (b : Bool) (number : ℕ) → is_some (cond b (Some number) None) ≡ b
some_if true number = refl
some_if false number = refl

pub no_decimal : (text : List ℕ) → length text ≡ 0 → is_some (numeral 10 text) ≡ false
unfolding numeral
no_decimal [] e = refl
no_decimal (digit ∷ digits) e = absurd cc

pub decimal_if : (text : List ℕ) → (length text ≡ 0 → ⊥)
    → is_some (numeral 10 text) ≡ list_all (is_digit 10) text
unfolding numeral
decimal_if [] some = absurd (some refl)
decimal_if (digit ∷ digits) some =
    some_if (list_all (is_digit 10) (digit ∷ digits)) (digits_value 10 (digit ∷ digits))

pub ruleset decimals = (no_decimal, decimal_if)
