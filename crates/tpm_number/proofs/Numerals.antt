-- Lemmas about the number that a string of digits encodes in a radix.
use Rattle.std.proofs.Common.{◌≡◌, ℕ, zero, suc, ◌<◌, ◌≤◌, ◌^◌, ◌-◌, ◌≢◌, true, false, List, [], ◌∷◌, length, slice_index, Result, Ok, Err, Some, arith, subst, refl, ap, sym, ◌∙◌}
use Rattle.std.specs.Bool.{Decides}
use Rattle.std.specs.Char.{digit_value}
use Rattle.std.specs.List.{list_all}
use Rattle.std.specs.Str.{IsAscii, IsUtf8}
use Rattle.std.specs.Str.Parse.{AllDigits, IsNumeral, ParsesUnsigned, digits_value}
use Rattle.std.specs.Result.{OkIff}
use Rattle.std.proofs.lemmas.Bool.{le-ltb, lt-ltb}
use Rattle.std.proofs.lemmas.Bool.Decides.{Decides-and, Decides-ltb, nat_tests}
use Rattle.std.proofs.lemmas.Str.{IsUtf8-from_ascii}
use Rattle.std.proofs.lemmas.Str.Parse.{without_leading_plus_none}
use Rattle.tpm_bytes.proofs.Fields.{ok_is}
use Rattle.tpm_number.specs.Number.{at_most, is_digit, numeral}
use Rattle.tpm_number.specs.declared.fault.TokenFault.TheVariants.{Bad, Range}

each_decides : (radix : ℕ) (digits : List ℕ)
    → Decides (list_all (is_digit radix) digits) (AllDigits radix digits)
each_decides radix [] = (λ _. tt, λ _. refl)
each_decides radix (digit ∷ digits) =
    Decides-and _ _ (Decides-ltb (digit_value digit) radix) (each_decides radix digits)

digit_is_ascii : (radix c : ℕ) → radix ≤ 36 → digit_value c < radix → c < 128
digit_is_ascii radix c small h = grind (arith, nat_tests)

digits_are_ascii : (radix : ℕ) (digits : List ℕ) → radix ≤ 36 → AllDigits radix digits
    → IsAscii digits
digits_are_ascii radix [] small d i = omega arith
digits_are_ascii radix (c ∷ cs) small d zero = digit_is_ascii radix c small d.0
digits_are_ascii radix (c ∷ cs) small d (suc i) = digits_are_ascii radix cs small d.1 i

first_is_no_plus : (radix : ℕ) (digits : List ℕ) → radix ≤ 36 → 0 < length digits
    → AllDigits radix digits → slice_index digits 0 ≢ 43
first_is_no_plus radix [] small some d = absurd (omega arith)
first_is_no_plus radix (c ∷ cs) small some d = λ plus. absurd (worthless c plus d.0)
  where
    worthless : (c : ℕ) → c ≡ 43 → digit_value c < radix → ⊥
    worthless c plus h = let same = ap digit_value plus in omega (arith, same)

-- A string is not a number if it is empty or contains a byte that is not a digit.
pub no_digits : (most radix : ℕ) (digits : List ℕ) → length digits ≡ 0
    → at_most most (numeral radix digits) ≡ Err Bad
unfolding at_most numeral
no_digits most radix [] none = refl
no_digits most radix (c ∷ cs) none = absurd (omega (arith, none))

pub other_bytes : (most radix : ℕ) (digits : List ℕ) → list_all (is_digit radix) digits ≡ false
    → at_most most (numeral radix digits) ≡ Err Bad
unfolding at_most numeral
other_bytes most radix [] other = absurd cc
other_bytes most radix (c ∷ cs) other = rw other refl

-- A string of digits is valid UTF-8.
pub digits_are_utf8 : (radix : ℕ) (digits : List ℕ) → radix ≤ 36
    → list_all (is_digit radix) digits ≡ true → IsUtf8 digits
digits_are_utf8 radix digits small all =
    IsUtf8-from_ascii digits
    (digits_are_ascii radix digits small ((each_decides radix digits).0 all))

-- One or more digits encode the value that the digits have in the radix.
is_number : (radix : ℕ) (digits : List ℕ) → 0 < length digits
    → list_all (is_digit radix) digits ≡ true
    → numeral radix digits ≡ Some (digits_value radix digits)
unfolding numeral
is_number radix [] some all = absurd (omega arith)
is_number radix (c ∷ cs) some all = rw all refl

plain : {E : Type 0} (radix : ℕ) (digits : List ℕ) (r : Result ℕ E) → radix ≤ 36 → 0 < length digits
    → AllDigits radix digits → ParsesUnsigned 64 radix digits r
    → OkIff r (IsNumeral radix digits × (digits_value radix digits < 2 ^ 64))
    (digits_value radix digits)
plain radix digits r small some all h =
    let P : List ℕ → Type 0 =
    λ text. OkIff r (IsNumeral radix text × (digits_value radix text < 2 ^ 64))
    (digits_value radix text) in
    subst P (without_leading_plus_none digits (first_is_no_plus radix digits small some all)) h

within : (most number : ℕ) → number ≤ most → at_most most (Some number) ≡ Ok number
unfolding at_most
within most number h = rw (le-ltb most number h) refl

beyond : (most number : ℕ) → most < number → at_most most (Some number) ≡ Err Range
unfolding at_most
beyond most number h = rw (lt-ltb most number h) refl

pub number_read : {E : Type 0} (radix : ℕ) (digits : List ℕ) (r : Result ℕ E) (number : ℕ)
    → r ≡ Ok number → radix ≤ 36 → 0 < length digits → list_all (is_digit radix) digits ≡ true
    → ParsesUnsigned 64 radix digits r → at_most (2 ^ 64 - 1) (numeral radix digits) ≡ Ok number
number_read radix digits (Err fault) number is small some all h = absurd cc
number_read {E = E} radix digits (Ok x) number is small some all h =
    let p = plain {E = E} radix digits (Ok x) small some ((each_decides radix digits).0 all) h in
    ap (at_most (2 ^ 64 - 1)) (is_number radix digits some all)
    ∙ within (2 ^ 64 - 1) (digits_value radix digits) (omega (arith, p.0.1))
    ∙ ap Ok (sym p.1 ∙ ok_is x number is)

pub number_too_large : {E : Type 0} (radix : ℕ) (digits : List ℕ) (r : Result ℕ E) (fault : E)
    → r ≡ Err fault → radix ≤ 36 → 0 < length digits → list_all (is_digit radix) digits ≡ true
    → ParsesUnsigned 64 radix digits r → at_most (2 ^ 64 - 1) (numeral radix digits) ≡ Err Range
number_too_large radix digits (Ok x) fault is small some all h = absurd cc
number_too_large {E = E} radix digits (Err other) fault is small some all h =
    let digits_hold = (each_decides radix digits).0 all in
    let p = plain {E = E} radix digits (Err other) small some digits_hold h in
    let large : digits_value radix digits < 2 ^ 64 → ⊥ = λ less. p ((some, digits_hold), less) in
    ap (at_most (2 ^ 64 - 1)) (is_number radix digits some all)
    ∙ beyond (2 ^ 64 - 1) (digits_value radix digits) (omega (arith, large))
