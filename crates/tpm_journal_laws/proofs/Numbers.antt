-- Decoding the ten digits of a number yields this number.
use Rattle.std.proofs.Common.{◌≡◌, ℕ, ◌+◌, ◌*◌, ◌/◌, ◌%◌, ◌<◌, ◌^◌, ◌-◌, true, Some, refl, arith}
use Rattle.std.specs.Char.{digit_value}
use Rattle.std.specs.Str.Parse.{digits_value_after}
use Rattle.std.proofs.lemmas.Bool.{le-ltb, lt-ltb}
use Rattle.std.proofs.lemmas.Bool.Decides.{nat_tests}
use Rattle.tpm_journal_text.specs.Entry.{digit_at, ten_digits}
use Rattle.tpm_number.specs.Number.{at_most, decimal_of, is_digit, numeral}

value_at : (number place : ℕ) → digit_value (digit_at number place) ≡ number / place % 10
value_at number place = digit (number / place % 10) (omega arith)
  where
    digit : (d : ℕ) → d < 10 → digit_value (48 + d) ≡ d
    digit d h = grind (arith, nat_tests)

digit_holds : (number place : ℕ) → is_digit 10 (digit_at number place) ≡ true
digit_holds number place = lt-ltb _ 10 (omega (arith, value_at number place))

-- After one more digit is read, the value is the number without its later digits.
one_more : (number place tens : ℕ) → tens ≡ number / (place * 10)
    → number / (place * 10) * 10 + number / place % 10 ≡ number / place
    → tens * 10 + digit_value (digit_at number place) ≡ number / place
one_more number place tens so step = omega (arith, so, step, value_at number place)

number_read : (number : ℕ) → number < 10000000000
    → digits_value_after 10 0 (ten_digits number) ≡ number
unfolding ten_digits
number_read number h = omega (
  arith,
  h,
  value_at number 1000000000,
  value_at number 100000000,
  value_at number 10000000,
  value_at number 1000000,
  value_at number 100000,
  value_at number 10000,
  value_at number 1000,
  value_at number 100,
  value_at number 10,
  value_at number 1,
)

pub ten_digits_read : (number : ℕ) → number < 2 ^ 32 → decimal_of (ten_digits number) ≡ Some number
unfolding ten_digits numeral at_most
ten_digits_read number h =
    rw (
      digit_holds number 1000000000,
      digit_holds number 100000000,
      digit_holds number 10000000,
      digit_holds number 1000000,
      digit_holds number 100000,
      digit_holds number 10000,
      digit_holds number 1000,
      digit_holds number 100,
      digit_holds number 10,
      digit_holds number 1,
      number_read number (omega (arith, h)),
      le-ltb (2 ^ 32 - 1) number (omega (arith, h)),
    )
    refl
