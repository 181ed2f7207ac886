-- The number that a token contains.
use Rattle.std.specs.Prelude.{ℕ, ◌-◌, ◌^◌, nat_eq, nat_le, nat_lt, if◌then◌else◌, Bool, List, [], ◌∷◌, drop, codes}
use Rattle.std.specs.Prelude.{Option, Some, None, Result, Ok, ok_or}
use Rattle.std.specs.Char.{digit_value}
use Rattle.std.specs.Cmp.Lexicographic.{pointwise}
use Rattle.std.specs.List.{list_all, starts_with}
use Rattle.std.specs.Result.{result_ok}
use Rattle.std.specs.Str.Parse.{digits_value}
use Rattle.tpm_bytes.specs.Reading.{◌>>=◌, refused_if}
use Rattle.tpm_number.specs.declared.number.Radix.{Radix}
use Rattle.tpm_number.specs.declared.number.Radix.TheVariants as radix
use Rattle.tpm_number.specs.declared.fault.TokenFault.{TokenFault}
use Rattle.tpm_number.specs.declared.fault.TokenFault.TheVariants.{Bad, Range}

-- whether a string is this word
abbrev pub is_word : List ℕ → List ℕ → Bool
is_word word text = pointwise nat_eq text word

abbrev pub radix_number : Radix → ℕ
radix_number radix.Decimal = 10
radix_number radix.Hexadecimal = 16

abbrev pub is_digit : ℕ → ℕ → Bool
is_digit radix digit = nat_lt (digit_value digit) radix

-- the number that these digits encode in this radix. There must be at least one digit, and leading
-- zeros are allowed
unfoldable pub numeral : ℕ → List ℕ → Option ℕ
numeral radix [] = None
numeral radix (digit ∷ digits) =
    if list_all (is_digit radix) (digit ∷ digits)
    then Some (digits_value radix (digit ∷ digits)) else None

-- the number in a token: hex digits of either case after 0x, or decimal digits
unfoldable pub number_of : List ℕ → Option ℕ
number_of token =
    if starts_with nat_eq token (codes "0x") then numeral 16 (drop 2 token) else numeral 10 token

-- the number `written`, or a fault: Bad if `written` is None, Range if the number exceeds `most`
unfoldable pub at_most : ℕ → Option ℕ → Result ℕ TokenFault
at_most most written = do
  number ← ok_or written Bad
  small ← refused_if (nat_lt most number) Range
  Ok number

abbrev pub number_in : ℕ → List ℕ → Result ℕ TokenFault
number_in most token = at_most most (number_of token)

-- the number below 2^32 that one or more decimal digits encode, possibly with leading zeros, or
-- None for any other string
abbrev pub decimal_of : List ℕ → Option ℕ
decimal_of digits = result_ok (at_most (2 ^ 32 - 1) (numeral 10 digits))

-- this number if it is the number of a locality (0 to 4), and None otherwise
abbrev pub locality_of : ℕ → Option ℕ
locality_of number = if nat_le number 4 then Some number else None
