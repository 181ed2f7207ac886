-- Lemmas about the bytes that hex digits encode.
use Rattle.tpm_types_common.specs.Limits.{buffer_limit}
use Rattle.std.proofs.Common.{◌≡◌, ℕ, ◌+◌, ◌*◌, ◌/◌, ◌<◌, ◌%◌, true, false, List, [], length, Some, None, Result, Ok, Err, refl, arith}
use Rattle.std.proofs.lemmas.Bool.{lt-leb}
use Rattle.std.specs.List.{list_all}
use Rattle.std.proofs.lemmas.List.Sums.{AllPass-from_list_all, list_all-from_AllPass}
use Rattle.hex.specs.Hex.{decode_of, decode_pairs, is_hex_digit}
use Rattle.hex.specs.declared.error.FromHexError.{FromHexError}
use Rattle.hex.proofs.HexLemmas.{decode_of-digits, decode_of-odd, decode_of-ok}
use Rattle.tpm_text.specs.Hex.{IsChecked, hex_in}
use Rattle.tpm_bytes.specs.Reading.{or_fault}
use Rattle.tpm_bytes.proofs.Fields.{or_fault_ok}
use Rattle.tpm_text.specs.Draft.{Drafts, grown_draft}
use Rattle.tpm_number.specs.declared.fault.TokenFault.{TokenFault}
use Rattle.tpm_number.specs.declared.fault.TokenFault.TheVariants.{Bad}

-- An odd number of hex digits is refused.
pub odd_is_bad : (digits : List ℕ) → length digits % 2 ≡ 1 → IsChecked (hex_in digits) (Err Bad)
odd_is_bad digits odd = rw (decode_of-odd digits odd) refl

-- Digits are refused if one of them is not a hex digit.
decoded_are_digits : (digits : List ℕ) (read : Result (List ℕ) FromHexError)
    → decode_of digits ≡ read → list_all is_hex_digit digits ≡ false
    → IsChecked (or_fault read Bad) (Err Bad)
decoded_are_digits digits (Ok bytes) e other = let all =
    list_all-from_AllPass is_hex_digit digits (decode_of-ok digits bytes e).1 in absurd cc
decoded_are_digits digits (Err fault) e other = refl

pub other_is_bad : (digits : List ℕ) → list_all is_hex_digit digits ≡ false
    → IsChecked (hex_in digits) (Err Bad)
other_is_bad digits other = decoded_are_digits digits (decode_of digits) refl other

-- An even number of hex digits can be decoded to bytes.
pub digits_are_good : (digits : List ℕ) → (length digits % 2 ≡ 1 → ⊥)
    → list_all is_hex_digit digits ≡ true → IsChecked (hex_in digits) (Ok tt)
digits_are_good digits even all =
    rw ((decode_of-digits digits (omega (arith, even))
    (AllPass-from_list_all is_hex_digit digits all)).1) tt

pub ruleset hex_digits = (odd_is_bad, other_is_bad, digits_are_good)

-- An empty string of hex digits decodes to an empty list of bytes.
pub none_is_good : hex_in [] ≡ Ok []
unfolding decode_pairs
none_is_good = refl

-- The number of hex digits is twice the number of bytes that they encode.
pub half_of : (digits bytes : List ℕ) → hex_in digits ≡ Ok bytes → length digits ≡ 2 * length bytes
half_of digits bytes e = (decode_of-ok digits bytes (or_fault_ok _ _ bytes e)).2

-- If the bytes of the hex digits make the command too long, the draft becomes None.
pub hex_too_long : (digits text : List ℕ) (result : Result (Unit {0}) TokenFault)
    → IsChecked (hex_in digits) result → buffer_limit < length text + length digits / 2
    → Drafts (hex_in digits) (Some text) result None
unfolding grown_draft
hex_too_long digits text result checked long = by (hex_in digits) refl result checked
  where
    by : (read : Result (List ℕ) TokenFault) → hex_in digits ≡ read
        → (result : Result (Unit {0}) TokenFault) → IsChecked read result
        → Drafts read (Some text) result None
    by (Ok bytes) e (Ok done) checked = let half =
        half_of digits bytes e in
        rw (lt-leb (length text + length bytes) buffer_limit (omega (arith, half, long))) refl
    by (Ok bytes) e (Err fault) checked = absurd checked
    by (Err fault) e (Ok done) checked = absurd checked
    by (Err fault) e (Err found) checked = checked
