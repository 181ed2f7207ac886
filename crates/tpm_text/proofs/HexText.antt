-- Hex digits are UTF-8 text.
use Rattle.std.proofs.Common.{ℕ, List, get_or, refl}
use Rattle.std.specs.Prelude.{nat_lt}
use Rattle.std.specs.Str.{IsAscii, IsUtf8}
use Rattle.std.proofs.lemmas.Bool.{ltb-true}
use Rattle.std.proofs.lemmas.List.Sums.{AllPass-from_list_all}
use Rattle.std.proofs.lemmas.Str.{IsUtf8-from_ascii}
use Rattle.std.proofs.lemmas.Str.Ascii.{IsAscii-from_all}
use Rattle.hex.specs.Hex.{encode_lower, lower_digits}
use Rattle.hex.proofs.HexLemmas.{IsAscii-encode_with}

lower_digits_are_ascii : IsAscii lower_digits
lower_digits_are_ascii =
    IsAscii-from_all lower_digits
    (λ k d below. ltb-true (get_or lower_digits k d) 128
    (AllPass-from_list_all (λ digit. nat_lt digit 128) lower_digits refl k d below))

pub hex_is_text : (bytes : List ℕ) → IsUtf8 (encode_lower bytes)
hex_is_text bytes = IsUtf8-from_ascii (encode_lower bytes)
    (IsAscii-encode_with lower_digits bytes lower_digits_are_ascii)
