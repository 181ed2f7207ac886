-- Hex digits in a token: decoding them, and checking them without decoding.
use Rattle.std.specs.Prelude.{◌≡◌, ℕ, ◌==◌, if◌then◌else◌, List, [], length, codes, Result, Ok, Err}
use Rattle.hex.specs.Hex.{decode_of}
use Rattle.tpm_bytes.specs.Reading.{or_fault}
use Rattle.tpm_number.specs.declared.fault.TokenFault.{TokenFault}
use Rattle.tpm_number.specs.declared.fault.TokenFault.TheVariants.{Bad}
use Rattle.tpm_number.specs.Number.{is_word}

-- the bytes that hex digits of either case encode, two digits for each byte
abbrev pub hex_in : List ℕ → Result (List ℕ) TokenFault
hex_in digits = or_fault (decode_of digits) Bad

-- the bytes that a token encodes in hex; the token `-` encodes no bytes
unfoldable pub bytes_in : List ℕ → Result (List ℕ) TokenFault
bytes_in token =
    if is_word (codes "-") token then Ok []
    else (if length token == 0 then Err Bad else hex_in token)

-- A check succeeded if its definition returns a value, and otherwise failed with the definition's
-- fault.
abbrev pub IsChecked : {X E : Type 0} → Result X E → Result (Unit {0}) E → Type 0
IsChecked (Ok x) (Ok done) = Unit {0}
IsChecked (Err fault) (Err found) = found ≡ fault
IsChecked _ _ = ⊥
