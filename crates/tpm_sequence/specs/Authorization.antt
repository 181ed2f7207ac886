-- The authorization value of a sequence object. TPM 2.0 Library, Part 1, section 19.6.4.3: a value
-- is stored and compared without trailing zeros.
use Rattle.std.specs.Prelude.{ℕ, ◌-◌, Bool, false, List, ◌++◌, if◌then◌else◌, length, nat_lt, replicate}
use Rattle.std.specs.Str.{bytes_eq}
use Rattle.tpm_types_common.specs.AuthValue.{trimmed}
use Rattle.tpm_sequence.specs.declared.object.SequenceObject.{SequenceObject}

-- the value without trailing zeros, followed by zeros up to 32 bytes
unfoldable pub padded : List ℕ → List ℕ
padded bytes = trimmed bytes ++ replicate (32 - length (trimmed bytes)) 0

-- whether the password is the authorization value of the object, ignoring trailing zeros. A
-- password that is longer than 32 bytes even without its trailing zeros is refused
abbrev pub is_authorized : SequenceObject → (password : List ℕ) → Bool
is_authorized object password =
    if nat_lt 32 (length (trimmed password)) then false else bytes_eq (padded password) object.auth
