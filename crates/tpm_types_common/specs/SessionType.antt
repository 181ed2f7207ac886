-- The types of sessions. TPM 2.0 Library, Part 2, section 6.11 (TPM_SE) and section 7.2 (TPM_HT).
use Rattle.std.specs.Prelude.{ℕ, ◌==◌, Bool, true, false, List, if◌then◌else◌, Option, Some, None, Result, Ok, ok_or}
use Rattle.std.specs.Int.{w8}
use Rattle.tpm_bytes.specs.Reading.{◌>>=◌, number_at, or_fault}
use Rattle.tpm_types_common.specs.declared.rc.Rc.{Rc}
use Rattle.tpm_types_common.specs.declared.rc.ResponseCode.TheVariants as code
use Rattle.tpm_types_common.specs.declared.session_type.SessionType.{SessionType}
use Rattle.tpm_types_common.specs.declared.session_type.SessionType.TheVariants.{Hmac, Policy, Trial}
use Rattle.tpm_types_common.specs.Rc.{plain}

abbrev pub type_number : SessionType → ℕ
type_number Hmac = 0x00
type_number Policy = 0x01
type_number Trial = 0x03

-- the session type with this number, or None
abbrev pub type_named : ℕ → Option SessionType
type_named number =
    if number == 0x00 then Some Hmac
    else (if number == 0x01 then Some Policy
    else (if number == 0x03 then Some Trial else None))

-- the most significant byte of a session's handle: 02 for an HMAC session, 03 for a policy session
-- or a trial session
abbrev pub type_byte : SessionType → ℕ
type_byte Hmac = 0x02
type_byte Policy = 0x03
type_byte Trial = 0x03

-- whether sessions of this type are trial sessions, which compute a policy digest and authorize
-- nothing
abbrev pub is_trial : SessionType → Bool
is_trial Hmac = false
is_trial Policy = false
is_trial Trial = true

-- the session type at the start of the bytes, and the remaining bytes
unfoldable pub session_type_at : List ℕ → Result (SessionType × List ℕ) Rc
session_type_at text = do
  number ← or_fault (number_at w8 text) (plain code.Insufficient)
  type ← ok_or (type_named number.0) (plain code.Value)
  Ok (type, number.1)
