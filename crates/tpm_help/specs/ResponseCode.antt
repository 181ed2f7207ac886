-- The names of response codes, and the handle, parameter or session that a code identifies. TPM 2.0
-- Library, Part 2, section 6.6: 6.6.2 defines the bits of a code, and 6.6.3 the numbers of TPM_RC.
use Rattle.std.specs.Prelude.{ℕ, ◌+◌, ◌/◌, ◌%◌, ◌==◌, ◌||◌, ◌++◌, ◌-◌, nat_lt, List, [], ◌∷◌, codes, length, replicate, if◌then◌else◌}
use Rattle.tpm_types_common.specs.declared.rc.Place.{Place}
use Rattle.tpm_types_common.specs.declared.rc.Place.TheVariants as place
use Rattle.std.specs.Prelude.{Option, None, option_map}
use Rattle.std.specs.List.{find}
use Rattle.std.specs.Fmt.{decimal}
use Rattle.std.specs.Int.{from_be_bytes, w32}
use Rattle.std.specs.Option.{option_or}
use Rattle.std.specs.Result.{result_ok}
use Rattle.hex.specs.Hex.{decode_of}

-- the names of the codes that identify no handle, parameter or session, and are not warnings:
-- success, a bad tag, and errors of version 2.0 (RC_VER1)
unfoldable pub errors : List (ℕ × List ℕ)
errors = (0x000, codes "SUCCESS") ∷ (0x01e, codes "BAD_TAG")
    ∷ (0x100, codes "INITIALIZE")
    ∷ (0x101, codes "FAILURE")
    ∷ (0x103, codes "SEQUENCE")
    ∷ (0x10b, codes "PRIVATE")
    ∷ (0x119, codes "HMAC")
    ∷ (0x120, codes "DISABLED")
    ∷ (0x121, codes "EXCLUSIVE")
    ∷ (0x124, codes "AUTH_TYPE")
    ∷ (0x125, codes "AUTH_MISSING")
    ∷ (0x126, codes "POLICY")
    ∷ (0x127, codes "PCR")
    ∷ (0x128, codes "PCR_CHANGED")
    ∷ (0x12d, codes "UPGRADE")
    ∷ (0x12e, codes "TOO_MANY_CONTEXTS")
    ∷ (0x12f, codes "AUTH_UNAVAILABLE")
    ∷ (0x130, codes "REBOOT")
    ∷ (0x131, codes "UNBALANCED")
    ∷ (0x142, codes "COMMAND_SIZE")
    ∷ (0x143, codes "COMMAND_CODE")
    ∷ (0x144, codes "AUTHSIZE")
    ∷ (0x145, codes "AUTH_CONTEXT")
    ∷ (0x146, codes "NV_RANGE")
    ∷ (0x147, codes "NV_SIZE")
    ∷ (0x148, codes "NV_LOCKED")
    ∷ (0x149, codes "NV_AUTHORIZATION")
    ∷ (0x14a, codes "NV_UNINITIALIZED")
    ∷ (0x14b, codes "NV_SPACE")
    ∷ (0x14c, codes "NV_DEFINED")
    ∷ (0x150, codes "BAD_CONTEXT")
    ∷ (0x151, codes "CPHASH")
    ∷ (0x152, codes "PARENT")
    ∷ (0x153, codes "NEEDS_TEST")
    ∷ (0x154, codes "NO_RESULT")
    ∷ (0x155, codes "SENSITIVE")
    ∷ []

-- the names of the warnings (RC_WARN), which identify no handle, parameter or session
unfoldable pub warnings : List (ℕ × List ℕ)
warnings = (0x901, codes "CONTEXT_GAP")
    ∷ (0x902, codes "OBJECT_MEMORY")
    ∷ (0x903, codes "SESSION_MEMORY")
    ∷ (0x904, codes "MEMORY")
    ∷ (0x905, codes "SESSION_HANDLES")
    ∷ (0x906, codes "OBJECT_HANDLES")
    ∷ (0x907, codes "LOCALITY")
    ∷ (0x908, codes "YIELDED")
    ∷ (0x909, codes "CANCELED")
    ∷ (0x90a, codes "TESTING")
    ∷ (0x910, codes "REFERENCE_H0")
    ∷ (0x911, codes "REFERENCE_H1")
    ∷ (0x912, codes "REFERENCE_H2")
    ∷ (0x913, codes "REFERENCE_H3")
    ∷ (0x914, codes "REFERENCE_H4")
    ∷ (0x915, codes "REFERENCE_H5")
    ∷ (0x916, codes "REFERENCE_H6")
    ∷ (0x918, codes "REFERENCE_S0")
    ∷ (0x919, codes "REFERENCE_S1")
    ∷ (0x91a, codes "REFERENCE_S2")
    ∷ (0x91b, codes "REFERENCE_S3")
    ∷ (0x91c, codes "REFERENCE_S4")
    ∷ (0x91d, codes "REFERENCE_S5")
    ∷ (0x91e, codes "REFERENCE_S6")
    ∷ (0x920, codes "NV_RATE")
    ∷ (0x921, codes "LOCKOUT")
    ∷ (0x922, codes "RETRY")
    ∷ (0x923, codes "NV_UNAVAILABLE")
    ∷ []

-- the names of the codes that can identify a handle, a parameter or a session (RC_FMT1); each code
-- is listed with bits 6 and 8 to 11 clear
unfoldable pub format_one_names : List (ℕ × List ℕ)
format_one_names = (0x081, codes "ASYMMETRIC")
    ∷ (0x082, codes "ATTRIBUTES")
    ∷ (0x083, codes "HASH")
    ∷ (0x084, codes "VALUE")
    ∷ (0x085, codes "HIERARCHY")
    ∷ (0x087, codes "KEY_SIZE")
    ∷ (0x088, codes "MGF")
    ∷ (0x089, codes "MODE")
    ∷ (0x08a, codes "TYPE")
    ∷ (0x08b, codes "HANDLE")
    ∷ (0x08c, codes "KDF")
    ∷ (0x08d, codes "RANGE")
    ∷ (0x08e, codes "AUTH_FAIL")
    ∷ (0x08f, codes "NONCE")
    ∷ (0x090, codes "PP")
    ∷ (0x092, codes "SCHEME")
    ∷ (0x095, codes "SIZE")
    ∷ (0x096, codes "SYMMETRIC")
    ∷ (0x097, codes "TAG")
    ∷ (0x098, codes "SELECTOR")
    ∷ (0x09a, codes "INSUFFICIENT")
    ∷ (0x09b, codes "SIGNATURE")
    ∷ (0x09c, codes "KEY")
    ∷ (0x09d, codes "POLICY_FAIL")
    ∷ (0x09f, codes "INTEGRITY")
    ∷ (0x0a0, codes "TICKET")
    ∷ (0x0a1, codes "RESERVED_BITS")
    ∷ (0x0a2, codes "BAD_AUTH")
    ∷ (0x0a3, codes "EXPIRED")
    ∷ (0x0a4, codes "POLICY_CC")
    ∷ (0x0a5, codes "BINDING")
    ∷ (0x0a6, codes "CURVE")
    ∷ (0x0a7, codes "ECC_POINT")
    ∷ []

-- the name that a list contains for the code with this number
abbrev pub name_in : List (ℕ × List ℕ) → ℕ → Option (List ℕ)
name_in rows number = option_map (λ row. row.1) (find (λ row. row.0 == number) rows)

-- the parameter, session or handle that a code of RC_FMT1 identifies. If bit 6 is set, the code
-- identifies the parameter whose number is in bits 8 to 11. Otherwise it identifies a session (bit
-- 11 set) or a handle (bit 11 clear), whose number is in bits 8 to 10. The number 0 means that the
-- code identifies nothing
unfoldable pub place_in : ℕ → Place
place_in code =
    let number : ℕ = code / 0x100 in
    if code / 0x40 % 2 == 1
    then (if number == 0 then place.Nowhere else place.Parameter number)
    else (if number % 8 == 0 then place.Nowhere
    else (if number / 8 == 1 then place.Session (number % 8) else place.Handle (number % 8)))

-- the name of a response code of twelve bits, and the handle, parameter or session that the code
-- identifies. Bit 7 is set in the codes of RC_FMT1; only these codes can identify something. None
-- if the standard does not define the code
unfoldable pub told_by : ℕ → Option (List ℕ × Place)
told_by code =
    if code / 0x80 % 2 == 1
    then option_map (λ name. (name, place_in code)) (name_in format_one_names (0x80 + code % 0x40))
    else option_map (λ name. (name, place.Nowhere))
    (option_or (name_in errors code) (name_in warnings code))

-- the meaning of a response code; a TPM returns no code of more than twelve bits
abbrev pub told_of : ℕ → Option (List ℕ × Place)
told_of code = if nat_lt code 0x1000 then told_by code else None

-- a code in words: its name, and the handle, parameter or session that it identifies
abbrev pub code_text : List ℕ → Place → List ℕ
code_text name place.Nowhere = name
code_text name (place.Handle number) = name ++ codes ", handle " ++ decimal number
code_text name (place.Parameter number) = name ++ codes ", parameter " ++ decimal number
code_text name (place.Session number) = name ++ codes ", session " ++ decimal number

-- the number that one to eight hex digits of either case encode
unfoldable pub hex_number : List ℕ → Option ℕ
hex_number digits =
    if length digits == 0 || nat_lt 8 (length digits) then None
    else option_map (from_be_bytes w32)
    (result_ok (decode_of (replicate (8 - length digits) 48 ++ digits)))
