-- The attributes of a session in an authorization entry. TPM 2.0 Library, Part 2, section 8.4
-- (TPMA_SESSION).
use Rattle.std.specs.Prelude.{ℕ, ◌==◌, not, bit_and, Bool}
use Rattle.tpm_types_common.specs.declared.session_attributes.SessionAttributes.{SessionAttributes}

-- whether any of these bits is set in the attributes
abbrev pub has_bits : ℕ → SessionAttributes → Bool
has_bits bits attributes = not (bit_and attributes.octet bits == 0)

-- continueSession (bit 0): whether the session continues after the command
abbrev pub continues_session : SessionAttributes → Bool
continues_session attributes = has_bits 0x01 attributes

-- whether the client requests an audit session: auditExclusive (bit 1), auditReset (2) or audit (7)
abbrev pub audits : SessionAttributes → Bool
audits attributes = has_bits 0x86 attributes

-- whether a reserved bit (3 or 4) is set
abbrev pub has_reserved_bits : SessionAttributes → Bool
has_reserved_bits attributes = has_bits 0x18 attributes

-- decrypt (bit 5): whether the device decrypts the command's first parameter with the session
abbrev pub decrypts : SessionAttributes → Bool
decrypts attributes = has_bits 0x20 attributes

-- encrypt (bit 6): whether the device encrypts the response's first parameter with the session
abbrev pub encrypts : SessionAttributes → Bool
encrypts attributes = has_bits 0x40 attributes

-- whether the session is used to encrypt a parameter of the command or of the response
abbrev pub uses_cipher : SessionAttributes → Bool
uses_cipher attributes = has_bits 0x60 attributes
