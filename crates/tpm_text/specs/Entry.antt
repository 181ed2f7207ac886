-- Handles and authorization entries in a line.
use Rattle.std.specs.Prelude.{ℕ, ◌==◌, ◌||◌, not, nat_eq, if◌then◌else◌, Bool, List, [], ◌∷◌, length, drop, codes}
use Rattle.std.specs.Prelude.{Result, Ok, Err}
use Rattle.std.specs.Int.{w8, w32, from_be_bytes}
use Rattle.std.specs.List.{starts_with}
use Rattle.tpm_bytes.specs.Reading.{◌>>=◌, refused_if}
use Rattle.tpm_types_common.specs.declared.handle.Handle.{Handle}
use Rattle.tpm_types_common.specs.Handle.{endorsement_handle, lockout_handle, null_handle, numbered_handle, owner_handle, password_handle, platform_handle}
use Rattle.tpm_types_command.specs.AuthEntry.{Entry, auth_entry_text}
use Rattle.tpm_number.specs.declared.fault.TokenFault.{TokenFault}
use Rattle.tpm_number.specs.declared.fault.TokenFault.TheVariants.{Bad}
use Rattle.tpm_number.specs.Number.{is_word}
use Rattle.tpm_text.specs.Hex.{bytes_in, hex_in}
use Rattle.tpm_text.specs.Pieces.{colon, pieces_of}

unfoldable pub hex_handle_in : List ℕ → Result Handle TokenFault
hex_handle_in token = do
  eight ← refused_if (not (length token == 8)) Bad
  bytes ← hex_in token
  Ok (numbered_handle (from_be_bytes w32 bytes))

-- a handle: the name of a permanent entity, or eight hex digits
unfoldable pub handle_in : List ℕ → Result Handle TokenFault
handle_in token =
    if is_word (codes "OWNER") token then Ok owner_handle
    else (if is_word (codes "NULL") token then Ok null_handle
    else (if is_word (codes "LOCKOUT") token then Ok lockout_handle
    else (if is_word (codes "ENDORSEMENT") token then Ok endorsement_handle
    else (if is_word (codes "PLATFORM") token then Ok platform_handle
    else hex_handle_in token))))

-- an entry's attributes: two hex digits
unfoldable pub octet_in : List ℕ → Result ℕ TokenFault
octet_in piece = do
  two ← refused_if (not (length piece == 2)) Bad
  bytes ← hex_in piece
  Ok (from_be_bytes w8 bytes)

-- the entry for a password: TPM_RS_PW, no nonce, continueSession, and the password as the HMAC
unfoldable pub password_entry : List ℕ → Result Entry TokenFault
password_entry password = do
  bytes ← bytes_in password
  Ok (record {
    session = password_handle;
    nonce = [];
    attributes = record { octet = 1 };
    hmac = bytes;
  })

-- the pieces of a token that encodes the entry of a session: handle, nonce, attributes, HMAC
pub record SessionPieces : Type 0 where
  pub session : List ℕ
  pub nonce : List ℕ
  pub attributes : List ℕ
  pub hmac : List ℕ

abbrev pub session_pieces_of : List (List ℕ) → Result SessionPieces TokenFault
session_pieces_of (session ∷ nonce ∷ attributes ∷ hmac ∷ []) =
    Ok (record { session = session; nonce = nonce; attributes = attributes; hmac = hmac })
session_pieces_of other = Err Bad

-- the entry for a session: its handle, nonce, attributes and HMAC, separated by colons
unfoldable pub session_entry : List ℕ → Result Entry TokenFault
session_entry text = do
  pieces ← session_pieces_of (pieces_of colon text)
  session ← handle_in pieces.session
  nonce ← bytes_in pieces.nonce
  octet ← octet_in pieces.attributes
  hmac ← bytes_in pieces.hmac
  Ok (record {
    session = session;
    nonce = nonce;
    attributes = record { octet = octet };
    hmac = hmac;
  })

abbrev pub begins_password : List ℕ → Bool
begins_password token = starts_with nat_eq token (codes "pw:")

abbrev pub begins_session : List ℕ → Bool
begins_session token = starts_with nat_eq token (codes "s:")

-- whether a token begins like an entry: with `pw:` or `s:`
abbrev pub begins_entry : List ℕ → Bool
begins_entry token = begins_password token || begins_session token

-- an entry: `pw:PASSWORD`, or `s:HANDLE:NONCE:ATTRIBUTES:HMAC`
unfoldable pub entry_in : List ℕ → Result Entry TokenFault
entry_in token =
    if begins_password token then password_entry (drop 3 token)
    else (if begins_session token then session_entry (drop 2 token) else Err Bad)

-- the encoding of an entry that was read
abbrev pub text_of_entry : {E : Type 0} → Result Entry E → Result (List ℕ) E
text_of_entry read = do
  entry ← read
  Ok (auth_entry_text entry)
