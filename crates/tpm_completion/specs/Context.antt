-- The context of a session: a token that names the slot in which the session stays on the device.
-- TPM 2.0 Library, Part 2, section 14 (TPMS_CONTEXT: sequence, savedHandle, hierarchy,
-- contextBlob), and Part 1, section 30 (context management).
use Rattle.std.specs.Prelude.{ℕ, ◌==◌, ◌||◌, not, Bool, false, List, [], ◌∷◌, ◌++◌, Result, Ok, Err}
use Rattle.std.specs.Int.{w32, w64, to_be_bytes}
use Rattle.std.specs.Str.{bytes_eq}
use Rattle.tpm_bytes.specs.Reading.{◌>>=◌, bytes_at, number_at, refused_if, too_short}
use Rattle.tpm_bytes.specs.Writing.{sized_text}
use Rattle.tpm_bytes.specs.declared.cursor.Short.{Short}
use Rattle.tpm_context.specs.Head.{saved_number}
use Rattle.tpm_context.specs.declared.head.SavedHandle.TheVariants as saved
use Rattle.tpm_types_common.specs.declared.handle.Handle.{Handle}
use Rattle.tpm_types_common.specs.Handle.{is_session, null_handle, numbered_handle}
use Rattle.tpm_completion.specs.declared.context.Token.{Token}

-- the size of a session's context, in bytes
abbrev pub session_context_size : ℕ
session_context_size = 38

-- the bytes "tpmsim 1", which identify a token
abbrev pub mark : List ℕ
mark = 0x74 ∷ 0x70 ∷ 0x6d ∷ 0x73 ∷ 0x69 ∷ 0x6d ∷ 0x20 ∷ 0x31 ∷ []

-- the contextBlob of a token: `mark`, the layer's start number, and the session's handle
abbrev pub token_text : (start : ℕ) → Handle → List ℕ
token_text start handle = mark ++ to_be_bytes w64 start ++ to_be_bytes w32 handle.number

-- the context of a token: its sequence is the token's number, its savedHandle is the token's
-- handle, and its hierarchy is TPM_RH_NULL
unfoldable pub context_text : (start : ℕ) → Token → List ℕ
context_text start token =
    to_be_bytes w64 token.context ++ to_be_bytes w32 token.handle.number
    ++ to_be_bytes w32 null_handle.number ++ sized_text (token_text start token.handle)

-- the token in a context. Its number comes first, and its handle 26 bytes after the number. The
-- bytes must be exactly the token's context
unfoldable pub token_at : (start : ℕ) → List ℕ → Result Token Short
token_at start text = do
  context ← number_at w64 text
  between ← bytes_at 26 context.1
  handle ← number_at w32 between.1
  let token : Token = record { context = context.0; handle = numbered_handle handle.0 }
  same ← refused_if (not (bytes_eq text (context_text start token))) too_short
  Ok token

-- ---- which kind of context it is

-- the savedHandle of a context, which comes after its sequence
unfoldable pub saved_handle_at : List ℕ → Result Handle Short
saved_handle_at text = do
  sequence ← number_at w64 text
  number ← number_at w32 sequence.1
  Ok (numbered_handle number.0)

abbrev pub is_of_session : Result Handle Short → Bool
is_of_session (Ok handle) = is_session handle
is_of_session (Err e) = false

-- whether the savedHandle of a context is the handle of a session
abbrev pub names_session : List ℕ → Bool
names_session context = is_of_session (saved_handle_at context)

abbrev pub is_of_sequence : Result Handle Short → Bool
is_of_sequence (Ok handle) = handle.number == saved_number saved.Sequence
is_of_sequence (Err e) = false

-- whether the savedHandle of a context is that of a sequence object
abbrev pub names_sequence : List ℕ → Bool
names_sequence context = is_of_sequence (saved_handle_at context)

-- whether the layer loads a context without the device: the context of a session or of a sequence
-- object. Every other context is read as an object's
abbrev pub names_own : List ℕ → Bool
names_own context = names_session context || names_sequence context
