-- The entries of an authorization area, each checked on its own. TPM 2.0 Library, Part 3, section
-- 5.5 (session area validation), and Part 1, section 21 (which sessions encrypt).
use Rattle.std.specs.Prelude.{ℕ, ◌+◌, ◌==◌, ◌||◌, ◌&&◌, not, nat_lt, Bool, false, List, [], ◌∷◌, ◌++◌, length, if◌then◌else◌, Option, is_none, Result, Ok, Err}
use Rattle.std.specs.List.{list_any}
use Rattle.std.specs.Option.{option_map_or}
use Rattle.tpm_bytes.specs.Reading.{◌>>=◌, refused_if}
use Rattle.tpm_session.specs.declared.session.Session.{Session}
use Rattle.tpm_session.specs.Sessions.{session_at}
use Rattle.tpm_commands.specs.declared.command_code.CommandCode.{CommandCode}
use Rattle.tpm_types_common.specs.declared.handle.SessionKind.{SessionKind}
use Rattle.tpm_types_common.specs.declared.handle.SessionKind.TheVariants as kind
use Rattle.tpm_types_common.specs.declared.rc.Rc.{Rc}
use Rattle.tpm_types_common.specs.declared.rc.ResponseCode.TheVariants as code
use Rattle.tpm_types_common.specs.Symmetric.{is_null}
use Rattle.tpm_types_command.specs.AuthEntry.{Entry}
use Rattle.tpm_types_common.specs.SessionAttributes as of_session
use Rattle.tpm_types_common.specs.SessionAttributes.{audits, has_reserved_bits, uses_cipher}
use Rattle.tpm_commands.specs.CommandCode.{authorized_handles, has_sized_parameter, shape_of}
use Rattle.tpm_types_common.specs.Handle.{password_handle, session_kind}
use Rattle.tpm_types_common.specs.Rc.{entry_fault, plain}
use Rattle.tpm_record.specs.Record.{Record}

-- the session that an entry names
abbrev pub session_of : Record → Entry → Option Session
session_of r e = session_at r.sessions e.session

abbrev pub is_password : Entry → Bool
is_password e = e.session.number == password_handle.number

-- whether an entry's session decrypts the command's first parameter
abbrev pub decrypts : Entry → Bool
decrypts e = of_session.decrypts e.attributes

-- whether an entry's session encrypts the first parameter of the response
abbrev pub encrypts : Entry → Bool
encrypts e = of_session.encrypts e.attributes

-- the response code if the session of entry n does not exist
abbrev pub reference_of : ℕ → Rc
reference_of n =
    plain (if n == 1 then code.ReferenceS0
    else (if n == 2 then code.ReferenceS1 else code.ReferenceS2))

-- the check that the session named by an entry's handle exists; a password entry always passes
abbrev pub kind_passes : Record → ℕ → Entry → SessionKind → Result (Unit {0}) Rc
kind_passes r n e kind.Other = Err (entry_fault n code.Value)
kind_passes r n e kind.Session = refused_if (is_none (session_of r e)) (reference_of n)
kind_passes r n e kind.Password = Ok tt

-- whether entry n names a session that an earlier entry names, or is a password entry without a
-- handle to authorize
abbrev pub is_misplaced : CommandCode → ℕ → List Entry → Entry → Bool
is_misplaced c n before e =
    if is_password e then nat_lt (authorized_handles c) n
    else list_any (λ earlier. earlier.session.number == e.session.number) before

-- whether an entry has an attribute that is not allowed. audit is not supported. decrypt and
-- encrypt are not allowed in a password entry, if an earlier entry has the same attribute, or if
-- the first parameter of the command (for decrypt) or of its response (for encrypt) is not a sized
-- buffer
abbrev pub has_wrong_attributes : CommandCode → List Entry → Entry → Bool
has_wrong_attributes c before e =
    audits e.attributes
    || is_password e && uses_cipher e.attributes
    || decrypts e && (list_any decrypts before || not (has_sized_parameter c))
    || encrypts e && (list_any encrypts before || not (shape_of c).sized_answer)

-- whether an entry requests decrypt or encrypt, but its session has no symmetric algorithm
abbrev pub lacks_cipher : Record → Entry → Bool
lacks_cipher r e =
    uses_cipher e.attributes
    && option_map_or (λ (s : Session). is_null s.symmetric) (session_of r e) false

-- the checks of an entry that follows these earlier entries: the sizes of its nonce and HMAC, its
-- session, the reserved bits 3 and 4, the other attributes, the session's algorithm
unfoldable pub entry_passes : Record → CommandCode → List Entry → Entry → Result (Unit {0}) Rc
entry_passes r c before e = do
  let n : ℕ = length before + 1
  sizes ← refused_if (nat_lt 32 (length e.nonce) || nat_lt 32 (length e.hmac))
      (entry_fault n code.Size)
  kind ← kind_passes r n e (session_kind e.session)
  misplaced ← refused_if (is_misplaced c n before e) (entry_fault n code.Handle)
  reserved ← refused_if (has_reserved_bits e.attributes) (entry_fault n code.ReservedBits)
  attributes ← refused_if (has_wrong_attributes c before e) (entry_fault n code.Attributes)
  refused_if (lacks_cipher r e) (entry_fault n code.Symmetric)

-- the checks of each entry, in order
abbrev pub entries_pass : Record → CommandCode → (before entries : List Entry)
    → Result (Unit {0}) Rc
entries_pass r c before [] = Ok tt
entries_pass r c before (e ∷ es) = do
  this ← entry_passes r c before e
  entries_pass r c (before ++ e ∷ []) es
