-- The sessions named by a command's entries.
use Rattle.std.specs.Prelude.{◌≡◌, true, List, [], ◌∷◌, is_some}
use Rattle.tpm_session.specs.Sessions.{session_at}
use Rattle.tpm_types_common.specs.declared.handle.Handle.{Handle}
use Rattle.tpm_types_common.specs.declared.handle.SessionKind.{SessionKind}
use Rattle.tpm_types_common.specs.declared.handle.SessionKind.TheVariants as kind
use Rattle.tpm_types_command.specs.AuthEntry.{Entry}
use Rattle.tpm_types_common.specs.Handle.{session_kind}
use Rattle.tpm_record.specs.Record.{Record}
use Rattle.tpm_auth.specs.Entries.{session_of}

-- An entry of this kind is a password, or the session that it names exists.
abbrev pub HasSession : SessionKind → Record → Entry → Type 0
HasSession kind.Password r e = Unit {0}
HasSession kind.Session r e = is_some (session_of r e) ≡ true
HasSession kind.Other r e = ⊥

-- Each of these entries is a password, or its session exists.
abbrev pub HaveSessions : Record → List Entry → Type 0
HaveSessions r [] = Unit {0}
HaveSessions r (e ∷ es) = HasSession (session_kind e.session) r e × HaveSessions r es

-- Each session that existed still exists.
abbrev pub SessionsStay : Record → Record → Type 0
SessionsStay old new =
    (handle : Handle) → is_some (session_at old.sessions handle) ≡ true
    → is_some (session_at new.sessions handle) ≡ true
