-- If an entry passes its own checks, its session exists. The session still exists after every row
-- that ends no session.
use Rattle.std.specs.Prelude.{◌||◌, is_some, nat_lt}
use Rattle.std.proofs.Common.{◌++◌, ◌+◌, ◌∷◌, ◌≡◌, List, None, Ok, Option, Some, [], false, is_none}
use Rattle.std.proofs.Common.{length, refl, true, ℕ}
use Rattle.tpm_bytes.specs.Reading.{refused_if}
use Rattle.tpm_bytes.proofs.Fields.{bind_ok, passed}
use Rattle.tpm_types_common.specs.Handle.{session_kind}
use Rattle.tpm_types_common.specs.Rc.{entry_fault}
use Rattle.tpm_types_common.specs.declared.handle.SessionKind.{SessionKind}
use Rattle.tpm_types_common.specs.declared.handle.SessionKind.TheVariants as kind
use Rattle.tpm_types_common.specs.declared.rc.ResponseCode.TheVariants as code
use Rattle.tpm_types_nv.specs.NvAttributes.{has}
use Rattle.tpm_types_command.specs.AuthEntry.{Entry}
use Rattle.tpm_commands.specs.declared.command_code.CommandCode.{CommandCode}
use Rattle.tpm_session.specs.declared.session.Session.{Session}
use Rattle.tpm_record.specs.Record.{Record}
use Rattle.tpm_auth.specs.Entries.{entries_pass, entry_passes, kind_passes, session_of}
use Rattle.tpm_step.specs.rows.Sessions.{HasSession, HaveSessions, SessionsStay}

is_some_there : (o : Option Session) → is_none o ≡ false → is_some o ≡ true
is_some_there None e = absurd cc
is_some_there (Some s) e = refl

kind_has : (k : SessionKind) (r : Record) (n : ℕ) (e : Entry) (x : Unit {0})
    → kind_passes r n e k ≡ Ok x → HasSession k r e
kind_has kind.Other r n e x is = absurd cc
kind_has kind.Session r n e x is = is_some_there (session_of r e) (passed _ _ x is)
kind_has kind.Password r n e x is = tt

entry_has : (r : Record) (c : CommandCode) (before : List Entry) (e : Entry) (x : Unit {0})
    → entry_passes r c before e ≡ Ok x → HasSession (session_kind e.session) r e
unfolding entry_passes
entry_has r c before e x is =
    let sizes =
    bind_ok (refused_if (nat_lt 32 (length e.nonce) || nat_lt 32 (length e.hmac))
    (entry_fault (length before + 1) code.Size)) _ x is in
    let there = bind_ok (kind_passes r (length before + 1) e (session_kind e.session)) _ x
    sizes.2 in
    kind_has (session_kind e.session) r (length before + 1) e there.0 there.1

pub entries_have : (r : Record) (c : CommandCode) (before es : List Entry) (x : Unit {0})
    → entries_pass r c before es ≡ Ok x → HaveSessions r es
entries_have r c before [] x is = tt
entries_have r c before (e ∷ es) x is =
    let this = bind_ok (entry_passes r c before e) (λ u. entries_pass r c (before ++ e ∷ []) es) x
    is in
    (entry_has r c before e this.0 this.1, entries_have r c (before ++ e ∷ []) es x this.2)

entry_keeps : (k : SessionKind) (old new : Record) (e : Entry) → SessionsStay old new
    → HasSession k old e → HasSession k new e
entry_keeps kind.Other old new e stay has = has
entry_keeps kind.Session old new e stay has = stay e.session has
entry_keeps kind.Password old new e stay has = tt

pub entries_keep : (old new : Record) (es : List Entry) → SessionsStay old new → HaveSessions old es
    → HaveSessions new es
entries_keep old new [] stay has = tt
entries_keep old new (e ∷ es) stay has =
    (entry_keeps (session_kind e.session) old new e stay has.0, entries_keep old new es stay has.1)
