-- The nonces that a session has had. TPM 2.0 Library, Part 1, section 19.6.3 (session nonces).
use Rattle.std.specs.Prelude.{◌≡◌, [], ◌∷◌, Some}
use Rattle.tpm_types_command.specs.AuthEntry.{Entry}
use Rattle.tpm_step.specs.history.History.{AcceptedCommand, Done, History}
use Rattle.tpm_step.specs.history.Sessions.{LiveSession, sessions_by, sessions_of}

-- If a command's only entry names a session, the command adds the session's old nonceTPM, not the
-- new one, to the session's earlier nonces.
abbrev pub AddsItsNonce : Type 0
AddsItsNonce =
    (history : History) (c : AcceptedCommand) (e : Entry) (old new : LiveSession)
    → c.command.entries ≡ e ∷ []
    → sessions_by c.command.code c history (sessions_of history) e.session ≡ Some old
    → sessions_of (Done c ∷ history) e.session ≡ Some new
    → new.earlier_nonces ≡ old.nonce_tpm ∷ old.earlier_nonces
