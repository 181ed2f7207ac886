-- Session entries with an empty HMAC. TPM 2.0 Library, Part 1, section 19.6.5 (HMAC computation: if
-- the key is empty, the HMAC may be empty), and section 19.7 (policies that require a password).
use Rattle.std.specs.Prelude.{◌≡◌, ◌⊎◌, ℕ, true, [], Option, Ok}
use Rattle.tpm_session.specs.EntryText.{entry_key}
use Rattle.tpm_session.specs.declared.session.Session.{Session}
use Rattle.tpm_types_common.specs.declared.handle.Handle.{Handle}
use Rattle.tpm_types_command.specs.AuthEntry.{Entry}
use Rattle.tpm_types_command.specs.Command.{Whole}
use Rattle.tpm_record.specs.Record.{Record}
use Rattle.tpm_types_common.specs.AuthValue.{trimmed}
use Rattle.tpm_auth.specs.SessionGrant.{demands_password, granted_value, session_grant, used_auth_value}
use Rattle.tpm_auth.specs.declared.session_grant.Grant.{Grant}

-- An accepted session entry has an empty HMAC in only two cases. Either its HMAC key is empty: it
-- contains neither a session key nor an authorization value. Or the entry authorizes an entity
-- whose authorization value is empty, by a policy that requires a password.
abbrev pub EmptyHmacHasNoKey : Type 0
EmptyHmacHasNoKey =
    (r : Record) (c : Whole) (locality n : ℕ) (used : Option Handle) (e : Entry) (s : Session)
    (accepted : Option Grant) → session_grant r c locality n used e s ≡ Ok accepted → e.hmac ≡ []
    → (entry_key s (used_auth_value r s accepted) ≡ [])
    ⊎ ((demands_password accepted ≡ true) × (trimmed (granted_value r accepted) ≡ []))
