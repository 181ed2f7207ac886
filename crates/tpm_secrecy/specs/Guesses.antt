-- Entries that use a secret authorization value, and commands in which all guesses of secret values
-- fail. TPM 2.0 Library, Part 1, sections 19.4 (passwords), 19.6 (HMAC sessions, bound sessions),
-- 19.7 (policies) and 21 (session-based encryption).
use Rattle.std.specs.Option.{option_map_or}
use Rattle.std.specs.Prelude.{Bool, Err, IfSome, List, None, Ok, Option, Result, Some, [], false, is_ok, option_map, slice_get, true, ℕ, ◌&&◌, ◌+◌, ◌||◌, ◌∷◌, ◌≡◌}
use Rattle.tpm_auth.specs.Entries.{decrypts, encrypts, session_of}
use Rattle.tpm_auth.specs.Grant.{authorized, grant, undemanding}
use Rattle.tpm_auth.specs.SessionGrant.{demand_of_session}
use Rattle.tpm_auth.specs.declared.session_grant.Grant.{Grant}
use Rattle.tpm_policy.specs.declared.state.Demand.{Demand}
use Rattle.tpm_record.specs.Entity.{name_of, protection_of}
use Rattle.tpm_record.specs.Record.{Record}
use Rattle.tpm_session.specs.Sessions.{session_at}
use Rattle.tpm_session.specs.declared.session.Session.{Session}
use Rattle.tpm_step.specs.step.Granted.{Granted}
use Rattle.tpm_step.specs.history.Sessions.{used_session}
use Rattle.tpm_types_common.specs.Handle.{session_kind}
use Rattle.tpm_types_common.specs.declared.handle.Handle.{Handle}
use Rattle.tpm_types_common.specs.declared.handle.SessionKind.{SessionKind}
use Rattle.tpm_types_common.specs.declared.refused.Refused.{Refused}
use Rattle.tpm_types_common.specs.declared.session_type.SessionType.{SessionType}
use Rattle.tpm_types_command.specs.AuthEntry.{Entry}
use Rattle.tpm_types_command.specs.Command.{Whole}
use Rattle.tpm_row_secrecy.specs.Secrecy.{Secrecy, has_secret_key, has_secret_value}
use Rattle.tpm_policy.specs.declared.state.Demand.TheVariants as demand
use Rattle.tpm_types_common.specs.declared.handle.SessionKind.TheVariants as kind
use Rattle.tpm_types_common.specs.declared.session_type.SessionType.TheVariants as type

-- ---- the secrets that an entry uses

-- whether an entry authorizes an entity whose authorization value is secret
abbrev pub authorizes_secret : Secrecy → Record → Option Grant → Bool
authorizes_secret s r granted =
    option_map_or (λ (g : Grant). has_secret_value s r g.handle) granted false

-- whether a policy requires the authorization value, in an HMAC key or as a password
abbrev pub is_demanding : Demand → Bool
is_demanding demand.None = false
is_demanding demand.AuthValue = true
is_demanding demand.Password = true

abbrev pub demands_value : Option Grant → Bool
demands_value granted = option_map_or (λ (g : Grant). is_demanding g.demand) granted false

abbrev pub is_hmac_session : SessionType → Bool
is_hmac_session type.Hmac = true
is_hmac_session type.Policy = false
is_hmac_session type.Trial = false

-- whether an entry's session decrypts the command's first parameter, or encrypts the first
-- parameter of the response
abbrev pub uses_encryption : Entry → Bool
uses_encryption e = decrypts e || encrypts e

-- Whether an entry that names this session uses a secret. It does if the session's key is secret,
-- which depends on the entity to which the session was bound. It also does if the entry authorizes
-- an entity with a secret value, and one of these holds: the session is an HMAC session, so that
-- the HMAC key contains the value; the policy requires the value; or the session encrypts or
-- decrypts a parameter. The key for a parameter contains the value even if the policy does not
-- require the value.
abbrev pub session_uses : Secrecy → Record → Session → Entry → Option Grant → Bool
session_uses secrecy device session entry granted =
    has_secret_key secrecy session.binding
    || authorizes_secret secrecy device granted
    && (is_hmac_session session.kind || demands_value granted || uses_encryption entry)

-- whether an entry with this grant uses a secret; a password uses the authorization value of the
-- entity that it authorizes
abbrev pub uses_by : SessionKind → Secrecy → Record → Entry → Option Grant → Bool
uses_by kind.Password secrecy device entry granted = authorizes_secret secrecy device granted
uses_by kind.Session secrecy device entry granted =
    option_map_or (λ (x : Session). session_uses secrecy device x entry granted)
    (session_of device entry) false
uses_by kind.Other secrecy device entry granted = false

abbrev pub uses_secret : Secrecy → Record → Entry → Option Grant → Bool
uses_secret s r e granted = uses_by (session_kind e.session) s r e granted

-- None of these entries uses a secret.
abbrev pub NoneUses : Secrecy → Record → List Granted → Type 0
NoneUses s r [] = Unit {0}
NoneUses s r (g ∷ granted) = (uses_secret s r g.0 g.1 ≡ false) × NoneUses s r granted

-- ---- guesses

-- whether an entry that has to authorize this handle uses a secret, given what the policy of its
-- session requires in the entry. If the policy does not authorize the handle, nothing is compared
abbrev pub demand_uses : Secrecy → Record → Handle → Session → Entry → Result Demand Refused → Bool
demand_uses secrecy device handle session entry (Ok d) =
    session_uses secrecy device session entry (Some (record { handle = handle; demand = d }))
demand_uses secrecy device handle session entry (Err refused) = false

-- whether entry n, which names this session, uses a secret. The entry has to authorize this handle,
-- or no handle in the case of None
abbrev pub session_guesses : Secrecy → Record → Whole → (locality position : ℕ) → Option Handle
    → Entry → Session → Bool
session_guesses secrecy device command locality position None entry session =
    session_uses secrecy device session entry None
session_guesses secrecy device command locality position (Some handle) entry session =
    demand_uses secrecy device handle session entry
    (demand_of_session device command locality position handle session)

abbrev pub guesses_by : SessionKind → Secrecy → Record → Whole → (locality position : ℕ)
    → Option Handle → Entry → Bool
guesses_by kind.Password secrecy device command locality position used entry =
    authorizes_secret secrecy device (option_map undemanding used)
guesses_by kind.Session secrecy device command locality position used entry =
    option_map_or (session_guesses secrecy device command locality position used entry)
    (session_of device entry) false
guesses_by kind.Other secrecy device command locality position used entry = false

-- whether the entry at this position of a command, counted from 0, is a guess. In a guess, the
-- password or the HMAC is compared with a value computed from a secret. An entry is also a guess if
-- it encrypts or decrypts a parameter with a key computed from a secret, although the key is not
-- compared with anything
abbrev pub is_guess : Secrecy → Record → Whole → (locality place : ℕ) → Entry → Bool
is_guess secrecy device command locality place entry =
    guesses_by (session_kind entry.session) secrecy device command locality (place + 1)
    (slice_get (authorized command) place) entry

-- Every guess among the entries of a command is refused. This includes the entries after the first
-- refused entry, although the device does not examine them.
abbrev pub GuessesFail : Secrecy → Record → Whole → (locality : ℕ) → Type 0
GuessesFail s r c locality =
    (place : ℕ) (e : Entry) → slice_get c.entries place ≡ Some e
    → is_guess s r c locality place e ≡ true
    → is_ok (grant r c locality (place + 1) (slice_get (authorized c) place) e) ≡ false

-- If a session with a secret key is bound to a Name, every entity with this Name has the protection
-- that the bound entity had. This can fail only if two different entities have the same Name.
-- Otherwise, equal Names imply equal protection: two objects, or two indices, with the same public
-- area agree in noDA, and equal handles name the same entity.
abbrev pub BindingHolds : Secrecy → Record → Session → Type 0
BindingHolds s r x =
    IfSome x.binding (λ b.
    (handle : Handle) → s.bound_names b.name ≡ true → b.name ≡ name_of r handle
    → protection_of r handle ≡ b.protection)

abbrev pub BindingsHold : Secrecy → Record → Type 0
BindingsHold s r = (session : Handle) → IfSome (session_at r.sessions session) (BindingHolds s r)
