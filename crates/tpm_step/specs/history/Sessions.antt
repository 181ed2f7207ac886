-- Sessions, computed from the history alone. TPM 2.0 Library, Part 1, sections 19.6 (session
-- nonces and keys, bound sessions) and 19.7 (policies). No session is salted: tpmKey is
-- TPM_RH_NULL.
use Rattle.std.specs.Prelude.{◌≡◌, ℕ, ◌==◌, is_some, List, [], ◌∷◌, length, take, drop, fold, map, if◌then◌else◌, Option, Some, None, option_map, Result, Ok, Err, ok_or}
use Rattle.std.specs.List.{zip}
use Rattle.std.specs.Option.{option_map_or}
use Rattle.tpm_mac.specs.Digest.{digest_size}
use Rattle.tpm_mac.specs.Kdf.{kdfa_of}
use Rattle.tpm_mac.specs.declared.algorithm.HashAlg.{HashAlg}
use Rattle.tpm_policy.specs.Assertion.{Assertion}
use Rattle.tpm_policy.specs.State.{Policy}
use Rattle.tpm_session.specs.Key.{key_label}
use Rattle.tpm_session.specs.declared.session.Protection.{Protection}
use Rattle.tpm_types_common.specs.Handle.{null_handle}
use Rattle.tpm_types_common.specs.SessionAttributes.{continues_session}
use Rattle.tpm_types_common.specs.SessionType.{is_trial}
use Rattle.tpm_types_common.specs.declared.handle.Handle.{Handle}
use Rattle.tpm_types_common.specs.declared.refused.Refused.{Refused}
use Rattle.tpm_types_common.specs.declared.session_type.SessionType.{SessionType}
use Rattle.tpm_types_common.specs.declared.session_type.SessionType.TheVariants as type
use Rattle.tpm_types_common.specs.declared.symmetric.SymmetricDefinition.{SymmetricDefinition}
use Rattle.tpm_types_command.specs.AuthEntry.{Entry}
use Rattle.tpm_commands.specs.declared.command_code.CommandCode.{CommandCode}
use Rattle.tpm_commands.specs.declared.command_code.CommandCode.TheVariants as command
use Rattle.tpm_auth.specs.declared.session_grant.Grant.{Grant}
use Rattle.tpm_record.specs.rows.Refusals.{handle_refusal}
use Rattle.tpm_record.specs.rows.Request.{first_handle}
use Rattle.tpm_actions_device.specs.FlushContext.{flushed_handle}
use Rattle.tpm_actions_device.specs.StartAuthSession.{Parameters, parameters_in}
use Rattle.tpm_actions_policy.specs.Assertions.{session_handle}
use Rattle.tpm_step.specs.rows.Draws.{draws_of}
use Rattle.tpm_policy_meaning.specs.Asserted.{evaluated_policy}
use Rattle.tpm_step.specs.history.AuthValues.{auth_of}
use Rattle.tpm_step.specs.history.HandleMap.{by_handle, changed_at, with_at}
use Rattle.tpm_step.specs.history.History.{AcceptedCommand, Done, History, ObjectPlaced, PowerCycled}
use Rattle.tpm_step.specs.history.Policies.{assertion_by, with_assertion}
use Rattle.tpm_step.specs.history.View.{View, view_name}
use Rattle.tpm_step.specs.history.Views.{view_protection}

-- the entity to which a session is bound, as it was when the session started: its Name, its
-- authorization value, and its protection against dictionary attacks
pub record Bound : Type 0 where
  pub name : List ℕ
  pub auth_value : List ℕ
  pub protection : Protection

-- a live session. Its type, hash, symmetric algorithm, binding and key do not change after its
-- start. It contains the latest nonceTPM, and the earlier nonceTPMs, the latest first. Its
-- assertions, the latest first, are those made since its start, its latest TPM2_PolicyRestart, or
-- its latest use for authorization, whichever came last
pub record LiveSession : Type 0 where
  pub kind : SessionType
  pub hash : HashAlg
  pub symmetric : SymmetricDefinition
  pub bound : Option Bound
  pub key : List ℕ
  pub nonce_tpm : List ℕ
  pub earlier_nonces : List (List ℕ)
  pub assertions : List Assertion

-- the policy of a live session: its digest, and the values that are checked when the session
-- authorizes a command
abbrev pub policy_in : LiveSession → Policy
policy_in s = evaluated_policy s.hash (is_trial s.kind) s.assertions

-- for each handle, the live session at this handle, if any
abbrev pub LiveSessions : Type 0
LiveSessions = Handle → Option LiveSession

-- the live sessions after the session at this handle, if any, is changed
abbrev pub changed_session : (LiveSession → LiveSession) → Handle → LiveSessions → LiveSessions
changed_session change handle live = changed_at handle (option_map change) live

abbrev pub without_session : Handle → LiveSessions → LiveSessions
without_session handle live = with_at handle None live

-- ---- the start of a session

-- the binding of a new session: the entity that the command's second handle names, unless this
-- handle is TPM_RH_NULL
abbrev pub bound_in : List Handle → List View → (auth_values : List (List ℕ)) → Option Bound
bound_in (key ∷ bind ∷ handles) (key_view ∷ view ∷ views) (key_value ∷ value ∷ values) =
    if bind.number == null_handle.number then None
    else Some (record {
      name = view_name view;
      auth_value = value;
      protection = view_protection view;
    })
bound_in handles views values = None

-- the session key: KDFa(authHash, bind.authValue, "ATH", nonceTPM, nonceCaller, digest size in
-- bits); empty for a session without a binding
unfoldable pub start_key : HashAlg → Option Bound → (nonce_tpm nonce_caller : List ℕ) → List ℕ
start_key hash None nonce_tpm nonce_caller = []
start_key hash (Some bound) nonce_tpm nonce_caller =
    kdfa_of hash bound.auth_value key_label nonce_tpm nonce_caller (digest_size hash)

abbrev pub started_with : Parameters → Option Bound → (nonce_tpm : List ℕ) → LiveSession
started_with p bound nonce_tpm = record {
  kind = p.kind;
  hash = p.hash;
  symmetric = p.symmetric;
  bound = bound;
  key = start_key p.hash bound nonce_tpm p.nonce_caller;
  nonce_tpm = nonce_tpm;
  earlier_nonces = [];
  assertions = [];
}

-- A new session has no earlier nonceTPM and no assertion.
pub record IsNewSession (s : LiveSession) : Type 0 where
  pub no_earlier : s.earlier_nonces ≡ []
  pub no_assertion : s.assertions ≡ []

-- the session that TPM2_StartAuthSession starts; its nonceTPM consists of the first random bytes,
-- and has the size of nonceCaller
abbrev pub started_by : Result Parameters Refused → Option Bound → (random : List ℕ)
    → Option LiveSession
started_by (Ok p) bound random = Some (started_with p bound (take (length p.nonce_caller) random))
started_by (Err e) bound random = None

-- the session that a command starts, given the authorization values of its handles before the
-- command
unfoldable pub started_session : AcceptedCommand → (auth_values : List (List ℕ))
    → Option LiveSession
started_session c auth_values = started_by (parameters_in c.request.parameters)
    (bound_in c.request.handles c.views auth_values) c.request.random

-- ---- what a command does to sessions, apart from the effects of its entries

-- the live sessions after TPM2_StartAuthSession, with a new session at the handle that the command
-- returns
abbrev pub with_started : AcceptedCommand → History → LiveSessions → LiveSessions
with_started c history live =
    by_handle (ok_or c.answer.handle handle_refusal)
    (λ handle. with_at handle (started_session c (map (auth_of history) c.request.handles))) live

-- a live session after a command that makes an assertion on it
abbrev pub asserted_by : CommandCode → AcceptedCommand → History → LiveSession → LiveSession
asserted_by code c history s = record s {
  assertions = with_assertion (assertion_by code c history s.hash s.nonce_tpm) s.assertions;
}

abbrev pub with_asserted : CommandCode → AcceptedCommand → History → LiveSessions → LiveSessions
with_asserted code c history live =
    by_handle (session_handle code c.request.handles)
    (changed_session (asserted_by code c history)) live

-- a live session without its assertions
abbrev pub restarted_session : LiveSession → LiveSession
restarted_session s = record s { assertions = [] }

-- the live sessions after a command with this code. TPM2_FlushContext ends a session, and
-- TPM2_PolicyRestart clears the assertions of a session. Apart from these two commands, only
-- TPM2_StartAuthSession and the assertion commands change a session
abbrev pub sessions_by : CommandCode → AcceptedCommand → History → LiveSessions → LiveSessions
sessions_by command.StartAuthSession c history live = with_started c history live
sessions_by command.FlushContext c history live =
    by_handle (flushed_handle c.request.parameters) without_session live
sessions_by command.PolicyRestart c history live =
    by_handle (first_handle c.request.handles) (changed_session restarted_session) live
sessions_by command.PolicyPcr c history live = with_asserted command.PolicyPcr c history live
sessions_by command.PolicyOr c history live = with_asserted command.PolicyOr c history live
sessions_by command.PolicyAuthValue c history live =
    with_asserted command.PolicyAuthValue c history live
sessions_by command.PolicyPassword c history live =
    with_asserted command.PolicyPassword c history live
sessions_by command.PolicyCommandCode c history live =
    with_asserted command.PolicyCommandCode c history live
sessions_by command.PolicyCpHash c history live = with_asserted command.PolicyCpHash c history live
sessions_by command.PolicyNvWritten c history live =
    with_asserted command.PolicyNvWritten c history live
sessions_by command.PolicyLocality c history live =
    with_asserted command.PolicyLocality c history live
sessions_by command.PolicySecret c history live = with_asserted command.PolicySecret c history live
sessions_by command.PolicyNv c history live = with_asserted command.PolicyNv c history live
sessions_by _ c history live = live

-- ---- entries that name sessions

-- live sessions with new nonces, and the remaining random bytes
pub record Rolled : Type 0 where
  pub sessions : LiveSessions
  pub left : List ℕ

abbrev pub with_nonce : List ℕ → LiveSession → LiveSession
with_nonce nonce s =
    record s { nonce_tpm = nonce; earlier_nonces = s.nonce_tpm ∷ s.earlier_nonces }

-- the size of a session's next nonceTPM, which is the size of the latest nonceTPM; 0 if there is no
-- session
abbrev pub nonce_size : Option LiveSession → ℕ
nonce_size session = option_map_or (λ (s : LiveSession). length s.nonce_tpm) session 0

abbrev pub entry_rolled : LiveSessions → Entry → List ℕ → Rolled
entry_rolled live e left =
    let size : ℕ = nonce_size (live e.session) in
    record {
      sessions = changed_session (with_nonce (take size left)) e.session live;
      left = drop size left;
    }

abbrev pub entries_rolled : LiveSessions → List Entry → List ℕ → Rolled
entries_rolled live [] left = record { sessions = live; left = left }
entries_rolled live (e ∷ es) left =
    let first = entry_rolled live e left in entries_rolled first.sessions es first.left

-- the session after it authorized a handle: a policy session loses its assertions; an HMAC session
-- and a trial session are unchanged
abbrev pub used_by : SessionType → LiveSession → LiveSession
used_by type.Hmac s = s
used_by type.Policy s = restarted_session s
used_by type.Trial s = s

abbrev pub used_session : LiveSession → LiveSession
used_session s = used_by s.kind s

-- the live sessions after an entry of a command; without continueSession, the entry's session ends
abbrev pub entry_ended : LiveSessions → Entry → Option Grant → LiveSessions
entry_ended live e grant =
    if continues_session e.attributes
    then (if is_some grant then changed_session used_session e.session live else live)
    else without_session e.session live

abbrev pub entries_ended : LiveSessions → List (Entry × Option Grant) → LiveSessions
entries_ended live granted = fold (λ live g. entry_ended live g.0 g.1) live granted

-- ---- the sessions after a history

-- the live sessions with the new nonces of a command's entries, in the order of the entries. In the
-- event's random bytes, the nonces come after the bytes that the command itself draws
abbrev pub rolled_by : AcceptedCommand → History → LiveSessions → Rolled
rolled_by c history live =
    entries_rolled (sessions_by c.command.code c history live) c.command.entries
    (drop (draws_of c.command.code c.request) c.request.random)

-- the live sessions after a history. If a command both makes an assertion on a session and uses it,
-- the assertion comes first
abbrev pub sessions_of : History → LiveSessions
sessions_of [] handle = None
sessions_of (Done c ∷ history) handle =
    entries_ended (rolled_by c history (sessions_of history)).sessions
    (zip c.command.entries c.grants) handle
sessions_of (PowerCycled ∷ history) handle = None
sessions_of (ObjectPlaced at object ∷ history) handle = sessions_of history handle

-- the latest nonceTPM of the session at a handle
abbrev pub nonce_of : History → Handle → Option (List ℕ)
nonce_of history handle = option_map (λ (s : LiveSession). s.nonce_tpm) (sessions_of history handle)

-- the key of the session at a handle
abbrev pub key_of : History → Handle → Option (List ℕ)
key_of history handle = option_map (λ (s : LiveSession). s.key) (sessions_of history handle)

-- the policy of the session at a handle
abbrev pub policy_of : History → Handle → Option Policy
policy_of history handle = option_map policy_in (sessions_of history handle)

-- how a session was started: its type, its hash, its symmetric algorithm, and its binding
pub record Start : Type 0 where
  pub kind : SessionType
  pub hash : HashAlg
  pub symmetric : SymmetricDefinition
  pub bound : Option Bound

abbrev pub start_in : LiveSession → Start
start_in s = record { kind = s.kind; hash = s.hash; symmetric = s.symmetric; bound = s.bound }

abbrev pub start_of : History → Handle → Option Start
start_of history handle = option_map start_in (sessions_of history handle)
