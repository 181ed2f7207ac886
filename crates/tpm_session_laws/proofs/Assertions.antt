-- After an event that satisfies `LeavesNoAssertion`, no earlier assertion of the session is still
-- in effect.
use Rattle.std.proofs.Common.{◌≡◌, ◌⊎◌, ℕ, Bool, true, false, cond, List, [], ◌∷◌, ◌++◌, length, take, drop, map, Option, Some, None, option_map, Result, Ok, Err, refl, ap, sym, subst, ◌∙◌, inl, inr}
use Rattle.std.specs.Prelude.{is_some, ok_or}
use Rattle.std.specs.List.{zip}
use Rattle.std.proofs.lemmas.Bool.{cases_eq}
use Rattle.tpm_policy.specs.Assertion.{Assertion}
use Rattle.tpm_policy_meaning.specs.Asserted.{IsAmong}
use Rattle.tpm_types_common.specs.SessionAttributes.{continues_session}
use Rattle.tpm_types_common.specs.declared.handle.Handle.{Handle}
use Rattle.tpm_types_common.specs.declared.refused.Refused.{Refused}
use Rattle.tpm_types_common.specs.declared.session_type.SessionType.{SessionType}
use Rattle.tpm_types_common.specs.declared.session_type.SessionType.TheVariants as type
use Rattle.tpm_types_command.specs.AuthEntry.{Entry}
use Rattle.tpm_commands.specs.declared.command_code.CommandCode.{CommandCode}
use Rattle.tpm_commands.specs.declared.command_code.CommandCode.TheVariants as command
use Rattle.tpm_auth.specs.declared.session_grant.Grant.{Grant}
use Rattle.tpm_record.specs.rows.Refusals.{handle_refusal}
use Rattle.tpm_record.specs.rows.Request.{first_handle}
use Rattle.tpm_actions_device.specs.StartAuthSession.{Parameters, parameters_in}
use Rattle.tpm_step.specs.uses.AssertedBy.{Stands, StandsThrough}
use Rattle.tpm_step.specs.history.AuthValues.{auth_of}
use Rattle.tpm_step.specs.history.HandleMap.{by_handle, with_at}
use Rattle.tpm_step.specs.history.History.{AcceptedCommand, Done, History, ObjectPlaced, PastEvent, PowerCycled}
use Rattle.tpm_step.specs.history.Sessions.{Bound, LiveSession, LiveSessions, bound_in, changed_session, entries_ended, entries_rolled, entry_ended, entry_rolled, nonce_size, restarted_session, rolled_by, sessions_by, sessions_of, started_by, started_session, used_by, used_session, with_nonce, with_started, without_session}
use Rattle.tpm_step.specs.rows.Draws.{draws_of}
use Rattle.tpm_step.proofs.history.HandleMap.{at_other, at_same, same_handle}
use Rattle.tpm_session_laws.specs.Assertions.{LeavesNoAssertion, NoneStandsThrough}

-- The session does not exist, or it has no assertions.
abbrev IsBare : Option LiveSession → Type 0
IsBare None = Unit {0}
IsBare (Some s) = s.assertions ≡ []

-- The change adds no assertion to a session without assertions.
abbrev AddsNone : (LiveSession → LiveSession) → Type 0
AddsNone change = (s : LiveSession) → s.assertions ≡ [] → (change s).assertions ≡ []

bare_changed : (change : LiveSession → LiveSession) → AddsNone change → (found : Option LiveSession)
    → IsBare found → IsBare (option_map change found)
bare_changed change adds None bare = tt
bare_changed change adds (Some s) bare = adds s bare

bare_restarted : (found : Option LiveSession) → IsBare (option_map restarted_session found)
bare_restarted None = tt
bare_restarted (Some s) = refl

put_bare : (handle other : Handle) (x : Option LiveSession) (live : LiveSessions)
    → (other.number ≡ handle.number → IsBare x) → IsBare (live other)
    → IsBare (with_at handle x live other)
put_bare handle other x live here elsewhere =
    elim (cases_eq other.number handle.number) [
      | inl same ↦ subst IsBare (sym (at_same handle other x live same)) (here same)
      | inr apart ↦ subst IsBare (sym (at_other handle other x live apart)) elsewhere
    ]

changed_bare : (change : LiveSession → LiveSession) → AddsNone change
    → (handle other : Handle) (live : LiveSessions) → IsBare (live other)
    → IsBare (changed_session change handle live other)
changed_bare change adds handle other live bare =
    put_bare handle other (option_map change (live handle)) live
    (λ same. bare_changed change adds (live handle)
    (subst (λ (h : Handle). IsBare (live h)) (same_handle other handle same) bare))
    bare

-- ---- the effect of entries on assertions

used_none : AddsNone used_session
used_none s bare = by s.kind
  where
    by : (kind : SessionType) → (used_by kind s).assertions ≡ []
    by type.Hmac = bare
    by type.Policy = refl
    by type.Trial = bare

end_bare : (live : LiveSessions) (e : Entry) (grant : Option Grant) (handle : Handle)
    → IsBare (live handle) → IsBare (entry_ended live e grant handle)
end_bare live e grant handle bare = by (continues_session e.attributes) (is_some grant)
  where
    by : (continues grants : Bool)
        → IsBare (cond continues (cond grants (changed_session used_session e.session live) live)
        (without_session e.session live) handle)
    by true true = changed_bare used_session used_none e.session handle live bare
    by true false = bare
    by false grants = put_bare e.session handle None live (λ same. tt) bare

ends_bare : (live : LiveSessions) (granted : List (Entry × Option Grant)) (handle : Handle)
    → IsBare (live handle) → IsBare (entries_ended live granted handle)
ends_bare live [] handle bare = bare
ends_bare live (g ∷ granted) handle bare =
    ends_bare (entry_ended live g.0 g.1) granted handle (end_bare live g.0 g.1 handle bare)

rolls_bare : (live : LiveSessions) (es : List Entry) (left : List ℕ) (handle : Handle)
    → IsBare (live handle) → IsBare ((entries_rolled live es left).sessions handle)
rolls_bare live [] left handle bare = bare
rolls_bare live (e ∷ es) left handle bare =
    let first = entry_rolled live e left in
    rolls_bare first.sessions es first.left handle
    (changed_bare (with_nonce (take (nonce_size (live e.session)) left)) (λ s none. none) e.session
    handle live bare)

-- ---- the effect of commands on assertions

begun_bare : (p : Result Parameters Refused) (bound : Option Bound) (random : List ℕ)
    → IsBare (started_by p bound random)
begun_bare (Ok p) bound random = refl
begun_bare (Err e) bound random = tt

started_bare : (c : AcceptedCommand) (auth_values : List (List ℕ))
    → IsBare (started_session c auth_values)
unfolding started_session
started_bare c auth_values =
    begun_bare (parameters_in c.request.parameters) (bound_in c.request.handles c.views auth_values)
    c.request.random

restart_bare : (named : Result Handle Refused) (handle : Handle) (live : LiveSessions)
    → named ≡ Ok handle → IsBare (by_handle named (changed_session restarted_session) live handle)
restart_bare named handle live is =
    subst (λ (n : Result Handle Refused). IsBare
    (by_handle n (changed_session restarted_session) live handle)) (sym is)
    (subst IsBare
    (sym (at_same handle handle (option_map restarted_session (live handle)) live refl))
    (bare_restarted (live handle)))

start_bare : (made : Option Handle) (handle : Handle) (new : Option LiveSession)
    (live : LiveSessions) → made ≡ Some handle → IsBare new
    → IsBare (by_handle (ok_or made handle_refusal) (λ at. with_at at new) live handle)
start_bare made handle new live is bare =
    subst (λ (m : Option Handle). IsBare
    (by_handle (ok_or m handle_refusal) (λ at. with_at at new) live handle)) (sym is)
    (subst IsBare (sym (at_same handle handle new live refl)) bare)

module _ (c : AcceptedCommand) (history : History) (handle : Handle) where
  abbrev RowBare : CommandCode → Type 0
  RowBare code = IsBare (sessions_by code c history (sessions_of history) handle)

  row_bare : LeavesNoAssertion (Done c) handle → RowBare c.command.code
  row_bare (inl (code, named)) =
      subst RowBare (sym code)
      (restart_bare (first_handle c.request.handles) handle (sessions_of history) named)
  row_bare (inr (code, answered)) =
      subst RowBare (sym code)
      (start_bare c.answer.handle handle
      (started_session c (map (auth_of history) c.request.handles)) (sessions_of history)
      answered (started_bare c (map (auth_of history) c.request.handles)))

  done_bare : LeavesNoAssertion (Done c) handle → IsBare (sessions_of (Done c ∷ history) handle)
  done_bare leaves =
      ends_bare (rolled_by c history (sessions_of history)).sessions
      (zip c.command.entries c.grants) handle
      (rolls_bare (sessions_by c.command.code c history (sessions_of history)) c.command.entries
      (drop (draws_of c.command.code c.request) c.request.random) handle (row_bare leaves))

event_bare : (event : PastEvent) (history : History) (handle : Handle)
    → LeavesNoAssertion event handle → IsBare (sessions_of (event ∷ history) handle)
event_bare (Done c) history handle leaves = done_bare c history handle leaves
event_bare PowerCycled history handle leaves = tt
event_bare (ObjectPlaced at object) history handle leaves = absurd leaves

among_none : (one : Assertion) (assertions : List Assertion) → assertions ≡ []
    → IsAmong one assertions → ⊥
among_none one [] none among = among
among_none one (a ∷ assertions) none among = absurd cc

none_stands : (one : Assertion) (handle : Handle) (history : History)
    → IsBare (sessions_of history handle) → Stands one handle history → ⊥
none_stands one handle history bare (s, lives, among) =
    among_none one s.assertions (subst IsBare lives bare) among

pub none_stands_through : NoneStandsThrough
none_stands_through one handle [] event earlier before leaves stands =
    none_stands one handle (event ∷ earlier ++ before)
    (event_bare event (earlier ++ before) handle leaves) stands.0
none_stands_through one handle (later ∷ since) event earlier before leaves stands =
    none_stands_through one handle since event earlier before leaves stands.1
