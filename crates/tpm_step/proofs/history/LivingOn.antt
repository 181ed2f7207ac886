-- A session that exists after an event also existed before it, or the event started it.
use Rattle.std.proofs.Common.{◌≡◌, ◌⊎◌, ◌≤◌, ℕ, zero, suc, arith, Bool, true, false, cond, List, [], ◌∷◌, length, take, drop, map, Option, Some, None, option_map, Result, Ok, Err, slice_get, refl, ap, sym, subst, ◌∙◌, inl, inr}
use Rattle.std.specs.Prelude.{is_some, ok_or}
use Rattle.std.specs.List.{zip}
use Rattle.std.proofs.lemmas.Bool.{cases_eq, eq-eqb}
use Rattle.std.proofs.lemmas.List.{length-drop, length-take}
use Rattle.tpm_types_common.specs.SessionAttributes.{continues_session}
use Rattle.tpm_types_common.specs.declared.handle.Handle.{Handle}
use Rattle.tpm_types_common.specs.declared.refused.Refused.{Refused}
use Rattle.tpm_types_common.specs.declared.session_type.SessionType.{SessionType}
use Rattle.tpm_types_common.specs.declared.session_type.SessionType.TheVariants as type
use Rattle.tpm_types_command.specs.AuthEntry.{Entry}
use Rattle.tpm_commands.specs.declared.command_code.CommandCode.{CommandCode}
use Rattle.tpm_commands.specs.declared.command_code.CommandCode.TheVariants as command
use Rattle.tpm_auth.specs.declared.session_grant.Grant.{Grant}
use Rattle.tpm_record.specs.rows.Refusals.{handle_refusal}
use Rattle.tpm_record.specs.rows.Request.{first_handle}
use Rattle.tpm_actions_device.specs.FlushContext.{flushed_handle}
use Rattle.tpm_actions_device.specs.StartAuthSession.{Parameters, parameters_in}
use Rattle.tpm_actions_policy.specs.Assertions.{asserts, session_handle}
use Rattle.tpm_step.specs.rows.Draws.{draws_of}
use Rattle.tpm_policy_meaning.specs.Asserted.{IsAmong}
use Rattle.tpm_step.specs.history.AuthValues.{auth_of}
use Rattle.tpm_step.specs.history.HandleMap.{by_handle, with_at}
use Rattle.tpm_step.specs.history.History.{AcceptedCommand, Done, History}
use Rattle.tpm_step.specs.uses.Replays.{starts_under}
use Rattle.tpm_step.specs.history.Sessions.{Bound, LiveSession, LiveSessions, asserted_by, bound_in, changed_session, entries_ended, entries_rolled, entry_ended, entry_rolled, nonce_size, restarted_session, rolled_by, sessions_by, sessions_of, started_by, started_session, started_with, used_by, used_session, with_asserted, with_nonce, with_started, without_session}
use Rattle.tpm_step.proofs.history.HandleMap.{at_other, at_same, same_handle}

-- ---- the same session at two times

-- all nonces that a session has had
abbrev pub all_nonces : LiveSession → List (List ℕ)
all_nonces s = s.nonce_tpm ∷ s.earlier_nonces

-- Both values are the same session, at an earlier and a later time. The type, the hash and the size
-- of the session's nonces are the same. The session still has every nonce that it had before.
pub record Continues (old new : LiveSession) : Type 0 where
  pub kind : new.kind ≡ old.kind
  pub hash : new.hash ≡ old.hash
  pub size : length new.nonce_tpm ≡ length old.nonce_tpm
  pub latest : IsAmong old.nonce_tpm (all_nonces new)
  pub earlier : (nonce : List ℕ) → IsAmong nonce old.earlier_nonces
      → IsAmong nonce new.earlier_nonces

pub continues_self : (s : LiveSession) → Continues s s
continues_self s = record {
  kind = refl;
  hash = refl;
  size = refl;
  latest = inl refl;
  earlier =
      λ nonce among. among;
}

pub continues_then : (a b c : LiveSession) → Continues a b → Continues b c → Continues a c
continues_then a b c first then = record {
  kind = then.kind ∙ first.kind;
  hash = then.hash ∙ first.hash;
  size = then.size ∙ first.size;
  latest = by first.latest;
  earlier = λ nonce among. then.earlier nonce (first.earlier nonce among);
}
  where
    by : IsAmong a.nonce_tpm (all_nonces b) → IsAmong a.nonce_tpm (all_nonces c)
    by (inl same) = subst (λ (nonce : List ℕ). IsAmong nonce (all_nonces c)) (sym same) then.latest
    by (inr among) = inr (then.earlier a.nonce_tpm among)

-- Both values are the same session, at an earlier and a later time. At the later time, the session
-- has the same assertions as before, or none.
pub record Keeps (old new : LiveSession) : Type 0 where
  pub continues : Continues old new
  pub asserted : (new.assertions ≡ old.assertions) ⊎ (new.assertions ≡ [])

keeps_self : (s : LiveSession) → Keeps s s
keeps_self s = record { continues = continues_self s; asserted = inl refl }

keeps_then : (a b c : LiveSession) → Keeps a b → Keeps b c → Keeps a c
keeps_then a b c first then =
    record {
      continues = continues_then a b c first.continues then.continues;
      asserted =
          by first.asserted then.asserted;
    }
  where
    by : (b.assertions ≡ a.assertions) ⊎ (b.assertions ≡ []) → (c.assertions ≡ b.assertions)
        ⊎ (c.assertions ≡ []) → (c.assertions ≡ a.assertions) ⊎ (c.assertions ≡ [])
    by first (inr none) = inr none
    by (inl was) (inl same) = inl (same ∙ was)
    by (inr none) (inl same) = inr (same ∙ none)

-- There was a session before the event, and the relation R holds between that session and the new
-- session.
abbrev pub Was : (LiveSession → LiveSession → Type 0) → Option LiveSession → LiveSession → Type 0
Was R found new = (old : LiveSession) × (found ≡ Some old) × R old new

abbrev Kept : Option LiveSession → LiveSession → Type 0
Kept found new = Was Keeps found new

there : (found : Option LiveSession) (new : LiveSession) → found ≡ Some new → Kept found new
there found new is = (new, is, keeps_self new)

was_then : (found : Option LiveSession) (later : Option LiveSession) (new : LiveSession)
    → ((mid : LiveSession) → later ≡ Some mid → Kept found mid) → Kept later new → Kept found new
was_then found later new back (mid, is, keeps) =
    let (old, was, before) = back mid is in (old, was, keeps_then old mid new before keeps)

-- ---- replacing the session at a handle

put_came : (P : Type 0) (handle other : Handle) (x : Option LiveSession) (live : LiveSessions)
    (new : LiveSession) → (other.number ≡ handle.number → x ≡ Some new → P)
    → (live other ≡ Some new → P) → with_at handle x live other ≡ Some new → P
put_came P handle other x live new here elsewhere is =
    elim (cases_eq other.number handle.number) [
      | inl same ↦ here same (sym (at_same handle other x live same) ∙ is)
      | inr apart ↦ elsewhere (sym (at_other handle other x live apart) ∙ is)
    ]

changed_from : (change : LiveSession → LiveSession) (found : Option LiveSession) (new : LiveSession)
    → option_map change found ≡ Some new → (old : LiveSession) × (found ≡ Some old)
    × (change old ≡ new)
changed_from change (Some old) new is = (old, refl, cc)
changed_from change None new is = absurd cc

changed_kept : (change : LiveSession → LiveSession) (handle other : Handle) (live : LiveSessions)
    (new : LiveSession) → ((s : LiveSession) → live handle ≡ Some s → Keeps s (change s))
    → changed_session change handle live other ≡ Some new → Kept (live other) new
changed_kept change handle other live new keeps is =
    put_came (Kept (live other) new) handle other (option_map change (live handle)) live new
    (λ same changed.
    let (old, found, made) = changed_from change (live handle) new changed in (
      old,
      ap live (same_handle other handle same) ∙ found,
      subst (Keeps old) made (keeps old found),
    ))
    (there (live other) new) is

ended_kept : (handle other : Handle) (live : LiveSessions) (new : LiveSession)
    → without_session handle live other ≡ Some new → Kept (live other) new
ended_kept handle other live new is =
    put_came (Kept (live other) new) handle other None live new (λ same none. absurd cc)
    (there (live other) new) is

restarts : (s : LiveSession) → Keeps s (restarted_session s)
restarts s =
    record {
      continues =
          record {
            kind = refl;
            hash = refl;
            size = refl;
            latest = inl refl;
            earlier =
                λ nonce among. among;
          };
      asserted = inr refl;
    }

-- ---- the effect of a single entry on sessions

uses : (kind : SessionType) (s : LiveSession) → Keeps s (used_by kind s)
uses type.Hmac s = keeps_self s
uses type.Policy s = restarts s
uses type.Trial s = keeps_self s

entry_end_kept : (live : LiveSessions) (e : Entry) (grant : Option Grant) (handle : Handle)
    (new : LiveSession) → entry_ended live e grant handle ≡ Some new → Kept (live handle) new
entry_end_kept live e grant handle new is = by (continues_session e.attributes) (is_some grant) is
  where
    by : (continues grants : Bool)
        → cond continues (cond grants (changed_session used_session e.session live) live)
        (without_session e.session live) handle ≡ Some new → Kept (live handle) new
    by true true is = changed_kept used_session e.session handle live new (λ s found. uses s.kind s)
        is
    by true false is = there (live handle) new is
    by false grants is = ended_kept e.session handle live new is

ends_kept : (live : LiveSessions) (granted : List (Entry × Option Grant)) (handle : Handle)
    (new : LiveSession) → entries_ended live granted handle ≡ Some new → Kept (live handle) new
ends_kept live [] handle new is = there (live handle) new is
ends_kept live (g ∷ granted) handle new is =
    let first = entry_ended live g.0 g.1 in
    was_then (live handle) (first handle) new (entry_end_kept live g.0 g.1 handle)
    (ends_kept first granted handle new is)

-- A session with a new nonce is still the same session, if enough random bytes were left for the
-- whole nonce.
renews : (s : LiveSession) (size : ℕ) (left : List ℕ) → size ≡ length s.nonce_tpm
    → size ≤ length left → Keeps s (with_nonce (take size left) s)
renews s size left is enough = record {
  continues = record {
    kind = refl;
    hash = refl;
    size = omega (arith, length-take size left, is, enough);
    latest = inr (inl refl);
    earlier = λ nonce among. inr among;
  };
  asserted = inl refl;
}

size_of : (found : Option LiveSession) (s : LiveSession) → found ≡ Some s
    → nonce_size found ≡ length s.nonce_tpm
size_of found s is = ap nonce_size is

roll_kept : (live : LiveSessions) (e : Entry) (left : List ℕ) (handle : Handle) (new : LiveSession)
    → nonce_size (live e.session) ≤ length left
    → (entry_rolled live e left).sessions handle ≡ Some new → Kept (live handle) new
roll_kept live e left handle new enough is =
    let size : ℕ = nonce_size (live e.session) in
    changed_kept (with_nonce (take size left)) e.session handle live new
    (λ s found. renews s size left (size_of (live e.session) s found) enough) is

rolled_less : (live : LiveSessions) (es : List Entry) (left : List ℕ)
    → length (entries_rolled live es left).left ≤ length left
rolled_less live [] left = omega arith
rolled_less live (e ∷ es) left =
    let first = entry_rolled live e left in
    omega (
      arith,
      rolled_less first.sessions es first.left,
      length-drop (nonce_size (live e.session)) left,
    )

-- If random bytes are left after all nonces were drawn, there were enough for the first nonce.
enough_first : (live : LiveSessions) (e : Entry) (es : List Entry) (left : List ℕ)
    → 1 ≤ length (entries_rolled live (e ∷ es) left).left
    → nonce_size (live e.session) ≤ length left
enough_first live e es left some =
    let first = entry_rolled live e left in
    omega (
      arith,
      some,
      rolled_less first.sessions es first.left,
      length-drop (nonce_size (live e.session)) left,
    )

rolls_kept : (live : LiveSessions) (es : List Entry) (left : List ℕ) (handle : Handle)
    (new : LiveSession) → 1 ≤ length (entries_rolled live es left).left
    → (entries_rolled live es left).sessions handle ≡ Some new → Kept (live handle) new
rolls_kept live [] left handle new some is = there (live handle) new is
rolls_kept live (e ∷ es) left handle new some is =
    let first = entry_rolled live e left in
    was_then (live handle) (first.sessions handle) new
    (λ mid was. roll_kept live e left handle mid (enough_first live e es left some) was)
    (rolls_kept first.sessions es first.left handle new some is)

-- ---- entries that name the session

-- The session existed before the command, and the command kept it (`Keeps`). The nonce that the
-- session had before the command is now one of its earlier nonces.
abbrev Renewed : Option LiveSession → LiveSession → Type 0
Renewed found new = (old : LiveSession) × (found ≡ Some old) × Keeps old new
    × IsAmong old.nonce_tpm new.earlier_nonces

renewed_first : (live : LiveSessions) (e : Entry) (left : List ℕ) (mid : LiveSession)
    → nonce_size (live e.session) ≤ length left
    → (entry_rolled live e left).sessions e.session ≡ Some mid → Renewed (live e.session) mid
renewed_first live e left mid enough is =
    let size : ℕ = nonce_size (live e.session) in
    let (old, found, made) =
    changed_from (with_nonce (take size left)) (live e.session) mid
    (sym
    (at_same e.session e.session (option_map (with_nonce (take size left)) (live e.session))
    live refl) ∙ is) in (
      old,
      found,
      subst (Keeps old) made
          (renews old size left (size_of (live e.session) old found) enough),
      subst (λ (s : LiveSession). IsAmong old.nonce_tpm s.earlier_nonces) made (inl refl),
    )

rolls_renewed : (live : LiveSessions) (es : List Entry) (left : List ℕ) (place : ℕ) (e : Entry)
    (new : LiveSession) → slice_get es place ≡ Some e
    → 1 ≤ length (entries_rolled live es left).left
    → (entries_rolled live es left).sessions e.session ≡ Some new → Renewed (live e.session) new
rolls_renewed live [] left place e new at some is = absurd cc
rolls_renewed live (x ∷ es) left zero e new at some is =
    let same : x ≡ e = cc in
    let first = entry_rolled live x left in
    let (mid, was, later) = rolls_kept first.sessions es first.left e.session new some is in
    let first_was : first.sessions x.session ≡ Some mid =
    ap (λ (y : Entry). first.sessions y.session) same ∙ was in
    let (old, found, keeps, among) =
    renewed_first live x left mid (enough_first live x es left some) first_was in (
      old,
      ap (λ (y : Entry). live y.session) (sym same) ∙ found,
      keeps_then old mid new keeps later,
      later.continues.earlier old.nonce_tpm among,
    )
rolls_renewed live (x ∷ es) left (suc place) e new at some is =
    let first = entry_rolled live x left in
    let (mid, was, later, among) =
    rolls_renewed first.sessions es first.left place e new at some is in
    let (old, found, keeps) = roll_kept live x left e.session mid (enough_first live x es left some)
    was in
    (old, found, keeps_then old mid new keeps later, by old mid keeps.continues.latest later among)
  where
    by : (old mid : LiveSession) → IsAmong old.nonce_tpm (all_nonces mid) → Keeps mid new
        → IsAmong mid.nonce_tpm new.earlier_nonces → IsAmong old.nonce_tpm new.earlier_nonces
    by old mid (inl same) later among =
        subst (λ (nonce : List ℕ). IsAmong nonce new.earlier_nonces) (sym same) among
    by old mid (inr had) later among = later.continues.earlier old.nonce_tpm had

-- ---- the effects of a command's entries

module _ (c : AcceptedCommand) (history : History)
    (some : 1 ≤ length (rolled_by c history (sessions_of history)).left) (handle : Handle)
    (new : LiveSession) (is : sessions_of (Done c ∷ history) handle ≡ Some new) where
  abbrev effect : LiveSessions
  effect = sessions_by c.command.code c history (sessions_of history)

  abbrev left : List ℕ
  left = drop (draws_of c.command.code c.request) c.request.random

  abbrev rolled : LiveSessions
  rolled = (rolled_by c history (sessions_of history)).sessions

  pub entries_kept : Kept (effect handle) new
  entries_kept =
      was_then (effect handle) (rolled handle) new
      (λ mid was. rolls_kept effect c.command.entries left handle mid some was)
      (ends_kept rolled (zip c.command.entries c.grants) handle new is)

  pub entries_renewed : (place : ℕ) (e : Entry) → slice_get c.command.entries place ≡ Some e
      → e.session ≡ handle → Renewed (effect handle) new
  entries_renewed place e at names =
      let (mid, was, later) = ends_kept rolled (zip c.command.entries c.grants) handle new is in
      let (old, found, keeps, among) =
      rolls_renewed effect c.command.entries left place e mid at some (ap rolled names ∙ was) in (
        old,
        ap effect (sym names) ∙ found,
        keeps_then old mid new keeps later,
        later.continues.earlier old.nonce_tpm among,
      )

-- ---- the effects of a command's row

-- Where the session at a handle comes from, after a command's row took effect. The command started
-- the session, without assertions; or the session existed before, and has the same assertions or
-- none; or the command added an assertion to the session.
pub data Came (code : CommandCode) (c : AcceptedCommand) (history : History)
    (found : Option LiveSession) (handle : Handle) (new : LiveSession) : Type 0 where
  Begun : starts_under code c.answer.handle handle ≡ true → new.assertions ≡ []
      → Came code c history found handle new
  Stayed : Was Keeps found new → Came code c history found handle new
  Asserted : (old : LiveSession) → found ≡ Some old → asserts code ≡ true
      → session_handle code c.request.handles ≡ Ok handle → asserted_by code c history old ≡ new
      → Came code c history found handle new

begun_empty : (x : Result Parameters Refused) (bound : Option Bound) (random : List ℕ)
    (new : LiveSession) → started_by x bound random ≡ Some new → new.assertions ≡ []
begun_empty (Ok p) bound random new is =
    let same : started_with p bound (take (length p.nonce_caller) random) ≡ new = cc in
    ap (λ (s : LiveSession). s.assertions) (sym same)
begun_empty (Err e) bound random new is = absurd cc

started_empty : (c : AcceptedCommand) (auth_values : List (List ℕ)) (new : LiveSession)
    → started_session c auth_values ≡ Some new → new.assertions ≡ []
unfolding started_session
started_empty c auth_values new is =
    begun_empty (parameters_in c.request.parameters)
    (bound_in c.request.handles c.views auth_values) c.request.random new is

module _ (c : AcceptedCommand) (history : History) (live : LiveSessions) (handle : Handle)
    (new : LiveSession) where
  abbrev CameBy : CommandCode → Type 0
  CameBy code = Came code c history (live handle) handle new

  still : (code : CommandCode) → live handle ≡ Some new → CameBy code
  still code is = Stayed (there (live handle) new is)

  start_came : with_started c history live handle ≡ Some new → CameBy command.StartAuthSession
  start_came is = by c.answer.handle refl is
    where
      told : Option LiveSession
      told = started_session c (map (auth_of history) c.request.handles)

      by : (made : Option Handle) → c.answer.handle ≡ made
          → by_handle (ok_or made handle_refusal) (λ at. with_at at told) live handle ≡ Some new
          → CameBy command.StartAuthSession
      by None answered is = still command.StartAuthSession is
      by (Some made) answered is =
          put_came (CameBy command.StartAuthSession) made handle told live new
          (λ same begun. Begun
          (ap (λ (x : Option Handle). starts_under command.StartAuthSession x handle) answered
          ∙ eq-eqb handle.number made.number same)
          (started_empty c (map (auth_of history) c.request.handles) new begun))
          (still command.StartAuthSession) is

  flush_came : by_handle (flushed_handle c.request.parameters) without_session live handle
      ≡ Some new → CameBy command.FlushContext
  flush_came is = by (flushed_handle c.request.parameters) is
    where
      by : (named : Result Handle Refused) → by_handle named without_session live handle ≡ Some new
          → CameBy command.FlushContext
      by (Err e) is = still command.FlushContext is
      by (Ok at) is = Stayed (ended_kept at handle live new is)

  restart_came : by_handle (first_handle c.request.handles) (changed_session restarted_session) live
      handle ≡ Some new → CameBy command.PolicyRestart
  restart_came is = by (first_handle c.request.handles) is
    where
      by : (named : Result Handle Refused)
          → by_handle named (changed_session restarted_session) live handle ≡ Some new
          → CameBy command.PolicyRestart
      by (Err e) is = still command.PolicyRestart is
      by (Ok at) is =
          Stayed (changed_kept restarted_session at handle live new (λ s found. restarts s) is)

  asserted_came : (code : CommandCode) → asserts code ≡ true
      → with_asserted code c history live handle ≡ Some new → CameBy code
  asserted_came code it_does is = by (session_handle code c.request.handles) refl is
    where
      by : (named : Result Handle Refused) → session_handle code c.request.handles ≡ named
          → by_handle named (changed_session (asserted_by code c history)) live handle ≡ Some new
          → CameBy code
      by (Err e) names is = still code is
      by (Ok at) names is =
          put_came (CameBy code) at handle (option_map (asserted_by code c history) (live at)) live
          new
          (λ same changed.
          let one : handle ≡ at = same_handle handle at same in
          let (old, found, made) =
          changed_from (asserted_by code c history) (live at) new changed in
          Asserted old (ap live one ∙ found) it_does
          (names ∙ ap (λ (x : Handle). let it : Result Handle Refused = Ok x in it) (sym one))
          made)
          (still code) is

  pub row_came : (code : CommandCode) → sessions_by code c history live handle ≡ Some new
      → CameBy code
  row_came command.StartAuthSession is = start_came is
  row_came command.FlushContext is = flush_came is
  row_came command.PolicyRestart is = restart_came is
  row_came command.PolicyPcr is = asserted_came command.PolicyPcr refl is
  row_came command.PolicyOr is = asserted_came command.PolicyOr refl is
  row_came command.PolicyAuthValue is = asserted_came command.PolicyAuthValue refl is
  row_came command.PolicyPassword is = asserted_came command.PolicyPassword refl is
  row_came command.PolicyCommandCode is = asserted_came command.PolicyCommandCode refl is
  row_came command.PolicyCpHash is = asserted_came command.PolicyCpHash refl is
  row_came command.PolicyNvWritten is = asserted_came command.PolicyNvWritten refl is
  row_came command.PolicyLocality is = asserted_came command.PolicyLocality refl is
  row_came command.PolicySecret is = asserted_came command.PolicySecret refl is
  row_came command.PolicyNv is = asserted_came command.PolicyNv refl is
  row_came code is = still code is
