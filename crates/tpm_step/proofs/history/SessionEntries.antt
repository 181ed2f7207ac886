-- After a row, the step has the same effect on the sessions of a device as on those of the history:
-- it draws new nonces, resets policies and ends sessions.
use Rattle.std.proofs.Common.{◌≡◌, ℕ, Bool, true, false, cond, List, [], ◌∷◌, length, take, drop, Option, Some, None, refl, ap, sym, subst, ◌∙◌}
use Rattle.std.specs.Prelude.{not, is_some}
use Rattle.std.specs.List.{zip}
use Rattle.std.specs.Option.{option_map_or}
use Rattle.tpm_policy.specs.State.{starting}
use Rattle.tpm_session.specs.Session.{with_nonce as with_new_nonce}
use Rattle.tpm_session.specs.Sessions.{sessions_after_roll, slots_without_session}
use Rattle.tpm_session.specs.declared.session.Session.{Session}
use Rattle.tpm_types_common.specs.SessionAttributes.{continues_session}
use Rattle.tpm_types_common.specs.declared.session_type.SessionType.{SessionType}
use Rattle.tpm_types_common.specs.declared.session_type.SessionType.TheVariants as type
use Rattle.tpm_types_command.specs.AuthEntry.{Entry}
use Rattle.tpm_types_command.specs.Command.{Whole}
use Rattle.tpm_record.specs.Record.{Record}
use Rattle.tpm_auth.specs.Entries.{session_of}
use Rattle.tpm_auth.specs.declared.session_grant.Grant.{Grant}
use Rattle.tpm_step.specs.step.Answer.{Written, answer_to}
use Rattle.tpm_step.specs.step.Entries as device
use Rattle.tpm_step.specs.step.Entries.{draw_of, restarted_by}
use Rattle.tpm_step.specs.step.Granted.{Granted, granted_entries}
use Rattle.tpm_step.specs.history.DeviceSessions.{AreLive, SessionFacts, facts_of, session_facts}
use Rattle.tpm_step.specs.history.Sessions.{LiveSession, LiveSessions, changed_session, entries_ended, entries_rolled, entry_ended, entry_rolled, nonce_size, used_by, used_session, with_nonce, without_session}
use Rattle.tpm_step.proofs.history.LiveSessions.{ChangesAs, changed_live, ended_live, of_both, of_one, policy_live, unchanged_live}

-- ---- new nonces

size_same : (r : Record) (e : Entry) (live : LiveSessions) → AreLive r.sessions live
    → draw_of r e ≡ nonce_size (live e.session)
unfolding draw_of
size_same r e live are =
    of_both (λ found told. option_map_or (λ (s : Session). length s.nonce_tpm) found 0
    ≡ nonce_size told)
    (λ s l same. ap (λ (f : SessionFacts). length f.nonce_tpm) same) refl (session_of r e)
    (live e.session) (are e.session)

-- After new nonces are drawn, the device and the history have the same sessions and the same
-- remaining random bytes.
abbrev RollAs : Record → List Entry → List ℕ → LiveSessions → List ℕ → Type 0
RollAs r es left live told =
    AreLive (device.entries_rolled r es left).after.sessions (entries_rolled live es told).sessions
    × ((device.entries_rolled r es left).left ≡ (entries_rolled live es told).left)

entry_rolls : (r : Record) (e : Entry) (left : List ℕ) (live : LiveSessions)
    → AreLive r.sessions live → AreLive (device.entry_rolled r e left).after.sessions
    (entry_rolled live e left).sessions
unfolding device.entry_rolled sessions_after_roll
entry_rolls r e left live are =
    let nonce : List ℕ = take (draw_of r e) left in
    subst (λ (n : ℕ). AreLive (sessions_after_roll r.sessions e.session nonce)
    (changed_session (with_nonce (take n left)) e.session live)) (size_same r e live are)
    (changed_live (λ s. with_new_nonce s nonce) (with_nonce nonce) (λ s. refl) r.sessions e.session
    live (λ s found l same. ap (λ (f : SessionFacts). record f { nonce_tpm = nonce }) same)
    are)

entry_leaves : (r : Record) (e : Entry) (left : List ℕ) (live : LiveSessions)
    → AreLive r.sessions live → (device.entry_rolled r e left).left
    ≡ (entry_rolled live e left).left
unfolding device.entry_rolled
entry_leaves r e left live are = ap (λ (n : ℕ). drop n left) (size_same r e live are)

pub entries_roll : (r : Record) (es : List Entry) (left : List ℕ) (live : LiveSessions)
    → AreLive r.sessions live → RollAs r es left live left
entries_roll r [] left live are = (are, refl)
entries_roll r (e ∷ es) left live are =
    let first = device.entry_rolled r e left in
    let told = entry_rolled live e left in
    subst (RollAs first.after es first.left told.sessions) (entry_leaves r e left live are)
    (entries_roll first.after es first.left told.sessions (entry_rolls r e left live are))

-- ---- resetting policies, and ending sessions

used_told : (kind : SessionType) (s : Session) (l : LiveSession) → s.kind ≡ kind
    → session_facts s ≡ facts_of l → facts_of (used_by kind l) ≡ facts_of (used_session l)
used_told kind s l is same =
    ap (λ (k : SessionType). facts_of (used_by k l))
    (sym is ∙ ap (λ (f : SessionFacts). f.start.kind) same)

module _ (r : Record) (e : Entry) (live : LiveSessions) (are : AreLive r.sessions live) where
  restarted_live : (kind : SessionType) (s : Session) → s.kind ≡ kind → session_of r e ≡ Some s
      → AreLive (restarted_by kind r e s.hash).sessions
      (changed_session used_session e.session live)
  restarted_live type.Hmac s is found =
      unchanged_live used_session r.sessions e.session live
      (of_one (ChangesAs (λ s. s) used_session) (session_of r e) s found
      (λ l same. same ∙ used_told type.Hmac s l is same)) are
  restarted_live type.Policy s is found =
      policy_live r.sessions e.session s (starting s.hash) used_session live found
      (λ l same. ap (λ (f : SessionFacts). record f { policy = starting f.start.hash }) same
      ∙ used_told type.Policy s l is same) are
  restarted_live type.Trial s is found =
      unchanged_live used_session r.sessions e.session live
      (of_one (ChangesAs (λ s. s) used_session) (session_of r e) s found
      (λ l same. same ∙ used_told type.Trial s l is same)) are

  used_live : AreLive (device.entry_restarted r e).sessions
      (changed_session used_session e.session live)
  unfolding device.entry_restarted
  used_live = by (session_of r e) refl
    where
      by : (found : Option Session) → session_of r e ≡ found
          → AreLive (option_map_or (λ (s : Session). restarted_by s.kind r e s.hash) found
          r).sessions (changed_session used_session e.session live)
      by (Some s) is = restarted_live s.kind s refl is
      by None is = unchanged_live used_session r.sessions e.session live (λ s found. absurd cc) are

  entry_ends : (grant : Option Grant)
      → AreLive (device.entry_ended r e grant).sessions (entry_ended live e grant)
  unfolding device.entry_ended
  entry_ends grant = by (continues_session e.attributes) (is_some grant)
    where
      by : (continues grants : Bool)
          → AreLive
          (cond (not continues) (record r { sessions = slots_without_session r.sessions e.session })
          (cond grants (device.entry_restarted r e) r)).sessions
          (cond continues (cond grants (changed_session used_session e.session live) live)
          (without_session e.session live))
      by false grants = ended_live r.sessions e.session live are
      by true true = used_live
      by true false = are

entries_end : (r : Record) (granted : List Granted) (live : LiveSessions) → AreLive r.sessions live
    → AreLive (device.entries_ended r granted).sessions (entries_ended live granted)
entries_end r [] live are = are
entries_end r (g ∷ granted) live are =
    entries_end (device.entry_ended r g.0 g.1) granted (entry_ended live g.0 g.1)
    (entry_ends r g.0 live are g.1)

-- ---- answers

pub answer_told : (c : Whole) (grants : List (Option Grant)) (a : Written) (effect : Record)
    (random : List ℕ) (live : LiveSessions) → AreLive effect.sessions live
    → AreLive (answer_to c grants a effect random).after.sessions
    (entries_ended (entries_rolled live c.entries (drop a.drawn random)).sessions
    (zip c.entries grants))
unfolding answer_to
answer_told c grants a effect random live are =
    let left : List ℕ = drop a.drawn random in
    entries_end (device.entries_rolled effect c.entries left).after (granted_entries c grants)
    (entries_rolled live c.entries left).sessions
    (entries_roll effect c.entries left live are).0
