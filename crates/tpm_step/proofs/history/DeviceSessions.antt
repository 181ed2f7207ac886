-- A device has the sessions that its history determines.
use Rattle.std.proofs.Common.{arith, ◌≡◌, ◌⊎◌, ◌≤◌, ℕ, Bool, true, false, cond, List, [], ◌∷◌, length, length-drop, drop, map, Option, Some, None, option_map, refl, ap, sym, subst, ◌∙◌, inl, inr}
use Rattle.std.proofs.lemmas.Bool.{cases_Bool, false≢true}
use Rattle.std.specs.List.{zip}
use Rattle.tpm_session.specs.Sessions.{session_at}
use Rattle.tpm_session.specs.declared.session.Session.{Session}
use Rattle.tpm_types_common.specs.Limits.{session_limit}
use Rattle.tpm_types_common.specs.declared.handle.Handle.{Handle}
use Rattle.tpm_commands.specs.CommandCode.{shape_of}
use Rattle.tpm_record.specs.Cycle.{after_cycle}
use Rattle.tpm_record.specs.Entity.{auth_value_of}
use Rattle.tpm_record.specs.Record.{Record, manufactured, with_saved}
use Rattle.tpm_record.specs.Saved.{Nothing}
use Rattle.tpm_record.specs.rows.Request.{Request}
use Rattle.tpm_record.specs.rows.Rows.{Success}
use Rattle.tpm_step.specs.step.Answer.{Written, answer_to, written_of}
use Rattle.tpm_step.specs.step.Entries as device
use Rattle.tpm_step.specs.step.General.{is_startup}
use Rattle.tpm_step.specs.step.Step.{Accepted, success_step}
use Rattle.tpm_step.specs.step.Table.{row_of}
use Rattle.tpm_step.specs.rows.Acceptance.{IsAcceptance}
use Rattle.tpm_step.specs.rows.Draws.{draws_of}
use Rattle.tpm_step.proofs.rows.Binding.{ok_at}
use Rattle.tpm_step.proofs.rows.Draws.{startup_alone}
use Rattle.tpm_step.proofs.rows.Table.{row_draws_so}
use Rattle.tpm_step.specs.history.AuthValues.{auth_of}
use Rattle.tpm_step.specs.history.DevicePcrs.{HasPcrs}
use Rattle.tpm_step.specs.history.DeviceSessions.{AreLive, HasSessions, IsLive, SessionFacts, facts_of, session_facts}
use Rattle.tpm_step.specs.history.History.{AcceptedCommand, Done, History, PowerCycled, command_of}
use Rattle.tpm_step.specs.history.Sessions.{LiveSession, LiveSessions, entries_ended, entries_rolled, rolled_by, sessions_by, sessions_of}
use Rattle.tpm_step.specs.history.View.{view_of}
use Rattle.tpm_step.proofs.history.LiveSessions.{none_live}
use Rattle.tpm_step.proofs.history.SessionEntries.{answer_told, entries_roll}
use Rattle.tpm_step.proofs.history.SessionRows.{IsTold, row_told}
use Rattle.tpm_step.proofs.rows.Started.{is_started}

-- ---- devices without a session

pub manufactured_sessions : (random : List ℕ) → HasSessions (manufactured random) []
manufactured_sessions random = record { live = none_live; asleep = λ asleep handle. refl }

pub cycled_sessions : (r : Record) (history : History)
    → HasSessions (after_cycle r) (PowerCycled ∷ history)
cycled_sessions r history = record { live = none_live; asleep = λ asleep handle. refl }

-- ---- accepted commands

settled_live : (keeps : Bool) (live : LiveSessions) (r : Record) → AreLive r.sessions live
    → AreLive (cond keeps r (with_saved r Nothing)).sessions live
settled_live true live r are = are
settled_live false live r are = are

module _ (r : Record) (a : Accepted) (locality : ℕ) (random : List ℕ) (history : History)
    (is : IsAcceptance r locality random a) (many : length r.sessions ≡ session_limit)
    (valued : map (auth_value_of r) a.command.handles ≡ map (auth_of history) a.command.handles)
    (pcrs : HasPcrs r history) (has : HasSessions r history) where
  abbrev c : AcceptedCommand
  c = command_of r a

  same_handles : a.command.handles ≡ a.request.handles
  same_handles = sym (ap (λ (q : Request). q.handles) is.requested)

  same_random : random ≡ a.request.random
  same_random = sym (ap (λ (q : Request). q.random) is.requested)

  abbrev effect : LiveSessions
  effect = sessions_by a.command.code c history (sessions_of history)

  after_row : AreLive a.success.after.sessions effect
  after_row =
      ok_at (λ (s : Success). IsTold c history (sessions_of history) a.command.code s)
      (row_of r a.command.code a.request) a.success
      (row_told r c history (sessions_of history)
      (ap (map (view_of r)) same_handles)
      (subst (λ (handles : List Handle). map (auth_value_of r) handles
      ≡ map (auth_of history) handles) same_handles valued)
      many pcrs has.live a.command.code)
      is.row refl

  -- The command's row drew the number of random bytes that `draws_of` gives for its code and
  -- parameters; or the command has no authorization entries, and `draws_of` is 0.
  drew : (a.success.answer.drawn ≡ draws_of a.command.code a.request)
      ⊎ ((a.command.entries ≡ []) × (draws_of a.command.code a.request ≡ 0))
  drew =
      elim (cases_Bool (is_startup a.command.code)) [
        | inl startup ↦ let alone =
            startup_alone a.command.code a.request startup in inr (is.alone alone.0, alone.1)
        | inr other ↦
            inl (ok_at (λ (s : Success). s.answer.drawn ≡ draws_of a.command.code a.request)
            (row_of r a.command.code a.request) a.success
            (row_draws_so r a.command.code a.request other) is.row)
      ]

  abbrev bytes_left : List ℕ
  bytes_left = drop (draws_of a.command.code a.request) a.request.random

  rolled_same : (entries_rolled effect a.command.entries
      (drop a.success.answer.drawn random)).sessions
      ≡ (entries_rolled effect a.command.entries bytes_left).sessions
  rolled_same = by drew
    where
      by : (a.success.answer.drawn ≡ draws_of a.command.code a.request)
          ⊎ ((a.command.entries ≡ []) × (draws_of a.command.code a.request ≡ 0))
          → (entries_rolled effect a.command.entries (drop a.success.answer.drawn random)).sessions
          ≡ (entries_rolled effect a.command.entries bytes_left).sessions
      by (inl same) =
          ap (λ (n : ℕ). (entries_rolled effect a.command.entries (drop n random)).sessions) same
          ∙ ap (λ (bytes : List ℕ).
          (entries_rolled effect a.command.entries
          (drop (draws_of a.command.code a.request) bytes)).sessions) same_random
      by (inr none) = rw none.0 refl

  done_live : AreLive (success_step a random).after.sessions (sessions_of (Done c ∷ history))
  done_live =
      let written : Written = written_of a.success.answer in
      let x : Record = (answer_to a.command a.grants written a.success.after random).after in
      settled_live (shape_of a.command.code).keeps_shutdown (sessions_of (Done c ∷ history)) x
      (subst (λ (rolled : LiveSessions). AreLive x.sessions
      (entries_ended rolled (zip a.command.entries a.grants))) rolled_same
      (answer_told a.command a.grants written a.success.after random effect after_row))

  pub sessions_done : HasSessions (success_step a random).after (Done (command_of r a) ∷ history)
  sessions_done = record {
    live = done_live;
    asleep = λ asleep. absurd (false≢true (sym asleep ∙ is_started r a locality random is));
  }

  -- If at least 64 random bytes are left after the device drew its new nonces, then at least 64 are
  -- also left after the history's new nonces.
  pub left_enough : 64
      ≤ length (device.entries_rolled a.success.after a.command.entries
      (drop a.success.answer.drawn random)).left
      → 64 ≤ length (rolled_by (command_of r a) history (sessions_of history)).left
  left_enough some =
      by drew (subst (λ (bytes : List ℕ). 64 ≤ length bytes)
      (entries_roll a.success.after a.command.entries (drop a.success.answer.drawn random) effect
      after_row).1 some)
    where
      by : (a.success.answer.drawn ≡ draws_of a.command.code a.request)
          ⊎ ((a.command.entries ≡ []) × (draws_of a.command.code a.request ≡ 0))
          → 64
          ≤ length
          (entries_rolled effect a.command.entries (drop a.success.answer.drawn random)).left
          → 64 ≤ length (entries_rolled effect a.command.entries bytes_left).left
      by (inl same) some =
          subst (λ (bytes : List ℕ). 64
          ≤ length
          (entries_rolled effect a.command.entries
          (drop (draws_of a.command.code a.request) bytes)).left) same_random
          (subst
          (λ (n : ℕ). 64
          ≤ length (entries_rolled effect a.command.entries (drop n random)).left) same
          some)
      by (inr none) some =
          let all : 64 ≤ length (drop a.success.answer.drawn random) = rw none.0 at some in
          rw (none.0, none.1, sym same_random)
          (omega (arith, all, length-drop a.success.answer.drawn random))

-- ---- live sessions

fact : {X : Type 0} (part : SessionFacts → X) (told : Option LiveSession) (f : SessionFacts)
    → option_map facts_of told ≡ Some f → option_map (λ (l : LiveSession). part (facts_of l)) told
    ≡ Some (part f)
fact part (Some l) f is = ap (λ (x : Option SessionFacts). option_map part x) is
fact part None f is = absurd cc

pub live_sessions : (r : Record) (history : History) (handle : Handle) (s : Session)
    → HasSessions r history → session_at r.sessions handle ≡ Some s → IsLive history handle s
live_sessions r history handle s has is =
    let told : option_map facts_of (sessions_of history handle) ≡ Some (session_facts s) =
    sym (has.live handle) ∙ ap (option_map session_facts) is in
    record {
      policy = fact (λ f. f.policy) (sessions_of history handle) (session_facts s) told;
      nonce_tpm = fact (λ f. f.nonce_tpm) (sessions_of history handle) (session_facts s) told;
      key = fact (λ f. f.key) (sessions_of history handle) (session_facts s) told;
      start = fact (λ f. f.start) (sessions_of history handle) (session_facts s) told;
    }
