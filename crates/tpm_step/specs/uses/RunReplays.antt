-- Buffers that are accepted at two events of a run. TPM 2.0 Library, Part 1, section 19.6.3
-- (session nonces).
use Rattle.std.specs.Prelude.{◌≡◌, ◌≢◌, ℕ, List, [], ◌∷◌, ◌++◌, Some, Ok, slice_get}
use Rattle.tpm_types_common.specs.Handle.{session_kind}
use Rattle.tpm_types_common.specs.declared.handle.SessionKind.TheVariants as kind
use Rattle.tpm_types_common.specs.declared.session_type.SessionType.TheVariants as type
use Rattle.tpm_types_command.specs.AuthEntry.{Entry}
use Rattle.tpm_types_command.specs.Command.{Whole, command_at}
use Rattle.tpm_record.specs.Record.{Record}
use Rattle.tpm_step.specs.step.Events.{PlainEvent, Given, Cycled, Placed}
use Rattle.tpm_step.specs.step.Step.{Stepped}
use Rattle.tpm_step.specs.history.Executions.{Execution, history_after, with_execution}
use Rattle.tpm_step.specs.history.History.{AcceptedCommand, Done, History, extended_history}
use Rattle.tpm_step.specs.uses.Replays.{LivesThrough, Repeats, Replay}
use Rattle.tpm_step.specs.history.Sessions.{LiveSession, sessions_of}

-- The event is recorded as an accepted command, whatever the history before it. This buffer encodes
-- the command.
pub record IsRecorded (old : Record) (event : PlainEvent) (x : Stepped) (buffer : List ℕ) : Type 0 where
  pub command : AcceptedCommand
  pub spelled : command_at buffer ≡ Ok (command.command, [])
  pub recorded : (history : History) → extended_history old event x.row.check history
      ≡ Done command ∷ history

-- The event is a command with this buffer.
abbrev pub Gives : List ℕ → PlainEvent → Type 0
Gives buffer (Given given locality elapsed random) = given ≡ buffer
Gives buffer Cycled = ⊥
Gives buffer (Placed object) = ⊥

-- Two events of a run, `one` and `two`, their buffer, and one of its entries. The events in
-- `earlier` came before them, and the events in `meanwhile` between them. `place` is the entry's
-- position, counted from 0. `session` is the session that the entry names, before the first event.
pub record RunReplay : Type 0 where
  pub buffer : List ℕ
  pub earlier : List Execution
  pub one : Execution
  pub meanwhile : List Execution
  pub two : Execution
  pub place : ℕ
  pub entry : Entry
  pub session : LiveSession

-- Both events are accepted commands with this buffer. The entry has an HMAC, and names an HMAC
-- session that survives from the first event to the second.
pub record IsRunReplay (history : History) (replay : RunReplay) : Type 0 where
  pub gives : Gives replay.buffer replay.one.event
  pub gives_again : Gives replay.buffer replay.two.event
  pub accepted : replay.one.seen.row.check ≡ 0
  pub accepted_again : replay.two.seen.row.check ≡ 0
  pub command : Whole
  pub spelled : command_at replay.buffer ≡ Ok (command, [])
  pub entry : slice_get command.entries replay.place ≡ Some replay.entry
  pub has_hmac : replay.entry.hmac ≢ []
  pub names_session : session_kind replay.entry.session ≡ kind.Session
  pub lives : sessions_of (history_after history replay.earlier) replay.entry.session
      ≡ Some replay.session
  pub is_hmac : replay.session.kind ≡ type.Hmac
  pub lives_on : LivesThrough replay.entry.session
      (history_after [] (replay.one ∷ replay.meanwhile)) (history_after history replay.earlier)

-- the replay of these two commands in the run's history
abbrev pub replay_between : History → RunReplay → (first second : AcceptedCommand) → Replay
replay_between history replay first second = record {
  buffer = replay.buffer;
  before = history_after history replay.earlier;
  first = first;
  between = history_after [] replay.meanwhile;
  second = second;
  place = replay.place;
  entry = replay.entry;
  session = replay.session;
}

-- The two accepted commands of a replay repeat a nonceTPM, or two different texts have the same
-- HMAC.
pub record RunRepeats (history : History) (replay : RunReplay) : Type 0 where
  pub first : AcceptedCommand
  pub second : AcceptedCommand
  pub at_first : (before : History) → with_execution replay.one before ≡ Done first ∷ before
  pub at_second : (before : History) → with_execution replay.two before ≡ Done second ∷ before
  pub repeats : Repeats (replay_between history replay first second)

-- Every replay among these events repeats a nonceTPM, or an HMAC of two different texts.
abbrev pub RunReplaysRepeat : History → List Execution → Type 0
RunReplaysRepeat history executions =
    (replay : RunReplay) (later : List Execution)
    → executions ≡ replay.earlier ++ (replay.one ∷ replay.meanwhile ++ replay.two ∷ later)
    → IsRunReplay history replay → RunRepeats history replay
