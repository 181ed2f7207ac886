-- Buffers that are accepted twice. TPM 2.0 Library, Part 1, section 19.6.3 (session nonces).
use Rattle.std.specs.Prelude.{◌≡◌, ◌≢◌, ◌⊎◌, ◌==◌, ℕ, Bool, false, List, [], ◌∷◌, ◌++◌, Option, Some, None, Ok, slice_get}
use Rattle.tpm_types_common.specs.Handle.{session_kind}
use Rattle.tpm_types_common.specs.declared.handle.Handle.{Handle}
use Rattle.tpm_types_common.specs.declared.handle.SessionKind.TheVariants as kind
use Rattle.tpm_types_common.specs.declared.session_type.SessionType.TheVariants as type
use Rattle.tpm_types_command.specs.AuthEntry.{Entry}
use Rattle.tpm_types_command.specs.Command.{command_at}
use Rattle.tpm_commands.specs.declared.command_code.CommandCode.{CommandCode}
use Rattle.tpm_commands.specs.declared.command_code.CommandCode.TheVariants as command
use Rattle.tpm_policy_meaning.specs.Asserted.{IsAmong}
use Rattle.tpm_step.specs.uses.EntryHmacs.{hmac_in, text_in}
use Rattle.tpm_step.specs.history.History.{AcceptedCommand, Done, History, ObjectPlaced, PastEvent, PowerCycled}
use Rattle.tpm_step.specs.history.Sessions.{LiveSession, sessions_of}

-- ---- a session that survives

-- whether a command with this code, which returned the handle `made`, started a session at `handle`
abbrev pub starts_under : CommandCode → Option Handle → Handle → Bool
starts_under command.StartAuthSession (Some made) handle = handle.number == made.number
starts_under _ made handle = false

abbrev pub starts : PastEvent → Handle → Bool
starts (Done c) handle = starts_under c.command.code c.answer.handle handle
starts PowerCycled handle = false
starts (ObjectPlaced at object) handle = false

-- After this history, the session at this handle survives these events, the latest first. No event
-- starts a session with this handle, and the session exists after each event.
abbrev pub LivesThrough : Handle → (events before : History) → Type 0
LivesThrough handle [] before = Unit {0}
LivesThrough handle (event ∷ events) before =
    (starts event handle ≡ false) × (sessions_of (event ∷ events ++ before) handle ≢ None)
    × LivesThrough handle events before

-- ---- a replay

-- A buffer, two accepted commands of a history, and one of their entries. `before` is the history
-- before the first command, and `between` contains the events between the two commands. `place` is
-- the entry's position, counted from 0. `session` is the session that the entry names, before the
-- first command.
pub record Replay : Type 0 where
  pub buffer : List ℕ
  pub before : History
  pub first : AcceptedCommand
  pub between : History
  pub second : AcceptedCommand
  pub place : ℕ
  pub entry : Entry
  pub session : LiveSession

-- the history before the second command
abbrev pub before_second : Replay → History
before_second replay = replay.between ++ Done replay.first ∷ replay.before

-- The buffer encodes both commands. The entry has an HMAC and names an HMAC session, which
-- survives between the two commands.
pub record IsReplay (replay : Replay) : Type 0 where
  pub spelled_first : command_at replay.buffer ≡ Ok (replay.first.command, [])
  pub spelled_second : command_at replay.buffer ≡ Ok (replay.second.command, [])
  pub entry : slice_get replay.first.command.entries replay.place ≡ Some replay.entry
  pub has_hmac : replay.entry.hmac ≢ []
  pub names_session : session_kind replay.entry.session ≡ kind.Session
  pub lives : sessions_of replay.before replay.entry.session ≡ Some replay.session
  pub is_hmac : replay.session.kind ≡ type.Hmac
  pub lives_on : LivesThrough replay.entry.session
      (replay.between ++ Done replay.first ∷ []) replay.before

-- The session has the same nonceTPM as at the earlier time. This nonceTPM is also among the
-- session's earlier nonces.
abbrev pub HasNonceAgain : (earlier now : LiveSession) → Type 0
HasNonceAgain earlier now =
    (now.nonce_tpm ≡ earlier.nonce_tpm) × IsAmong now.nonce_tpm now.earlier_nonces

-- the text of the entry's HMAC at the first command
abbrev pub first_text : Replay → List ℕ
first_text replay =
    text_in replay.before replay.first replay.place replay.entry replay.session

-- the text of the entry's HMAC at the second command, where the session is `now`
abbrev pub second_text : Replay → (now : LiveSession) → List ℕ
second_text replay now =
    text_in (before_second replay) replay.second replay.place replay.entry now

-- The entry has the same HMAC at both commands, although the texts differ. The HMAC at each command
-- is computed with the key that the session's entry has at that command.
abbrev pub HaveOneHmac : Replay → (now : LiveSession) → Type 0
HaveOneHmac replay now =
    (first_text replay ≢ second_text replay now)
    × (replay.entry.hmac
    ≡ hmac_in replay.before replay.first replay.place replay.entry replay.session)
    × (replay.entry.hmac
    ≡ hmac_in (before_second replay) replay.second replay.place replay.entry now)

-- At the second command of a replay, the session has the same hash as at the first command. Either
-- it also has the same nonceTPM again, or two different texts have the same HMAC.
pub record Repeats (replay : Replay) : Type 0 where
  pub now : LiveSession
  pub lives : sessions_of (before_second replay) replay.entry.session ≡ Some now
  pub hash : now.hash ≡ replay.session.hash
  pub repeats : HasNonceAgain replay.session now ⊎ HaveOneHmac replay now

-- Every replay in a history repeats a nonceTPM, or an HMAC of two different texts.
abbrev pub ReplaysRepeat : History → Type 0
ReplaysRepeat history =
    (replay : Replay) (after : History)
    → history ≡ after ++ (Done replay.second ∷ replay.between ++ Done replay.first ∷ replay.before)
    → IsReplay replay → Repeats replay
