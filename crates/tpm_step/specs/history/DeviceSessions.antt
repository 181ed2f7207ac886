-- Defines when a device has the sessions that its history determines.
use Rattle.std.specs.Prelude.{◌≡◌, ℕ, Bool, false, List, Option, Some, None, option_map}
use Rattle.tpm_policy.specs.State.{Policy}
use Rattle.tpm_session.specs.Sessions.{session_at}
use Rattle.tpm_session.specs.declared.session.Binding.{Binding}
use Rattle.tpm_session.specs.declared.session.Session.{Session}
use Rattle.tpm_types_common.specs.declared.handle.Handle.{Handle}
use Rattle.tpm_record.specs.Record.{Record}
use Rattle.tpm_step.specs.history.History.{History}
use Rattle.tpm_step.specs.history.Sessions.{Bound, LiveSession, LiveSessions, Start, key_of, nonce_of, policy_in, policy_of, sessions_of, start_in, start_of}

-- the facts about a session that the history determines: how it was started, its key, its latest
-- nonceTPM, and its policy
pub record SessionFacts : Type 0 where
  pub start : Start
  pub key : List ℕ
  pub nonce_tpm : List ℕ
  pub policy : Policy

abbrev pub facts_of : LiveSession → SessionFacts
facts_of s = record {
  start = start_in s;
  key = s.key;
  nonce_tpm = s.nonce_tpm;
  policy = policy_in s;
}

abbrev pub bound_of : Binding → Bound
bound_of b = record { name = b.name; auth_value = b.auth_value; protection = b.protection }

-- how a device's session was started
abbrev pub session_start : Session → Start
session_start s = record {
  kind = s.kind;
  hash = s.hash;
  symmetric = s.symmetric;
  bound = option_map bound_of s.binding;
}

abbrev pub session_facts : Session → SessionFacts
session_facts s = record {
  start = session_start s;
  key = s.key;
  nonce_tpm = s.nonce_tpm;
  policy = s.policy;
}

-- For each handle, the device and the history have sessions with the same `SessionFacts`, or
-- neither has a session.
abbrev pub AreLive : List (Option Session) → LiveSessions → Type 0
AreLive places live =
    (handle : Handle) → option_map session_facts (session_at places handle)
    ≡ option_map facts_of (live handle)

-- A device and its history have the same sessions. Before TPM2_Startup, no session exists.
pub record AreSessions (places : List (Option Session)) (is_started : Bool) (history : History)
    : Type 0
  where
    pub live : AreLive places (sessions_of history)
    pub asleep : is_started ≡ false → (handle : Handle) → sessions_of history handle ≡ None

abbrev pub HasSessions : Record → History → Type 0
HasSessions r history = AreSessions r.sessions r.fixed.started history

-- The history determines the policy, the nonceTPM and the key of the device's session at this
-- handle, and how it was started.
pub record IsLive (history : History) (handle : Handle) (s : Session) : Type 0 where
  pub policy : policy_of history handle ≡ Some s.policy
  pub nonce_tpm : nonce_of history handle ≡ Some s.nonce_tpm
  pub key : key_of history handle ≡ Some s.key
  pub start : start_of history handle ≡ Some (session_start s)
