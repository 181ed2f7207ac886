-- An example of a buffer that occurs twice in a history.
use Rattle.std.specs.Prelude.{List, ℕ, [], ◌∷◌, ◌++◌, Some, None, replicate}
use Rattle.tpm_mac.specs.declared.algorithm.HashAlg.TheVariants as alg
use Rattle.tpm_commands.specs.declared.command_code.CommandCode.TheVariants as command
use Rattle.tpm_types_common.specs.Handle.{null_handle, numbered_handle}
use Rattle.tpm_types_common.specs.declared.session_type.SessionType.TheVariants as type
use Rattle.tpm_types_common.specs.declared.symmetric.SymmetricDefinition.TheVariants as symmetric
use Rattle.tpm_types_command.specs.AuthEntry.{Entry}
use Rattle.tpm_record.specs.rows.Answer.{Plain, nothing}
use Rattle.tpm_step.specs.history.History.{AcceptedCommand, Done}
use Rattle.tpm_step.specs.uses.Replays.{IsReplay, Replay}
use Rattle.tpm_step.specs.history.Sessions.{LiveSession}
use Rattle.tpm_step.specs.history.View.{OfHandle}

abbrev pub zeros : List ℕ
zeros = replicate 256 0

-- the parameters of an HMAC session: a nonceCaller of 16 zeros, no salt, no symmetric algorithm,
-- and SHA-256
abbrev pub start_parameters : List ℕ
start_parameters =
    0x00 ∷ 0x10 ∷ replicate 16 0 ++ 0x00 ∷ 0x00 ∷ 0x00 ∷ 0x00 ∷ 0x10 ∷ 0x00 ∷ 0x0b ∷ []

-- TPM2_StartAuthSession, which started a session with the handle 02000000
abbrev pub start_command : AcceptedCommand
start_command = record {
  command = record {
    code = command.StartAuthSession;
    handles = null_handle ∷ null_handle ∷ [];
    entries = [];
    parameters = start_parameters;
  };
  grants = [];
  request = record {
    handles = null_handle ∷ null_handle ∷ [];
    locality = 0;
    parameters = start_parameters;
    random = zeros;
  };
  answer = record { handle = Some (numbered_handle 0x02000000); body = Plain []; drawn = 16 };
  views = OfHandle null_handle ∷ OfHandle null_handle ∷ [];
  sensitive = None;
}

-- the session that the command `start_command` started
abbrev pub session : LiveSession
session = record {
  kind = type.Hmac;
  hash = alg.Sha256;
  symmetric = symmetric.Null;
  bound = None;
  key = [];
  nonce_tpm = replicate 16 0;
  earlier_nonces = [];
  assertions = [];
}

-- an entry that names the session, with continueSession and an HMAC of four bytes
abbrev pub entry : Entry
entry = record {
  session = numbered_handle 0x02000000;
  nonce = [];
  attributes = record { octet = 1 };
  hmac = 1 ∷ 2 ∷ 3 ∷ 4 ∷ [];
}

-- TPM2_GetRandom for eight bytes, with `entry` in its authorization area
abbrev pub buffer : List ℕ
buffer =
    0x80 ∷ 0x02 ∷ 0x00 ∷ 0x00 ∷ 0x00 ∷ 0x1d ∷ 0x00 ∷ 0x00 ∷ 0x01 ∷ 0x7b
    ∷ 0x00 ∷ 0x00 ∷ 0x00 ∷ 0x0d ∷ 0x02 ∷ 0x00 ∷ 0x00 ∷ 0x00 ∷ 0x00 ∷ 0x00 ∷ 0x01
    ∷ 0x00 ∷ 0x04 ∷ 1 ∷ 2 ∷ 3 ∷ 4 ∷ 0x00 ∷ 0x08 ∷ []

-- the command in `buffer`, as a history records it
abbrev pub random_command : AcceptedCommand
random_command = record {
  command = record {
    code = command.GetRandom;
    handles = [];
    entries = entry ∷ [];
    parameters = 0x00 ∷ 0x08 ∷ [];
  };
  grants = None ∷ [];
  request = record {
    handles = [];
    locality = 0;
    parameters = 0x00 ∷ 0x08 ∷ [];
    random = zeros;
  };
  answer = nothing;
  views = [];
  sensitive = None;
}

-- the command `asking`, accepted twice, one right after the other
abbrev pub asked_twice : Replay
asked_twice = record {
  buffer = buffer;
  before = Done start_command ∷ [];
  first = random_command;
  between = [];
  second = random_command;
  place = 0;
  entry = entry;
  session = session;
}

-- The buffer occurs twice in a history, and the second time it is a replay.
abbrev pub HasReplay : Type 0
HasReplay = IsReplay asked_twice
