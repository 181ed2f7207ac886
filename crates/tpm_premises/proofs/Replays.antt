-- Proves, by computation, the example of a buffer that occurs twice in a history.
use Rattle.std.proofs.Common.{◌≡◌, ◌≢◌, [], ◌∷◌, Some, None, Ok, refl, sym, ◌∙◌}
use Rattle.tpm_commands.specs.CommandCode.{code_named, shape_of}
use Rattle.tpm_actions_device.specs.StartAuthSession.{parameters_in}
use Rattle.std.specs.Prelude.{replicate}
use Rattle.tpm_types_common.specs.Algorithm.{hash_at}
use Rattle.tpm_types_common.specs.Buffer.{buffer_at}
use Rattle.tpm_types_common.specs.SessionType.{session_type_at}
use Rattle.tpm_types_common.specs.Symmetric.{symmetric_at}
use Rattle.tpm_types_command.specs.AuthArea.{area_at}
use Rattle.tpm_types_command.specs.AuthEntry.{entry_at}
use Rattle.tpm_types_command.specs.Command.{command_at}
use Rattle.tpm_types_command.specs.Header.{header_at}
use Rattle.tpm_step.specs.history.History.{Done}
use Rattle.tpm_step.specs.history.Sessions.{LiveSession, sessions_of, start_key, started_session}
use Rattle.tpm_premises.specs.Replays.{HasReplay, buffer, entry, random_command, session, start_command}

spelled : command_at buffer ≡ Ok (random_command.command, [])
unfolding command_at header_at code_named shape_of area_at entry_at
spelled = refl

lives : sessions_of (Done start_command ∷ []) entry.session ≡ Some session
unfolding started_session start_key parameters_in buffer_at session_type_at symmetric_at hash_at
lives = refl

-- the session after the command `asking`
abbrev rolled_on : LiveSession
rolled_on = record session { earlier_nonces = replicate 16 0 ∷ [] }

lives_again : sessions_of (Done random_command ∷ Done start_command ∷ []) entry.session
    ≡ Some rolled_on
unfolding started_session start_key parameters_in buffer_at session_type_at symmetric_at hash_at
lives_again = refl

lives_on : sessions_of (Done random_command ∷ Done start_command ∷ []) entry.session ≢ None
lives_on none = some_is_not_none rolled_on (sym lives_again ∙ none)
  where
    some_is_not_none : {X : Type 0} (x : X) → Some x ≢ None
    some_is_not_none x e = cc e

pub has_replay : HasReplay
has_replay = record {
  spelled_first = spelled;
  spelled_second = spelled;
  entry = refl;
  has_hmac = λ none. cc none;
  names_session = refl;
  lives = lives;
  is_hmac = refl;
  lives_on = (refl, lives_on, tt);
}
