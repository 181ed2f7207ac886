-- A session that was just started has no earlier nonceTPM and no assertion.
use Rattle.std.proofs.Common.{◌≡◌, ℕ, List, Option, Some, Result, Ok, Err, refl, subst}
use Rattle.tpm_types_common.specs.declared.refused.Refused.{Refused}
use Rattle.tpm_actions_device.specs.StartAuthSession.{Parameters, parameters_in}
use Rattle.tpm_step.specs.history.History.{AcceptedCommand}
use Rattle.tpm_step.specs.history.Sessions.{Bound, IsNewSession, LiveSession, bound_in, started_by, started_session}
use Rattle.tpm_step.proofs.history.Indices.{some_none, some_same}

started_new : (p : Result Parameters Refused) (bound : Option Bound) (random : List ℕ)
    (s : LiveSession) → started_by p bound random ≡ Some s → IsNewSession s
started_new (Ok p) bound random s is =
    subst IsNewSession (some_same _ s is) (record { no_earlier = refl; no_assertion = refl })
started_new (Err e) bound random s is = absurd (some_none s is)

pub starts_new : (c : AcceptedCommand) (auth_values : List (List ℕ)) (s : LiveSession)
    → started_session c auth_values ≡ Some s → IsNewSession s
unfolding started_session
starts_new c auth_values s is =
    started_new (parameters_in c.request.parameters)
    (bound_in c.request.handles c.views auth_values) c.request.random s is
