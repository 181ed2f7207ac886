-- A session's entry is compared after its grant is known.
use Rattle.std.proofs.Common.{◌≡◌, ℕ, Option, Some, None, Result, Ok, Err, refl}
use Rattle.tpm_bytes.specs.Reading.{◌>>=◌}
use Rattle.tpm_policy.specs.declared.state.Demand.{Demand}
use Rattle.tpm_session.specs.declared.session.Session.{Session}
use Rattle.tpm_types_common.specs.declared.handle.Handle.{Handle}
use Rattle.tpm_types_common.specs.declared.refused.Refused.{Refused}
use Rattle.tpm_types_command.specs.AuthEntry.{Entry}
use Rattle.tpm_types_command.specs.Command.{Whole}
use Rattle.tpm_record.specs.Record.{Record}
use Rattle.tpm_auth.specs.SessionGrant.{comparison, demand_of_session, session_grant}
use Rattle.tpm_auth.specs.Used.{asked_grant}
use Rattle.tpm_auth.specs.declared.session_grant.Grant.{Grant}

asked_with : (handle : Handle) (demand : Result Demand Refused)
    (rest : Option Grant → Result (Option Grant) Refused)
    → (demand >>= λ d. rest (Some (record { handle = handle; demand = d })))
    ≡ ((demand >>= λ d. Ok (Some (record { handle = handle; demand = d }))) >>= rest)
asked_with handle (Ok d) rest = refl
asked_with handle (Err e) rest = refl

pub asked_first : (r : Record) (c : Whole) (locality n : ℕ) (used : Option Handle) (e : Entry)
    (s : Session) → session_grant r c locality n used e s
    ≡ (asked_grant r c locality n used s >>= λ grant. comparison r c n grant e s)
unfolding session_grant
asked_first r c locality n None e s = refl
asked_first r c locality n (Some handle) e s =
    asked_with handle (demand_of_session r c locality n handle s)
    (λ grant. comparison r c n grant e s)
