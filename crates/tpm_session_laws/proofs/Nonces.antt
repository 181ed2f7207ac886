-- A command adds the session's old nonce to the session's earlier nonces.
use Rattle.std.proofs.Common.{◌≡◌, ℕ, Bool, true, false, cond, List, [], ◌∷◌, take, drop, Option, Some, None, option_map, refl, ap, sym, subst, ◌∙◌}
use Rattle.std.specs.Prelude.{is_some}
use Rattle.std.specs.List.{zip}
use Rattle.std.proofs.lemmas.Option.{same_Some}
use Rattle.tpm_types_common.specs.SessionAttributes.{continues_session}
use Rattle.tpm_types_common.specs.declared.session_type.SessionType.{SessionType}
use Rattle.tpm_types_common.specs.declared.session_type.SessionType.TheVariants as type
use Rattle.tpm_types_command.specs.AuthEntry.{Entry}
use Rattle.tpm_auth.specs.declared.session_grant.Grant.{Grant}
use Rattle.tpm_step.specs.history.History.{AcceptedCommand, Done, History}
use Rattle.tpm_step.specs.history.Sessions.{LiveSession, LiveSessions, changed_session, entries_ended, entries_rolled, entry_ended, entry_rolled, nonce_size, rolled_by, sessions_by, sessions_of, used_by, used_session, with_nonce, without_session}
use Rattle.tpm_step.specs.rows.Draws.{draws_of}
use Rattle.tpm_step.proofs.history.HandleMap.{at_same}
use Rattle.tpm_session_laws.specs.Nonces.{AddsItsNonce}

-- If the session exists, its earlier nonces are `nonces`.
abbrev Had : List (List ℕ) → Option LiveSession → Type 0
Had nonces None = Unit {0}
Had nonces (Some s) = s.earlier_nonces ≡ nonces

used_had : (kind : SessionType) (s : LiveSession)
    → (used_by kind s).earlier_nonces ≡ s.earlier_nonces
used_had type.Hmac s = refl
used_had type.Policy s = refl
used_had type.Trial s = refl

map_had : (nonces : List (List ℕ)) (found : Option LiveSession) → Had nonces found
    → Had nonces (option_map used_session found)
map_had nonces None had = tt
map_had nonces (Some s) had = used_had s.kind s ∙ had

end_had : (nonces : List (List ℕ)) (live : LiveSessions) (e : Entry) (grant : Option Grant)
    → Had nonces (live e.session) → Had nonces (entry_ended live e grant e.session)
end_had nonces live e grant had = by (continues_session e.attributes) (is_some grant)
  where
    by : (continues grants : Bool)
        → Had nonces
        (cond continues (cond grants (changed_session used_session e.session live) live)
        (without_session e.session live) e.session)
    by true true =
        subst (Had nonces)
        (sym (at_same e.session e.session (option_map used_session (live e.session)) live refl))
        (map_had nonces (live e.session) had)
    by true false = had
    by false grants = subst (Had nonces) (sym (at_same e.session e.session None live refl)) tt

ends_had : (nonces : List (List ℕ)) (live : LiveSessions) (e : Entry) (grants : List (Option Grant))
    → Had nonces (live e.session) → Had nonces (entries_ended live (zip (e ∷ []) grants) e.session)
ends_had nonces live e [] had = had
ends_had nonces live e (g ∷ grants) had = end_had nonces live e g had

rolled_had : (live : LiveSessions) (e : Entry) (left : List ℕ) (old : LiveSession)
    → live e.session ≡ Some old
    → Had (old.nonce_tpm ∷ old.earlier_nonces) ((entry_rolled live e left).sessions e.session)
rolled_had live e left old lives =
    let nonce : List ℕ = take (nonce_size (live e.session)) left in
    subst (Had (old.nonce_tpm ∷ old.earlier_nonces))
    (sym (at_same e.session e.session (option_map (with_nonce nonce) (live e.session)) live
    refl ∙ ap (option_map (with_nonce nonce)) lives))
    refl

module _ (history : History) (c : AcceptedCommand) where
  abbrev effect : LiveSessions
  effect = sessions_by c.command.code c history (sessions_of history)

  abbrev left : List ℕ
  left = drop (draws_of c.command.code c.request) c.request.random

  -- The entries `es` change or end their sessions. If the session of entry `e` still exists after
  -- that, its earlier nonces are `nonces`.
  abbrev Ended : (nonces : List (List ℕ)) → Entry → List Entry → Type 0
  Ended nonces e es =
      Had nonces (entries_ended (entries_rolled effect es left).sessions (zip es c.grants)
      e.session)

  one_entry : (e : Entry) (old : LiveSession) → effect e.session ≡ Some old
      → Ended (old.nonce_tpm ∷ old.earlier_nonces) e (e ∷ [])
  one_entry e old lives =
      ends_had (old.nonce_tpm ∷ old.earlier_nonces) (entry_rolled effect e left).sessions e c.grants
      (rolled_had effect e left old lives)

pub adds_its_nonce : AddsItsNonce
adds_its_nonce history c e old new entries lives is =
    let nonces : List (List ℕ) = old.nonce_tpm ∷ old.earlier_nonces in
    subst (Had nonces) is
    (subst (Ended history c nonces e) (sym entries) (one_entry history c e old lives))
