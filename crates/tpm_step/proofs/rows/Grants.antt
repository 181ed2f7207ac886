-- If the authorization succeeds, each entry is granted the handle that it has to authorize, if any.
use Rattle.std.proofs.Common.{rules, ◌≡◌, ◌⊎◌, ℕ, ◌+◌, arith, true, List, [], ◌∷◌, ◌++◌, length, get_or, slice_get, Option, Some, None, option_and_then, option_map, Result, Ok, IfOk, is_some, refl, ap, ◌∙◌, inl, inr}
use Rattle.std.proofs.lemmas.Bool.{false≢true}
use Rattle.std.proofs.lemmas.List.{length-take}
use Rattle.std.proofs.lemmas.Option.{slice_get-get_or, slice_get_cases, slice_get_past}
use Rattle.tpm_session.specs.declared.session.Protection.{Protection}
use Rattle.tpm_session.specs.declared.session.Session.{Session}
use Rattle.tpm_types_common.specs.declared.check.Check.TheVariants as check
use Rattle.tpm_types_common.specs.declared.handle.Handle.{Handle}
use Rattle.tpm_types_common.specs.declared.handle.SessionKind.{SessionKind}
use Rattle.tpm_types_common.specs.declared.handle.SessionKind.TheVariants as kind
use Rattle.tpm_types_common.specs.declared.refused.Refused.{Refused}
use Rattle.tpm_types_common.specs.declared.session_type.SessionType.{SessionType}
use Rattle.tpm_types_common.specs.declared.session_type.SessionType.TheVariants as type
use Rattle.tpm_types_common.specs.Handle.{session_kind}
use Rattle.tpm_commands.specs.declared.command_code.CommandCode.{CommandCode}
use Rattle.tpm_types_command.specs.AuthEntry.{Entry}
use Rattle.tpm_types_command.specs.Command.{Whole}
use Rattle.tpm_commands.specs.CommandCode.{authorized_handles}
use Rattle.tpm_record.specs.Record.{Record}
use Rattle.tpm_auth.specs.Comparison.{check_of, failure}
use Rattle.tpm_auth.specs.Entries.{entries_pass, session_of}
use Rattle.tpm_auth.specs.Grant.{authorize, authorized, grant, grant_by, grants_pass, password_grant, session_grant_if, undemanding}
use Rattle.tpm_auth.specs.Granting.{IsGranting}
use Rattle.tpm_auth.specs.SessionGrant.{demand_by, demand_of_session, session_grant}
use Rattle.tpm_auth.specs.declared.session_grant.Grant.{Grant}
use Rattle.tpm_auth.proofs.Granting.{granting}
use Rattle.tpm_step.specs.rows.Grants.{GrantsFit, granted_handle, handle_in}
use Rattle.tpm_step.specs.rows.Refusals.{RefusesAuthorization}
use Rattle.tpm_step.specs.rows.Sessions.{HasSession, HaveSessions}
use Rattle.tpm_step.proofs.rows.Binding.{err_bind, err_checked, err_if, ok_at, ok_bind, ok_weaker}
use Rattle.tpm_step.proofs.rows.Sessions.{entries_have}

-- ---- the checks that refuse entries

abbrev IsAuthorization : Refused → Type 0
IsAuthorization e = (e.check ≡ check.Authorization) ⊎ (e.check ≡ check.Others)

failure_is : (granted : Option Grant) (n : ℕ) (p : Protection)
    → IsAuthorization (failure (check_of granted) n p)
failure_is granted n p = grind arith

password_refuses : (r : Record) (c : CommandCode) (n : ℕ) (used : Option Handle) (e : Entry)
    → RefusesAuthorization (password_grant r c n used e)
unfolding password_grant
password_refuses r c n used e = search (rules, err_bind, err_if, failure_is)

demand_refuses : (k : SessionType) (r : Record) (c : Whole) (locality n : ℕ) (handle : Handle)
    (s : Session) → RefusesAuthorization (demand_by k r c locality n handle s)
demand_refuses type.Hmac r c locality n handle s = search (rules, err_bind, err_if)
demand_refuses _ r c locality n handle s = search (rules, err_checked)

session_refuses : (r : Record) (c : Whole) (locality n : ℕ) (used : Option Handle) (e : Entry)
    (s : Session) → RefusesAuthorization (session_grant r c locality n used e s)
unfolding session_grant demand_of_session
session_refuses r c locality n None e s = search (rules, err_bind, err_if, failure_is)
session_refuses r c locality n (Some handle) e s =
    search (rules, err_bind, err_if, failure_is, demand_refuses)

-- if the session of an entry exists, only check G9 or G10 can refuse the entry
there_refuses : (r : Record) (c : Whole) (locality n : ℕ) (used : Option Handle) (e : Entry)
    (o : Option Session) → is_some o ≡ true
    → RefusesAuthorization (session_grant_if r c locality n used e o)
there_refuses r c locality n used e None there = absurd (false≢true there)
there_refuses r c locality n used e (Some s) there = session_refuses r c locality n used e s

kind_refuses : (k : SessionKind) (r : Record) (c : Whole) (locality n : ℕ) (used : Option Handle)
    (e : Entry) → HasSession k r e → RefusesAuthorization (grant_by k r c locality n used e)
kind_refuses kind.Other r c locality n used e has = absurd has
kind_refuses kind.Session r c locality n used e has =
    there_refuses r c locality n used e (session_of r e) has
kind_refuses kind.Password r c locality n used e has = password_refuses r c.code n used e

grant_refuses : (r : Record) (c : Whole) (locality n : ℕ) (used : Option Handle) (e : Entry)
    → HasSession (session_kind e.session) r e → RefusesAuthorization (grant r c locality n used e)
unfolding grant
grant_refuses r c locality n used e has =
    kind_refuses (session_kind e.session) r c locality n used e has

-- if the sessions of all entries exist, only check G9 or G10 can refuse the entries
walk_refuses : (r : Record) (c : Whole) (locality : ℕ) (before : List (Option Grant))
    (es : List Entry) → HaveSessions r es
    → RefusesAuthorization (grants_pass r c locality before es)
walk_refuses r c locality before [] have = tt
walk_refuses r c locality before (e ∷ es) have =
    err_bind IsAuthorization
    (grant r c locality (length before + 1) (slice_get (authorized c) (length before)) e) _
    (grant_refuses r c locality (length before + 1) (slice_get (authorized c) (length before)) e
    have.0) (λ this.
    walk_refuses r c locality (before ++ this ∷ []) es have.1)

pub grants_refuse : (r : Record) (c : Whole) (locality : ℕ)
    → entries_pass r c.code [] c.entries ≡ Ok tt
    → RefusesAuthorization (grants_pass r c locality [] c.entries)
grants_refuse r c locality is =
    walk_refuses r c locality [] c.entries (entries_have r c.code [] c.entries tt is)

-- ---- the grant of an entry

-- On success, the entry is granted the handle that it has to authorize. If it does not have to
-- authorize a handle, it is granted none.
abbrev Grants : Option Handle → Result (Option Grant) Refused → Type 0
Grants used result = IfOk result (λ granted. handle_in granted ≡ used)

same_handle : (used : Option Handle) → handle_in (option_map undemanding used) ≡ used
same_handle used = grind arith

password_grants : (r : Record) (c : CommandCode) (n : ℕ) (used : Option Handle) (e : Entry)
    → Grants used (password_grant r c n used e)
unfolding password_grant
password_grants r c n used e = search (rules, ok_bind, same_handle)

session_grants : (r : Record) (c : Whole) (locality n : ℕ) (used : Option Handle) (e : Entry)
    (s : Session) → Grants used (session_grant r c locality n used e s)
unfolding session_grant
session_grants r c locality n None e s = search (rules, ok_bind)
session_grants r c locality n (Some handle) e s = search (rules, ok_bind)

there_grants : (r : Record) (c : Whole) (locality n : ℕ) (used : Option Handle) (e : Entry)
    (o : Option Session) → Grants used (session_grant_if r c locality n used e o)
there_grants r c locality n used e None = tt
there_grants r c locality n used e (Some s) = session_grants r c locality n used e s

kind_grants : (k : SessionKind) (r : Record) (c : Whole) (locality n : ℕ) (used : Option Handle)
    (e : Entry) → Grants used (grant_by k r c locality n used e)
kind_grants kind.Other r c locality n used e = tt
kind_grants kind.Session r c locality n used e = there_grants r c locality n used e (session_of r e)
kind_grants kind.Password r c locality n used e = password_grants r c.code n used e

grant_grants : (r : Record) (c : Whole) (locality n : ℕ) (used : Option Handle) (e : Entry)
    → Grants used (grant r c locality n used e)
unfolding grant
grant_grants r c locality n used e = kind_grants (session_kind e.session) r c locality n used e

-- ---- the grants of all entries

-- There are at least as many entries as handles that need authorization. Therefore a position after
-- the last entry has neither a grant nor a handle that needs authorization.
all_fit : (r : Record) (c : Whole) (locality : ℕ) (grants : List (Option Grant))
    → IsGranting r c locality grants → GrantsFit c grants
all_fit r c locality grants all = record { entries = all.as_many; handles = fit_at }
  where
    fit_at : (place : ℕ) → granted_handle grants place ≡ slice_get (authorized c) place
    fit_at place =
        elim (slice_get_cases c.entries place).1 [
          | inl e ↦
              let used = slice_get (authorized c) place in
              let granted : Option Grant = get_or grants place None in
              let there : slice_get grants place ≡ Some granted =
              slice_get-get_or grants place None (omega (arith, all.as_many, e.1)) in
              ap (option_and_then handle_in) there
              ∙ ok_at (λ g. handle_in g ≡ used) (grant r c locality (place + 1) used e.0) granted
              (grant_grants r c locality (place + 1) used e.0)
              (all.each place e.0 granted e.2 there)
          | inr past ↦
              let few = length-take (authorized_handles c.code) c.handles in
              rw (
                slice_get_past grants place (omega (arith, all.as_many, past.0)),
                slice_get_past (authorized c) place (omega (arith, few, all.enough, past.0)),
              )
              refl
        ]

pub grants_fit : (r : Record) (c : Whole) (locality : ℕ)
    → IfOk (authorize r c locality) (GrantsFit c)
grants_fit r c locality = ok_weaker _ _ (authorize r c locality) (granting r c locality)
    (all_fit r c locality)
