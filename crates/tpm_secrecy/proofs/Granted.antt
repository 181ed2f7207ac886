-- If every guess fails, an accepted command uses no secret.
use Rattle.std.proofs.Common.{ap, refl, rules, sym, ◌∙◌}
use Rattle.std.proofs.lemmas.Bool.{eqb-true, true≢false}
use Rattle.std.specs.List.{zip}
use Rattle.std.specs.Option.{option_map_or}
use Rattle.std.specs.Prelude.{Bool, Err, IfOk, List, None, Ok, Option, Result, Some, [], cond, false, is_ok, option_and_then, option_map, slice_get, suc, true, ℕ, ◌+◌, ◌==◌, ◌||◌, ◌∷◌, ◌≡◌}
use Rattle.tpm_auth.proofs.Granting.{granting}
use Rattle.tpm_auth.specs.Entries.{session_of}
use Rattle.tpm_auth.specs.Grant.{authorize, authorized, grant, grant_by, password_grant, session_grant_if, undemanding}
use Rattle.tpm_auth.specs.Granting.{IsGranted, IsGranting}
use Rattle.tpm_auth.specs.SessionGrant.{comparison, demand_of_session, session_grant}
use Rattle.tpm_auth.specs.declared.session_grant.Grant.{Grant}
use Rattle.tpm_containers.specs.Numbered.{at_number, if_of_kind, kind_of, place_of}
use Rattle.tpm_containers.specs.Slots.{at_place, free}
use Rattle.tpm_record.specs.Record.{Record}
use Rattle.tpm_session.specs.Sessions.{session_at, session_byte}
use Rattle.tpm_session.specs.declared.session.Session.{Session}
use Rattle.tpm_step.proofs.rows.Binding.{ok_at, ok_bind, ok_bind_is}
use Rattle.tpm_step.specs.step.Granted.{granted_entries}
use Rattle.tpm_types_common.specs.Handle.{is_session, password_handle, session_kind}
use Rattle.tpm_types_common.specs.SessionType.{type_byte}
use Rattle.tpm_types_common.specs.declared.handle.Handle.{Handle}
use Rattle.tpm_types_common.specs.declared.handle.SessionKind.{SessionKind}
use Rattle.tpm_types_common.specs.declared.refused.Refused.{Refused}
use Rattle.tpm_types_common.specs.declared.session_type.SessionType.{SessionType}
use Rattle.tpm_types_command.specs.AuthEntry.{Entry}
use Rattle.tpm_types_command.specs.Command.{Whole}
use Rattle.tpm_row_secrecy.proofs.Each.{each}
use Rattle.tpm_row_secrecy.specs.Secrecy.{Secrecy}
use Rattle.tpm_secrecy.proofs.Authorizing.{neither}
use Rattle.tpm_secrecy.specs.Guesses.{GuessesFail, NoneUses, authorizes_secret, demand_uses, guesses_by, is_guess, session_guesses, session_uses, uses_by, uses_secret}
use Rattle.tpm_types_common.specs.declared.handle.SessionKind.TheVariants as kind
use Rattle.tpm_types_common.specs.declared.session_type.SessionType.TheVariants as type

-- ---- entries that name no session

no_type : (k : ℕ) (t : SessionType) → (k == 0x02 || k == 0x03) ≡ false → (k == type_byte t) ≡ false
no_type k type.Hmac apart = (neither (k == 0x02) (k == 0x03) apart).0
no_type k type.Policy apart = (neither (k == 0x02) (k == 0x03) apart).1
no_type k type.Trial apart = (neither (k == 0x02) (k == 0x03) apart).1

no_session : (xs : List (Option Session)) (h : Handle) → is_session h ≡ false
    → session_at xs h ≡ None
unfolding session_at at_number
no_session xs h apart = by (at_place xs (place_of h.number))
  where
    by : (found : Option Session) → option_and_then (if_of_kind session_byte h.number) found ≡ None
    by None = refl
    by (Some x) = ap (λ (b : Bool). cond b (Some x) None) (no_type (kind_of h.number) x.kind apart)

password_apart : (h : Handle) → (h.number == password_handle.number) ≡ true → is_session h ≡ false
password_apart h is = ap (λ (number : ℕ). is_session (record { number = number }))
    (eqb-true h.number password_handle.number is)

abbrev kind_by : (password session : Bool) → SessionKind
kind_by password session = cond password kind.Password (cond session kind.Session kind.Other)

other_kind : (h : Handle) → (session_kind h ≡ kind.Session → ⊥) → is_session h ≡ false
other_kind h apart = by (h.number == password_handle.number) (is_session h) refl refl
  where
    by : (a b : Bool) → (h.number == password_handle.number) ≡ a → is_session h ≡ b
        → is_session h ≡ false
    by true b is session = password_apart h is
    by false true is session =
        absurd (apart (ap (λ (x : Bool). kind_by x (is_session h)) is ∙ ap (kind_by false) session))
    by false false is session = session

-- if an entry uses no secret, the session that it names uses no secret
pub session_unused : (s : Secrecy) (r : Record) (e : Entry) (g : Option Grant) (x : Session)
    → uses_secret s r e g ≡ false → session_of r e ≡ Some x → session_uses s r x e g ≡ false
session_unused s r e g x free found = by (session_kind e.session) refl free
  where
    none : (session_kind e.session ≡ kind.Session → ⊥) → session_uses s r x e g ≡ false
    none apart = let never : None ≡ Some x =
        sym (no_session r.sessions e.session (other_kind e.session apart)) ∙ found in absurd cc

    by : (k : SessionKind) → session_kind e.session ≡ k → uses_by k s r e g ≡ false
        → session_uses s r x e g ≡ false
    by kind.Session is free =
        sym (ap (λ (y : Option Session). option_map_or (λ (z : Session). session_uses s r z e g) y
        false) found) ∙ free
    by kind.Password is free =
        none (λ same. let never : kind.Session ≡ kind.Password = sym same ∙ is in absurd cc)
    by kind.Other is free =
        none (λ same. let never : kind.Session ≡ kind.Other = sym same ∙ is in absurd cc)

-- ---- entries whose password or HMAC was compared

pub comparison_gives : (r : Record) (c : Whole) (n : ℕ) (g : Option Grant) (e : Entry) (x : Session)
    → IfOk (comparison r c n g e x) (λ granted. granted ≡ g)
comparison_gives r c n g e x = search (rules, ok_bind)

pub password_gives : (r : Record) (c : Whole) (n : ℕ) (used : Option Handle) (e : Entry)
    → IfOk (password_grant r c.code n used e) (λ granted. granted ≡ option_map undemanding used)
unfolding password_grant
password_gives r c n used e = search (rules, ok_bind)

pub weaker : {X : Type 0} (P Q : X → Type 0) (x : Result X Refused) → ((a : X) → P a → Q a)
    → IfOk x P → IfOk x Q
weaker P Q (Ok a) so holds = so a holds
weaker P Q (Err e) so holds = tt

module _ (s : Secrecy) (r : Record) (c : Whole) (locality : ℕ) where
  session_free : (n : ℕ) (used : Option Handle) (e : Entry) (x : Session)
      → session_guesses s r c locality n used e x ≡ false
      → IfOk (session_grant r c locality n used e x)
      (λ granted. session_uses s r x e granted ≡ false)
  unfolding session_grant
  session_free n None e x free =
      weaker (λ granted. granted ≡ None) (λ granted. session_uses s r x e granted ≡ false)
      (comparison r c n None e x) (λ granted is. ap (session_uses s r x e) is ∙ free)
      (comparison_gives r c n None e x)
  session_free n (Some h) e x free =
      ok_bind_is _ (demand_of_session r c locality n h x) _ (λ d is.
      let g : Option Grant = Some (record { handle = h; demand = d }) in
      weaker (λ granted. granted ≡ g) (λ granted. session_uses s r x e granted ≡ false)
      (comparison r c n g e x)
      (λ granted same. ap (session_uses s r x e) same ∙ sym (ap (demand_uses s r h x e) is) ∙ free)
      (comparison_gives r c n g e x))

  found_free : (n : ℕ) (used : Option Handle) (e : Entry) (found : Option Session)
      → option_map_or (session_guesses s r c locality n used e) found false ≡ false
      → IfOk (session_grant_if r c locality n used e found)
      (λ granted. option_map_or (λ (x : Session). session_uses s r x e granted) found false ≡ false)
  found_free n used e None free = tt
  found_free n used e (Some x) free = session_free n used e x free

  kind_free : (k : SessionKind) (n : ℕ) (used : Option Handle) (e : Entry)
      → guesses_by k s r c locality n used e ≡ false
      → IfOk (grant_by k r c locality n used e) (λ granted. uses_by k s r e granted ≡ false)
  kind_free kind.Password n used e free =
      weaker (λ granted. granted ≡ option_map undemanding used)
      (λ granted. authorizes_secret s r granted ≡ false) (password_grant r c.code n used e)
      (λ granted is. ap (authorizes_secret s r) is ∙ free) (password_gives r c n used e)
  kind_free kind.Session n used e free = found_free n used e (session_of r e) free
  kind_free kind.Other n used e free = tt

  grant_free : (place : ℕ) (e : Entry) (g : Option Grant)
      → (is_guess s r c locality place e ≡ true
      → is_ok (grant r c locality (place + 1) (slice_get (authorized c) place) e) ≡ false)
      → IsGranted r c locality place e g → uses_secret s r e g ≡ false
  unfolding grant
  grant_free place e g fails is = by (is_guess s r c locality place e) refl
    where
      by : (b : Bool) → is_guess s r c locality place e ≡ b → uses_secret s r e g ≡ false
      by true guess = absurd (true≢false (sym (ap is_ok is) ∙ fails guess))
      by false free = ok_at (λ granted. uses_secret s r e granted ≡ false)
          (grant_by (session_kind e.session) r c locality (place + 1)
          (slice_get (authorized c) place) e) g
          (kind_free (session_kind e.session) (place + 1) (slice_get (authorized c) place) e free)
          is

  entries_free : (es : List Entry) (gs : List (Option Grant))
      → ((place : ℕ) (e : Entry) (g : Option Grant) → slice_get es place ≡ Some e
      → slice_get gs place ≡ Some g → uses_secret s r e g ≡ false) → NoneUses s r (zip es gs)
  entries_free [] gs each = tt
  entries_free (e ∷ es) [] each = tt
  entries_free (e ∷ es) (g ∷ gs) each = (
    each 0 e g refl refl,
    entries_free es gs (λ place f k one other. each (suc place) f k one other),
  )

  pub granted_free : (grants : List (Option Grant)) → GuessesFail s r c locality
      → authorize r c locality ≡ Ok grants → NoneUses s r (granted_entries c grants)
  granted_free grants fail is =
      let all : IsGranting r c locality grants =
      ok_at (IsGranting r c locality) (authorize r c locality) grants (granting r c locality)
      is in
      entries_free c.entries grants
      (λ place e g one other. grant_free place e g (fail place e one)
      (all.each place e g one other))
