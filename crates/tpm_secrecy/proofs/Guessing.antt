-- If every guess of a command is wrong, the device authorizes the command exactly as if every guess
-- were assumed to be wrong.
use Rattle.std.proofs.Common.{ap, arith, length-append, refl, subst, sym, ◌∙◌}
use Rattle.std.proofs.lemmas.Bool.{true≢false}
use Rattle.std.specs.List.{list_any}
use Rattle.std.specs.Option.{option_map_or}
use Rattle.std.specs.Prelude.{Bool, Err, IfSome, List, None, Ok, Option, Result, Some, [], cond, false, is_ok, length, nat_lt, not, option_map, slice_get, suc, true, ℕ, ◌&&◌, ◌++◌, ◌+◌, ◌-◌, ◌||◌, ◌∷◌, ◌≡◌}
use Rattle.tpm_auth.specs.Comparison.{check_of, failure, is_password_of, may_be_tried}
use Rattle.tpm_auth.specs.Entries.{decrypts, entries_pass, reference_of, session_of}
use Rattle.tpm_auth.specs.Grant.{authorize, authorized, grant, grant_by, grants_pass, is_unavailable, password_grant, session_grant_if, undemanding, used_protection}
use Rattle.tpm_auth.specs.SessionGrant.{comparison, demand_of_session, granted_value, session_grant}
use Rattle.tpm_auth.specs.declared.session_grant.Grant.{Grant}
use Rattle.tpm_bytes.specs.Reading.{refused_if, ◌>>=◌}
use Rattle.tpm_commands.specs.CommandCode.{authorized_handles, nv_use_at}
use Rattle.tpm_containers.specs.Slots.{free}
use Rattle.tpm_policy.specs.declared.state.Demand.{Demand}
use Rattle.tpm_record.specs.Record.{Record}
use Rattle.tpm_session.specs.FirstBuffer.{has_first_buffer}
use Rattle.tpm_session.specs.declared.session.Protection.{Protection}
use Rattle.tpm_session.specs.declared.session.Session.{Session}
use Rattle.tpm_types_common.specs.Handle.{session_kind}
use Rattle.tpm_types_common.specs.Rc.{at, entry_fault, plain}
use Rattle.tpm_types_common.specs.Refused.{checked_result, refusal}
use Rattle.tpm_types_common.specs.declared.handle.Handle.{Handle}
use Rattle.tpm_types_common.specs.declared.handle.SessionKind.{SessionKind}
use Rattle.tpm_types_common.specs.declared.refused.Refused.{Refused}
use Rattle.tpm_types_command.specs.AuthEntry.{Entry}
use Rattle.tpm_types_command.specs.Command.{Whole}
use Rattle.tpm_row_secrecy.proofs.Bare.{key_still_secret}
use Rattle.tpm_row_secrecy.proofs.Entities.{available_bare, protection_bare, secret_value_bare, session_at_bare, value_bare}
use Rattle.tpm_row_secrecy.specs.Secrecy.{CoversKeys, Secrecy, bare_session, has_secret_key, without_secrets}
use Rattle.tpm_secrecy.proofs.Authorizing.{all_own_same, comparison_same, demanded_same, then_same, wrong_comparison, wrong_same}
use Rattle.tpm_secrecy.specs.Guesses.{BindingHolds, BindingsHold, GuessesFail, authorizes_secret, demand_uses, demands_value, guesses_by, is_guess, is_hmac_session, session_guesses, session_uses, uses_encryption}
use Rattle.tpm_types_common.specs.declared.check.Check.TheVariants as check
use Rattle.tpm_types_common.specs.declared.handle.SessionKind.TheVariants as kind
use Rattle.tpm_types_common.specs.declared.rc.Place.TheVariants as place
use Rattle.tpm_types_common.specs.declared.rc.ResponseCode.TheVariants as code
use Rattle.tpm_record.specs.declared.entity.Means.TheVariants as means

-- ---- guesses that are assumed to be wrong

module _ (s : Secrecy) (c : Whole) (locality : ℕ) (t : Record) where
  abbrev doubted : ℕ → Option Grant → Entry → Session → Result (Option Grant) Refused
  doubted n g e x = cond (session_uses s t x e g) (wrong_comparison t n g x)
      (comparison t c n g e x)

  abbrev doubted_session : ℕ → Option Handle → Entry → Session → Result (Option Grant) Refused
  doubted_session n None e x = doubted n None e x
  doubted_session n (Some h) e x = demand_of_session t c locality n h x
      >>= λ d. doubted n (Some (record { handle = h; demand = d })) e x

  abbrev doubted_if : ℕ → Option Handle → Entry → Option Session → Result (Option Grant) Refused
  doubted_if n used e None = Err (refusal check.Entries (reference_of n))
  doubted_if n used e (Some x) = doubted_session n used e x

  -- the result of comparing a password with this value
  abbrev passes_as : (value : List ℕ) → ℕ → Option Handle → Entry → Result (Option Grant) Refused
  passes_as value n used e =
      refused_if (not (is_password_of value e.hmac))
      (failure (check_of (option_map undemanding used)) n (used_protection t used))
      >>= λ compared.
      Ok (option_map undemanding used)

  abbrev doubted_password : ℕ → Option Handle → Entry → Result (Option Grant) Refused
  doubted_password n used e =
      refused_if (is_unavailable t c.code n used)
      (refusal check.Authorization (plain code.AuthUnavailable)) >>= λ available.
      may_be_tried t.fixed.lockout (option_map undemanding used) (used_protection t used)
      >>= λ tried.
      cond (authorizes_secret s t (option_map undemanding used))
      (Err (failure (check_of (option_map undemanding used)) n (used_protection t used)))
      (passes_as (granted_value t (option_map undemanding used)) n used e)

  abbrev doubted_by : SessionKind → ℕ → Option Handle → Entry → Result (Option Grant) Refused
  doubted_by kind.Password n used e = doubted_password n used e
  doubted_by kind.Session n used e = doubted_if n used e (session_of t e)
  doubted_by kind.Other n used e = Err (refusal check.Entries (entry_fault n code.Value))

  abbrev doubted_grants : (before : List (Option Grant)) → List Entry
      → Result (List (Option Grant)) Refused
  doubted_grants before [] = Ok before
  doubted_grants before (e ∷ es) =
      doubted_by (session_kind e.session) (length before + 1)
      (slice_get (authorized c) (length before)) e >>= λ this.
      doubted_grants (before ++ this ∷ []) es

  abbrev pub doubted_authorization : Result (List (Option Grant)) Refused
  doubted_authorization =
      checked_result check.Entries (entries_pass t c.code [] c.entries) >>= λ own.
      refused_if (nat_lt (length c.entries) (authorized_handles c.code))
      (refusal check.Entries (plain code.AuthMissing)) >>= λ enough.
      doubted_grants [] c.entries >>= λ grants.
      refused_if (list_any decrypts c.entries && not (has_first_buffer c.parameters))
      (refusal check.Others (at (place.Parameter 1) (plain code.Insufficient))) >>= λ whole.
      Ok grants

-- ---- guesses that are wrong

module _ (s : Secrecy) (covers : CoversKeys s) (r : Record) (c : Whole) (locality : ℕ) where
  abbrev bare : Record
  bare = without_secrets s r

  pub authorizes_same : (g : Option Grant) → authorizes_secret s bare g ≡ authorizes_secret s r g
  authorizes_same None = refl
  authorizes_same (Some g) = secret_value_bare s r g.handle

  uses_same : (x : Session) (e : Entry) (g : Option Grant)
      → session_uses s bare (bare_session s x) e g ≡ session_uses s r x e g
  uses_same x e g =
      ap (λ (b : Bool). b || authorizes_secret s bare g
      && (is_hmac_session x.kind || demands_value g || uses_encryption e))
      (key_still_secret s x.binding)
      ∙ ap (λ (b : Bool). has_secret_key s x.binding || b
      && (is_hmac_session x.kind || demands_value g || uses_encryption e)) (authorizes_same g)

  doubted_same : (n : ℕ) (g : Option Grant) (e : Entry) (x : Session) → BindingHolds s r x
      → (session_uses s r x e g ≡ true → is_ok (comparison r c n g e x) ≡ false)
      → doubted s c locality bare n g e (bare_session s x) ≡ comparison r c n g e x
  doubted_same n g e x holds fails =
      ap (λ (b : Bool). cond b (wrong_comparison bare n g (bare_session s x))
      (comparison bare c n g e (bare_session s x))) (uses_same x e g)
      ∙ by (session_uses s r x e g) refl
    where
      by : (b : Bool) → session_uses s r x e g ≡ b
          → cond b (wrong_comparison bare n g (bare_session s x))
          (comparison bare c n g e (bare_session s x)) ≡ comparison r c n g e x
      by true uses = wrong_same s covers r c locality n g e x holds (fails uses)
      by false free = comparison_same s covers r c locality n g e x free

  session_same : (n : ℕ) (used : Option Handle) (e : Entry) (x : Session) → BindingHolds s r x
      → (session_guesses s r c locality n used e x ≡ true
      → is_ok (session_grant r c locality n used e x) ≡ false)
      → doubted_session s c locality bare n used e (bare_session s x)
      ≡ session_grant r c locality n used e x
  unfolding session_grant
  session_same n None e x holds fails = doubted_same n None e x holds fails
  session_same n (Some h) e x holds fails =
      ap (λ (z : Result Demand Refused). z
      >>= λ d. doubted s c locality bare n (granted d) e (bare_session s x))
      (demanded_same s covers r c locality n h x)
      ∙ by (demand_of_session r c locality n h x) refl
    where
      granted : Demand → Option Grant
      granted d = Some (record { handle = h; demand = d })

      compared : Result Demand Refused → Result (Option Grant) Refused
      compared z = z >>= λ d. comparison r c n (granted d) e x

      by : (z : Result Demand Refused) → demand_of_session r c locality n h x ≡ z
          → (demand_of_session r c locality n h x
          >>= λ d. doubted s c locality bare n (granted d) e (bare_session s x))
          ≡ compared (demand_of_session r c locality n h x)
      by (Err f) is =
          ap (λ (z : Result Demand Refused). z
          >>= λ d. doubted s c locality bare n (granted d) e (bare_session s x)) is
          ∙ sym (ap compared is)
      by (Ok d) is =
          ap (λ (z : Result Demand Refused). z
          >>= λ d. doubted s c locality bare n (granted d) e (bare_session s x)) is
          ∙ doubted_same n (granted d) e x holds
          (λ uses. sym (ap (λ (z : Result Demand Refused). is_ok (compared z)) is)
          ∙ fails (ap (demand_uses s r h x e) is ∙ uses))
          ∙ sym (ap compared is)

  found_same : (n : ℕ) (used : Option Handle) (e : Entry) (found : Option Session)
      → IfSome found (BindingHolds s r)
      → (option_map_or (session_guesses s r c locality n used e) found false ≡ true
      → is_ok (session_grant_if r c locality n used e found) ≡ false)
      → doubted_if s c locality bare n used e (option_map (bare_session s) found)
      ≡ session_grant_if r c locality n used e found
  found_same n used e None holds fails = refl
  found_same n used e (Some x) holds fails = session_same n used e x holds fails

  -- ---- passwords

  unavailable_same : (n : ℕ) (used : Option Handle)
      → is_unavailable bare c.code n used ≡ is_unavailable r c.code n used
  unavailable_same n None = refl
  unavailable_same n (Some h) =
      ap not (available_bare s r h means.AuthValue (nv_use_at c.code (n - 1)))

  used_protection_same : (used : Option Handle) → used_protection bare used ≡ used_protection r used
  used_protection_same None = refl
  used_protection_same (Some h) = protection_bare s r h

  shown_value : (used : Option Handle) → authorizes_secret s r (option_map undemanding used) ≡ false
      → granted_value bare (option_map undemanding used)
      ≡ granted_value r (option_map undemanding used)
  shown_value None free = refl
  shown_value (Some h) free = value_bare s r h free

  abbrev password_with : ℕ → Option Handle → Entry → (unavailable : Bool) → Protection
      → (Protection → Result (Option Grant) Refused) → Result (Option Grant) Refused
  password_with n used e unavailable p last =
      refused_if unavailable (refusal check.Authorization (plain code.AuthUnavailable))
      >>= λ available.
      may_be_tried r.fixed.lockout (option_map undemanding used) p >>= λ tried.
      last p

  abbrev last_of : ℕ → Option Handle → Entry → (secret : Bool) → (value : List ℕ) → Protection
      → Result (Option Grant) Refused
  last_of n used e secret value p =
      cond secret (Err (failure (check_of (option_map undemanding used)) n p))
      (refused_if (not (is_password_of value e.hmac))
      (failure (check_of (option_map undemanding used)) n p)
      >>= λ compared. Ok (option_map undemanding used))

  wrong_last : (a b : Result (Unit {0}) Refused) (e : Refused) (g : Option Grant) (holds : Bool)
      → is_ok (a >>= λ x. b >>= λ y. refused_if (not holds) e
      >>= λ compared. let z : Result (Option Grant) Refused = Ok g in z) ≡ false
      → (a >>= λ x. b >>= λ y. let z : Result (Option Grant) Refused = Err e in z)
      ≡ (a >>= λ x. b >>= λ y. refused_if (not holds) e >>= λ compared. Ok g)
  wrong_last (Err f) b e g holds fails = refl
  wrong_last (Ok u) (Err f) e g holds fails = refl
  wrong_last (Ok u) (Ok v) e g true fails = absurd (true≢false fails)
  wrong_last (Ok u) (Ok v) e g false fails = refl

  password_same : (n : ℕ) (used : Option Handle) (e : Entry)
      → (authorizes_secret s r (option_map undemanding used) ≡ true
      → is_ok (password_grant r c.code n used e) ≡ false)
      → doubted_password s c locality bare n used e ≡ password_grant r c.code n used e
  unfolding password_grant
  password_same n used e fails =
      let g : Option Grant = option_map undemanding used in
      let p : Protection = used_protection r used in
      ap (λ (b : Bool). password_with n used e b (used_protection bare used)
      (last_of n used e (authorizes_secret s bare g) (granted_value bare g)))
      (unavailable_same n used)
      ∙ ap (λ (x : Protection). password_with n used e (is_unavailable r c.code n used) x
      (last_of n used e (authorizes_secret s bare g) (granted_value bare g)))
      (used_protection_same used)
      ∙ ap (λ (b : Bool). password_with n used e (is_unavailable r c.code n used) p
      (last_of n used e b (granted_value bare g))) (authorizes_same g)
      ∙ by (authorizes_secret s r g) refl
    where
      by : (b : Bool) → authorizes_secret s r (option_map undemanding used) ≡ b
          → password_with n used e (is_unavailable r c.code n used) (used_protection r used)
          (last_of n used e b (granted_value bare (option_map undemanding used)))
          ≡ password_with n used e (is_unavailable r c.code n used) (used_protection r used)
          (last_of n used e false (granted_value r (option_map undemanding used)))
      by false free =
          ap (λ (value : List ℕ). password_with n used e (is_unavailable r c.code n used)
          (used_protection r used) (last_of n used e false value)) (shown_value used free)
      by true secret =
          wrong_last
          (refused_if (is_unavailable r c.code n used)
          (refusal check.Authorization (plain code.AuthUnavailable)))
          (may_be_tried r.fixed.lockout (option_map undemanding used) (used_protection r used))
          (failure (check_of (option_map undemanding used)) n (used_protection r used))
          (option_map undemanding used)
          (is_password_of (granted_value r (option_map undemanding used)) e.hmac) (fails secret)

  -- ---- single entries, and all entries

  module _ (bindings : BindingsHold s r) where
    by_same : (k : SessionKind) (n : ℕ) (used : Option Handle) (e : Entry)
        → (guesses_by k s r c locality n used e ≡ true
        → is_ok (grant_by k r c locality n used e) ≡ false)
        → doubted_by s c locality bare k n used e ≡ grant_by k r c locality n used e
    by_same kind.Password n used e fails = password_same n used e fails
    by_same kind.Session n used e fails =
        ap (doubted_if s c locality bare n used e) (session_at_bare s r.sessions e.session)
        ∙ found_same n used e (session_of r e) (bindings e.session) fails
    by_same kind.Other n used e fails = refl

    abbrev Fails : (place : ℕ) → Entry → Type 0
    Fails place e =
        is_guess s r c locality place e ≡ true
        → is_ok (grant r c locality (place + 1) (slice_get (authorized c) place) e) ≡ false

    one_same : (place : ℕ) (e : Entry) → Fails place e
        → doubted_by s c locality bare (session_kind e.session) (place + 1)
        (slice_get (authorized c) place) e
        ≡ grant r c locality (place + 1) (slice_get (authorized c) place) e
    unfolding grant
    one_same place e fails =
        by_same (session_kind e.session) (place + 1) (slice_get (authorized c) place) e fails

    abbrev AllFail : (place : ℕ) → List Entry → Type 0
    AllFail place es = (j : ℕ) (e : Entry) → slice_get es j ≡ Some e → Fails (place + j) e

    first_fails : (place : ℕ) (e : Entry) (es : List Entry) → AllFail place (e ∷ es) → Fails place e
    first_fails place e es all = subst (λ (k : ℕ). Fails k e) (omega arith) (all 0 e refl)

    others_fail : (place next : ℕ) (e : Entry) (es : List Entry) → next ≡ place + 1
        → AllFail place (e ∷ es) → AllFail next es
    others_fail place next e es is all =
        λ j other found. subst (λ (k : ℕ). Fails k other) (omega (arith, is))
        (all (suc j) other found)

    all_same : (before : List (Option Grant)) (es : List Entry) → AllFail (length before) es
        → doubted_grants s c locality bare before es ≡ grants_pass r c locality before es
    all_same before [] all = refl
    all_same before (e ∷ es) all =
        then_same (doubted_by s c locality bare (session_kind e.session) (length before + 1)
        (slice_get (authorized c) (length before)) e)
        (grant r c locality (length before + 1) (slice_get (authorized c) (length before)) e)
        (λ this. doubted_grants s c locality bare (before ++ this ∷ []) es)
        (λ this. grants_pass r c locality (before ++ this ∷ []) es)
        (one_same (length before) e (first_fails (length before) e es all))
        (λ this. all_same (before ++ this ∷ []) es
        (others_fail (length before) (length (before ++ this ∷ [])) e es
        (length-append before (this ∷ [])) all))

    pub doubted_is : GuessesFail s r c locality
        → doubted_authorization s c locality bare ≡ authorize r c locality
    unfolding authorize
    doubted_is fail =
        rw (
          all_own_same s covers r c locality [] c.entries,
          all_same [] c.entries
              (λ j e found. subst (λ (k : ℕ). Fails k e) (omega arith) (fail j e found)),
        ) refl
