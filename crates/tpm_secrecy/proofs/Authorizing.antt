-- If every guess is assumed to be wrong, a device authorizes the same commands as the device with
-- its secrets erased. Therefore, devices that differ in their secrets authorize the same commands
-- as long as all guesses are wrong.
use Rattle.std.proofs.Common.{ap, inl, inr, refl, sym, ◌∙◌}
use Rattle.std.proofs.lemmas.Bool.{false≢true, true≢false}
use Rattle.std.proofs.lemmas.Slice.Eq.{bytes_eq-Decides}
use Rattle.std.specs.List.{find}
use Rattle.std.specs.Option.{option_map_or}
use Rattle.std.specs.Prelude.{Bool, Err, IfSome, List, None, Ok, Option, Result, Some, [], cond, false, is_none, is_ok, length, map, not, option_map, true, ℕ, ◌&&◌, ◌++◌, ◌+◌, ◌-◌, ◌||◌, ◌∷◌, ◌≡◌, ◌≢◌}
use Rattle.std.specs.Str.{bytes_eq}
use Rattle.tpm_auth.specs.Comparison.{check_of, failure, is_password_of, may_be_tried}
use Rattle.tpm_auth.specs.Entries.{entries_pass, entry_passes, kind_passes, lacks_cipher, reference_of, session_of}
use Rattle.tpm_auth.specs.SessionGrant.{binding_protection, comparison, comparison_holds, demand_by, demand_of_session, demands_password, entry_parts, entry_protection, granted_value, has_value_in_key, hashed_command, is_authentic, is_bound_to, is_password_demand, nonce_where, or_protection, takes_value, use_of, used_auth_value}
use Rattle.tpm_auth.specs.declared.session_grant.Grant.{Grant}
use Rattle.tpm_bytes.specs.Reading.{refused_if, ◌>>=◌}
use Rattle.tpm_commands.specs.CommandCode.{code_number, nv_use_at}
use Rattle.tpm_containers.specs.Slots.{free}
use Rattle.tpm_mac.specs.declared.algorithm.HashAlg.{HashAlg}
use Rattle.tpm_policy.specs.Use.{UseParts, use_passes}
use Rattle.tpm_policy.specs.declared.state.Demand.{Demand}
use Rattle.tpm_policy_meaning.proofs.Chains.{is_same_or_not}
use Rattle.tpm_record.specs.Entity.{auth_value_of, name_of, protection_of}
use Rattle.tpm_record.specs.Record.{Record}
use Rattle.tpm_session.specs.ParameterHash.{OfCommand, parameter_hash_of}
use Rattle.tpm_session.specs.Sessions.{session_at}
use Rattle.tpm_session.specs.declared.session.Binding.{Binding}
use Rattle.tpm_session.specs.declared.session.Protection.{Protection}
use Rattle.tpm_session.specs.declared.session.Session.{Session}
use Rattle.tpm_step.proofs.rows.Binding.{asked}
use Rattle.tpm_types_common.proofs.Spelled.{first}
use Rattle.tpm_types_common.specs.Handle.{session_kind}
use Rattle.tpm_types_common.specs.Refused.{checked_result}
use Rattle.tpm_types_common.specs.SessionAttributes.{uses_cipher}
use Rattle.tpm_types_common.specs.Symmetric.{is_null}
use Rattle.tpm_types_common.specs.declared.handle.Handle.{Handle}
use Rattle.tpm_types_common.specs.declared.handle.SessionKind.{SessionKind}
use Rattle.tpm_types_common.specs.declared.refused.Refused.{Refused}
use Rattle.tpm_types_common.specs.declared.session_type.SessionType.{SessionType}
use Rattle.tpm_types_command.specs.AuthEntry.{Entry}
use Rattle.tpm_types_command.specs.Command.{Whole}
use Rattle.tpm_row_secrecy.proofs.Bare.{unless_open}
use Rattle.tpm_row_secrecy.proofs.Entities.{available_bare, key_covered, name_bare, policy_bare, protection_bare, session_at_bare, value_bare, written_bare}
use Rattle.tpm_row_secrecy.specs.Secrecy.{CoversKeys, Secrecy, bare_binding, bare_session, has_secret_key, has_secret_value, without_secrets}
use Rattle.tpm_secrecy.specs.Guesses.{BindingHolds, is_demanding, is_hmac_session, session_uses, uses_encryption}
use Rattle.tpm_policy.specs.declared.state.Demand.TheVariants as demand
use Rattle.tpm_session.specs.declared.session.Protection.TheVariants as protection
use Rattle.tpm_types_common.specs.declared.check.Check.TheVariants as check
use Rattle.tpm_types_common.specs.declared.handle.SessionKind.TheVariants as kind
use Rattle.tpm_types_common.specs.declared.session_type.SessionType.TheVariants as type
use Rattle.tpm_record.specs.declared.entity.Means.TheVariants as means

pub then_same : {A B E : Type 0} (x y : Result A E) (f g : A → Result B E) → x ≡ y
    → ((a : A) → f a ≡ g a) → (x >>= f) ≡ (y >>= g)
then_same {A} {B} {E} x y f g first same = ap (λ (z : Result A E). z >>= f) first ∙ by y
  where
    by : (z : Result A E) → (z >>= f) ≡ (z >>= g)
    by (Ok a) = same a
    by (Err e) = refl

pub neither : (a b : Bool) → (a || b) ≡ false → (a ≡ false) × (b ≡ false)
neither true b is = absurd (false≢true (sym is))
neither false b is = (refl, is)

pub not_second : (a b : Bool) → (a && b) ≡ false → a ≡ true → b ≡ false
not_second true b is first = is
not_second false b is first = absurd (false≢true first)

-- ---- sessions that are not secret

bare_bindings : (s : Secrecy) (b : Option Binding) → has_secret_key s b ≡ false
    → option_map (bare_binding s) b ≡ b
bare_bindings s None shown = refl
bare_bindings s (Some b) shown =
    ap (λ (value : List ℕ). let x : Option Binding = Some (record b { auth_value = value }) in x)
    (unless_open _ b.auth_value shown)

pub session_shown : (s : Secrecy) (x : Session) → has_secret_key s x.binding ≡ false
    → bare_session s x ≡ x
session_shown s x shown =
    ap (λ (key : List ℕ). record x { key = key; binding = option_map (bare_binding s) x.binding })
    (unless_open _ x.key shown)
    ∙ ap (λ (b : Option Binding). record x { binding = b }) (bare_bindings s x.binding shown)

-- ---- authorization values that an entry does not use

no_value_in_key : (k : SessionType) (bound : Bool) (d : Demand) → is_hmac_session k ≡ false
    → is_demanding d ≡ false → has_value_in_key k bound d ≡ false
no_value_in_key type.Hmac bound d hmac free = absurd (false≢true (sym hmac))
no_value_in_key type.Policy bound demand.None hmac free = refl
no_value_in_key type.Policy bound demand.AuthValue hmac free = absurd (false≢true (sym free))
no_value_in_key type.Policy bound demand.Password hmac free = absurd (false≢true (sym free))
no_value_in_key type.Trial bound demand.None hmac free = refl
no_value_in_key type.Trial bound demand.AuthValue hmac free = absurd (false≢true (sym free))
no_value_in_key type.Trial bound demand.Password hmac free = absurd (false≢true (sym free))

no_password : (d : Demand) → is_demanding d ≡ false → is_password_demand d ≡ false
no_password demand.None free = refl
no_password demand.AuthValue free = refl
no_password demand.Password free = absurd (false≢true (sym free))

same_protection : (p : Protection) → or_protection p p ≡ p
same_protection protection.None = refl
same_protection protection.Tries = refl
same_protection protection.Lockout = refl

other_name : (one other : List ℕ) → one ≢ other → bytes_eq one other ≡ false
other_name one other apart = by (bytes_eq one other) refl
  where
    by : (b : Bool) → bytes_eq one other ≡ b → b ≡ false
    by true is = absurd (apart ((bytes_eq-Decides one other).0 is))
    by false is = refl

-- the refusal of an entry whose password or HMAC is assumed to be wrong
abbrev pub wrong_comparison : Record → ℕ → Option Grant → Session → Result (Option Grant) Refused
wrong_comparison t n g x =
    may_be_tried t.fixed.lockout g (entry_protection t x g) >>= λ tried.
    Err (failure (check_of g) n (entry_protection t x g))

module _ (s : Secrecy) (covers : CoversKeys s) (r : Record) where
  abbrev bare : Record
  bare = without_secrets s r

  -- ---- facts that do not depend on secrets

  pub seen_session : {X : Type 0} (see : Option Session → X)
      → ((found : Option Session) → see (option_map (bare_session s) found) ≡ see found)
      → (h : Handle) → see (session_at bare.sessions h) ≡ see (session_at r.sessions h)
  seen_session see same h = ap see (session_at_bare s r.sessions h) ∙ same (session_at r.sessions h)

  none_seen : (found : Option Session) → is_none (option_map (bare_session s) found) ≡ is_none found
  none_seen None = refl
  none_seen (Some x) = refl

  abbrev has_no_cipher : Option Session → Bool
  has_no_cipher found = option_map_or (λ (x : Session). is_null x.symmetric) found false

  cipher_seen : (found : Option Session) → has_no_cipher (option_map (bare_session s) found)
      ≡ has_no_cipher found
  cipher_seen None = refl
  cipher_seen (Some x) = refl

  abbrev nonce_in : Option Session → List ℕ
  nonce_in found = option_map_or (λ (x : Session). x.nonce_tpm) found []

  nonce_seen : (found : Option Session) → nonce_in (option_map (bare_session s) found)
      ≡ nonce_in found
  nonce_seen None = refl
  nonce_seen (Some x) = refl

  -- whether a session with this binding is bound to the entity that this handle names
  bound_by : Record → Binding → Handle → Bool
  bound_by t b h = bytes_eq b.name (name_of t h) && bytes_eq b.auth_value (auth_value_of t h)

  unbound : (t : Record) (b : Binding) (h : Handle) → b.name ≢ name_of t h → bound_by t b h ≡ false
  unfolding bound_by
  unbound t b h apart = ap (λ (same : Bool). same && bytes_eq b.auth_value (auth_value_of t h))
      (other_name b.name (name_of t h) apart)

  binding_same : (b : Binding) (h : Handle) → s.bound_names b.name ≡ false
      → bound_by bare b h ≡ bound_by r b h
  unfolding bound_by
  binding_same b h shown = by (has_secret_value s r h) refl
    where
      by : (secret : Bool) → has_secret_value s r h ≡ secret → bound_by bare b h ≡ bound_by r b h
      by false is =
          ap (λ (name : List ℕ). bytes_eq b.name name
          && bytes_eq b.auth_value (auth_value_of bare h)) (name_bare s r h)
          ∙ ap (λ (value : List ℕ). bytes_eq b.name (name_of r h) && bytes_eq b.auth_value value)
          (value_bare s r h is)
      by true is =
          let apart : b.name ≢ name_of r h =
          λ same. false≢true (sym shown ∙ ap s.bound_names same
          ∙ key_covered s covers r h is) in
          unbound bare b h (λ same. apart (same ∙ name_bare s r h)) ∙ sym (unbound r b h apart)

  bound_same : (x : Session) (h : Handle) → has_secret_key s x.binding ≡ false
      → is_bound_to bare x h ≡ is_bound_to r x h
  unfolding is_bound_to bound_by
  bound_same x h shown = by x.binding shown
    where
      by : (b : Option Binding) → has_secret_key s b ≡ false
          → option_map_or (λ (b : Binding). bound_by bare b h) b false
          ≡ option_map_or (λ (b : Binding). bound_by r b h) b false
      by None shown = refl
      by (Some b) shown = binding_same b h shown

  takes_same : (x : Session) (g : Grant) → has_secret_key s x.binding ≡ false
      → takes_value bare x g ≡ takes_value r x g
  unfolding takes_value
  takes_same x g shown = ap (λ (b : Bool). has_value_in_key x.kind b g.demand)
      (bound_same x g.handle shown)

  -- ---- entries that use no secret

  pub used_same : (x : Session) (e : Entry) (g : Option Grant) → session_uses s r x e g ≡ false
      → used_auth_value bare x g ≡ used_auth_value r x g
  unfolding used_auth_value takes_value
  used_same x e None free = refl
  used_same x e (Some g) free = by (has_secret_value s r g.handle) refl
    where
      parts : (has_secret_key s x.binding ≡ false)
          × ((has_secret_value s r g.handle
          && (is_hmac_session x.kind || is_demanding g.demand || uses_encryption e)) ≡ false)
      parts = neither _ _ free

      none : (t : Record) → has_secret_value s r g.handle ≡ true → takes_value t x g ≡ false
      none t secret =
          let ways = neither (is_hmac_session x.kind) (is_demanding g.demand)
          (neither (is_hmac_session x.kind || is_demanding g.demand) (uses_encryption e)
          (not_second _ _ parts.1 secret)).0 in
          no_value_in_key x.kind (is_bound_to t x g.handle) g.demand ways.0 ways.1

      by : (b : Bool) → has_secret_value s r g.handle ≡ b
          → cond (takes_value bare x g) (auth_value_of bare g.handle) []
          ≡ cond (takes_value r x g) (auth_value_of r g.handle) []
      by false is =
          ap (λ (b : Bool). cond b (auth_value_of bare g.handle) []) (takes_same x g parts.0)
          ∙ ap (λ (value : List ℕ). cond (takes_value r x g) value []) (value_bare s r g.handle is)
      by true is =
          ap (λ (b : Bool). cond b (auth_value_of bare g.handle) []) (none bare is)
          ∙ sym (ap (λ (b : Bool). cond b (auth_value_of r g.handle) []) (none r is))

  password_same : (x : Session) (e : Entry) (g : Option Grant) → session_uses s r x e g ≡ false
      → demands_password g ≡ true → granted_value bare g ≡ granted_value r g
  password_same x e None free asked = refl
  password_same x e (Some g) free asked = by (has_secret_value s r g.handle) refl
    where
      by : (b : Bool) → has_secret_value s r g.handle ≡ b
          → auth_value_of bare g.handle ≡ auth_value_of r g.handle
      by false is = value_bare s r g.handle is
      by true is =
          let parts = neither (has_secret_key s x.binding) _ free in
          let ways = neither (is_hmac_session x.kind || is_demanding g.demand) (uses_encryption e)
          (not_second _ _ parts.1 is) in
          absurd
          (false≢true
          (sym
          (no_password g.demand
          (neither (is_hmac_session x.kind) (is_demanding g.demand) ways.0).1) ∙ asked))

  module _ (c : Whole) (locality : ℕ) where
    -- ---- each entry's own checks

    kind_same : (n : ℕ) (e : Entry) (k : SessionKind) → kind_passes bare n e k ≡ kind_passes r n e k
    kind_same n e kind.Other = refl
    kind_same n e kind.Password = refl
    kind_same n e kind.Session =
        ap (λ (b : Bool). refused_if b (reference_of n)) (seen_session is_none none_seen e.session)

    cipher_same : (e : Entry) → lacks_cipher bare e ≡ lacks_cipher r e
    cipher_same e = ap (λ (b : Bool). uses_cipher e.attributes && b)
        (seen_session has_no_cipher cipher_seen e.session)

    own_same : (before : List Entry) (e : Entry)
        → entry_passes bare c.code before e ≡ entry_passes r c.code before e
    unfolding entry_passes
    own_same before e = rw (kind_same (length before + 1) e (session_kind e.session), cipher_same e)
        refl

    pub all_own_same : (before es : List Entry)
        → entries_pass bare c.code before es ≡ entries_pass r c.code before es
    all_own_same before [] = refl
    all_own_same before (e ∷ es) =
        then_same (entry_passes bare c.code before e) (entry_passes r c.code before e)
        (λ this. entries_pass bare c.code (before ++ e ∷ []) es)
        (λ this. entries_pass r c.code (before ++ e ∷ []) es)
        (own_same before e) (λ this. all_own_same (before ++ e ∷ []) es)

    -- ---- the message of an HMAC

    nonce_same : (test : Entry → Bool) (entries : List Entry)
        → nonce_where bare test entries ≡ nonce_where r test entries
    unfolding nonce_where
    nonce_same test entries = by (find test entries)
      where
        by : (found : Option Entry)
            → option_map_or (λ (e : Entry). nonce_in (session_of bare e)) found []
            ≡ option_map_or (λ (e : Entry). nonce_in (session_of r e)) found []
        by None = refl
        by (Some e) = seen_session nonce_in nonce_seen e.session

    names_same : (handles : List Handle) → map (name_of bare) handles ≡ map (name_of r) handles
    names_same [] = refl
    names_same (h ∷ hs) = ap (λ (name : List ℕ). name ∷ map (name_of bare) hs) (name_bare s r h)
        ∙ ap (λ (names : List (List ℕ)). name_of r h ∷ names) (names_same hs)

    hash_same : (hash : HashAlg) → parameter_hash_of hash (hashed_command bare c)
        ≡ parameter_hash_of hash (hashed_command r c)
    hash_same hash =
        ap (λ (names : List (List ℕ)). parameter_hash_of hash
        (OfCommand (code_number c.code) names c.parameters)) (names_same c.handles)

    text_same : (n : ℕ) (e : Entry) (x : Session) → entry_parts bare c n e x ≡ entry_parts r c n e x
    unfolding entry_parts
    text_same n e x = rw (hash_same x.hash, nonce_same _ _, nonce_same _ _) refl

    -- ---- what a session's policy requires in its entry

    use_same : (n : ℕ) (h : Handle) (x : Session)
        → use_of bare c locality n h x ≡ use_of r c locality n h x
    unfolding use_of
    use_same n h x =
        rw (
          available_bare s r h means.Policy (nv_use_at c.code (n - 1)),
          hash_same x.hash,
          written_bare s r h,
          policy_bare s r h,
        ) refl

    demand_same : (k : SessionType) (n : ℕ) (h : Handle) (x : Session)
        → demand_by k bare c locality n h x ≡ demand_by k r c locality n h x
    demand_same type.Hmac n h x =
        rw (available_bare s r h means.AuthValue (nv_use_at c.code (n - 1))) refl
    demand_same type.Policy n h x =
        ap (λ (u : UseParts). checked_result check.Authorization (use_passes x.policy u))
        (use_same n h x)
    demand_same type.Trial n h x =
        ap (λ (u : UseParts). checked_result check.Authorization (use_passes x.policy u))
        (use_same n h x)

    bare_demand : (k : SessionType) (n : ℕ) (h : Handle) (x : Session)
        → demand_by k bare c locality n h (bare_session s x) ≡ demand_by k bare c locality n h x
    unfolding use_of
    bare_demand type.Hmac n h x = refl
    bare_demand type.Policy n h x = refl
    bare_demand type.Trial n h x = refl

    pub demanded_same : (n : ℕ) (h : Handle) (x : Session)
        → demand_of_session bare c locality n h (bare_session s x)
        ≡ demand_of_session r c locality n h x
    unfolding demand_of_session
    demanded_same n h x = bare_demand x.kind n h x ∙ demand_same x.kind n h x

    -- ---- comparisons that use no secret

    authentic_same : (n : ℕ) (g : Option Grant) (e : Entry) (x : Session)
        → session_uses s r x e g ≡ false → is_authentic bare c n g e x ≡ is_authentic r c n g e x
    unfolding is_authentic
    authentic_same n g e x free = rw (used_same x e g free, text_same n e x) refl

    holds_same : (n : ℕ) (g : Option Grant) (e : Entry) (x : Session)
        → session_uses s r x e g ≡ false → comparison_holds bare c n g e x
        ≡ comparison_holds r c n g e x
    unfolding comparison_holds
    holds_same n g e x free = by (demands_password g) refl
      where
        by : (b : Bool) → demands_password g ≡ b
            → cond b (is_password_of (granted_value bare g) e.hmac) (is_authentic bare c n g e x)
            ≡ cond b (is_password_of (granted_value r g) e.hmac) (is_authentic r c n g e x)
        by true asked = ap (λ (value : List ℕ). is_password_of value e.hmac)
            (password_same x e g free asked)
        by false asked = authentic_same n g e x free

    shown_protection : (x : Session) (g : Option Grant) → has_secret_key s x.binding ≡ false
        → entry_protection bare x g ≡ entry_protection r x g
    unfolding entry_protection
    shown_protection x None shown = refl
    shown_protection x (Some g) shown = rw (takes_same x g shown, protection_bare s r g.handle) refl

    abbrev compared_with : (n : ℕ) → Option Grant → Protection → Bool
        → Result (Option Grant) Refused
    compared_with n g p holds =
        may_be_tried r.fixed.lockout g p >>= λ tried.
        refused_if (not holds) (failure (check_of g) n p) >>= λ compared.
        Ok g

    pub comparison_same : (n : ℕ) (g : Option Grant) (e : Entry) (x : Session)
        → session_uses s r x e g ≡ false → comparison bare c n g e (bare_session s x)
        ≡ comparison r c n g e x
    comparison_same n g e x free =
        let shown : has_secret_key s x.binding ≡ false = (neither _ _ free).0 in
        ap (comparison bare c n g e) (session_shown s x shown)
        ∙ ap (λ (p : Protection). compared_with n g p (comparison_holds bare c n g e x))
        (shown_protection x g shown)
        ∙ ap (compared_with n g (entry_protection r x g)) (holds_same n g e x free)

    -- ---- guesses that are assumed to be wrong

    fails_so : (x : Result (Unit {0}) Refused) (e : Refused) (g : Option Grant) (holds : Bool)
        → is_ok (x >>= λ tried. refused_if (not holds) e
        >>= λ compared. let y : Result (Option Grant) Refused = Ok g in y) ≡ false
        → (x >>= λ tried. refused_if (not holds) e
        >>= λ compared. let y : Result (Option Grant) Refused = Ok g in y)
        ≡ (x >>= λ tried. Err e)
    fails_so (Err f) e g holds fails = refl
    fails_so (Ok u) e g true fails = absurd (true≢false fails)
    fails_so (Ok u) e g false fails = refl

    by_binding : (t : Record) (x : Session) (g : Grant)
        → protection_of t g.handle ≡ binding_protection x
        → entry_protection t x (Some g) ≡ binding_protection x
    unfolding entry_protection
    by_binding t x g same = by (takes_value t x g || is_password_demand g.demand)
      where
        by : (b : Bool) → cond b (or_protection (protection_of t g.handle) (binding_protection x))
            (binding_protection x) ≡ binding_protection x
        by true = ap (λ (p : Protection). or_protection p (binding_protection x)) same
            ∙ same_protection (binding_protection x)
        by false = refl

    not_bound : (t : Record) (x : Session) (b : Binding) (h : Handle) → x.binding ≡ Some b
        → b.name ≢ name_of t h → is_bound_to t x h ≡ false
    unfolding is_bound_to bound_by
    not_bound t x b h is apart =
        ap (λ (found : Option Binding). option_map_or (λ (b : Binding). bound_by t b h) found false)
        is ∙ unbound t b h apart

    binding_bare : (b : Option Binding)
        → option_map_or (λ (b : Binding). b.protection) (option_map (bare_binding s) b)
        protection.None ≡ option_map_or (λ (b : Binding). b.protection) b protection.None
    binding_bare None = refl
    binding_bare (Some b) = refl

    other_entity : (x : Session) (b : Binding) (g : Grant) → x.binding ≡ Some b
        → b.name ≢ name_of r g.handle → entry_protection bare (bare_session s x) (Some g)
        ≡ entry_protection r x (Some g)
    unfolding entry_protection takes_value
    other_entity x b g is apart = rw (
      not_bound bare (bare_session s x) (bare_binding s b) g.handle
          (ap (option_map (bare_binding s)) is) (λ same. apart (same ∙ name_bare s r g.handle)),
      not_bound r x b g.handle is apart,
      protection_bare s r g.handle,
      binding_bare x.binding,
    ) refl

    bound_entity : (x : Session) (b : Binding) (g : Grant) → x.binding ≡ Some b
        → protection_of r g.handle ≡ b.protection
        → entry_protection bare (bare_session s x) (Some g) ≡ entry_protection r x (Some g)
    bound_entity x b g is same =
        let kept : protection_of r g.handle ≡ binding_protection x =
        same
        ∙ sym (ap (λ (found : Option Binding). option_map_or (λ (b : Binding). b.protection)
        found protection.None) is) in
        by_binding bare (bare_session s x) g
        (protection_bare s r g.handle ∙ kept ∙ sym (binding_bare x.binding))
        ∙ binding_bare x.binding
        ∙ sym (by_binding r x g kept)

    secret_protection : (x : Session) (g : Grant) → BindingHolds s r x
        → has_secret_key s x.binding ≡ true → entry_protection bare (bare_session s x) (Some g)
        ≡ entry_protection r x (Some g)
    secret_protection x g holds secret = by x.binding refl holds secret
      where
        by : (found : Option Binding) → x.binding ≡ found
            → IfSome found (λ b. (h : Handle) → s.bound_names b.name ≡ true → b.name ≡ name_of r h
            → protection_of r h ≡ b.protection) → has_secret_key s found ≡ true
            → entry_protection bare (bare_session s x) (Some g) ≡ entry_protection r x (Some g)
        by None is holds secret = absurd (false≢true secret)
        by (Some b) is holds secret =
            elim (is_same_or_not b.name (name_of r g.handle)) [
              | inl same ↦ bound_entity x b g is (holds g.handle secret same)
              | inr apart ↦ other_entity x b g is apart
            ]

    none_same : (x : Session) → entry_protection bare (bare_session s x) None
        ≡ entry_protection r x None
    unfolding entry_protection
    none_same x = binding_bare x.binding

    protection_same : (x : Session) (g : Option Grant) → BindingHolds s r x
        → entry_protection bare (bare_session s x) g ≡ entry_protection r x g
    protection_same x None holds = none_same x
    protection_same x (Some g) holds = by (has_secret_key s x.binding) refl
      where
        by : (b : Bool) → has_secret_key s x.binding ≡ b
            → entry_protection bare (bare_session s x) (Some g) ≡ entry_protection r x (Some g)
        by true secret = secret_protection x g holds secret
        by false shown = ap (λ (y : Session). entry_protection bare y (Some g))
            (session_shown s x shown) ∙ shown_protection x (Some g) shown

    pub wrong_same : (n : ℕ) (g : Option Grant) (e : Entry) (x : Session) → BindingHolds s r x
        → is_ok (comparison r c n g e x) ≡ false
        → wrong_comparison bare n g (bare_session s x) ≡ comparison r c n g e x
    wrong_same n g e x holds fails =
        ap (λ (p : Protection). may_be_tried r.fixed.lockout g p
        >>= λ tried. let y : Result (Option Grant) Refused =
        Err (failure (check_of g) n p) in y) (protection_same x g holds)
        ∙ sym (fails_so (may_be_tried r.fixed.lockout g (entry_protection r x g))
        (failure (check_of g) n (entry_protection r x g)) g (comparison_holds r c n g e x)
        fails)
