-- How a device authorizes a command depends on only four parts of the device: its sessions, its
-- lockout state, its number of PCR updates, and the facts about the entity that each handle names.
use Rattle.std.proofs.Common.{◌≡◌, ℕ, ◌+◌, ◌-◌, Bool, false, cond, List, [], ◌∷◌, ◌++◌, length, map, Option, Some, None, option_map, slice_get, Result, Ok, Err, refl, ap, ◌∙◌}
use Rattle.std.specs.Prelude.{◌&&◌, not, is_none}
use Rattle.std.specs.List.{find}
use Rattle.std.specs.Option.{option_map_or}
use Rattle.std.specs.Str.{bytes_eq}
use Rattle.tpm_bytes.specs.Reading.{◌>>=◌, refused_if}
use Rattle.tpm_policy.specs.Use.{EntityParts, UseParts, use_passes}
use Rattle.tpm_session.specs.ParameterHash.{OfCommand, parameter_hash_of}
use Rattle.tpm_session.specs.Sessions.{session_at}
use Rattle.tpm_session.specs.declared.session.Binding.{Binding}
use Rattle.tpm_session.specs.declared.session.Protection.{Protection}
use Rattle.tpm_session.specs.declared.session.Session.{Session}
use Rattle.tpm_types_common.specs.Handle.{session_kind}
use Rattle.tpm_types_common.specs.Rc.{plain}
use Rattle.tpm_types_common.specs.Refused.{checked_result, refusal}
use Rattle.tpm_types_common.specs.declared.rc.ResponseCode.TheVariants as code
use Rattle.tpm_lockout.specs.Lockout.{LockoutState}
use Rattle.tpm_auth.specs.Comparison.{check_of, failure, is_password_of, may_be_tried}
use Rattle.tpm_types_common.specs.Symmetric.{is_null}
use Rattle.tpm_types_common.specs.SessionAttributes.{uses_cipher}
use Rattle.tpm_types_common.specs.declared.check.Check.TheVariants as check
use Rattle.tpm_types_common.specs.declared.handle.Handle.{Handle}
use Rattle.tpm_types_common.specs.declared.handle.SessionKind.{SessionKind}
use Rattle.tpm_types_common.specs.declared.handle.SessionKind.TheVariants as kind
use Rattle.tpm_types_common.specs.declared.nv_use.NvUse.{NvUse}
use Rattle.tpm_types_common.specs.declared.refused.Refused.{Refused}
use Rattle.tpm_types_common.specs.declared.session_type.SessionType.{SessionType}
use Rattle.tpm_types_common.specs.declared.session_type.SessionType.TheVariants as type
use Rattle.tpm_types_command.specs.AuthEntry.{Entry}
use Rattle.tpm_types_command.specs.Command.{Whole}
use Rattle.tpm_commands.specs.CommandCode.{code_number, nv_use_at, role_at}
use Rattle.tpm_record.specs.Entity.{auth_value_of, is_available, name_of, policy_of, protection_of, written_of}
use Rattle.tpm_record.specs.Record.{Record}
use Rattle.tpm_record.specs.declared.entity.Means.{Means}
use Rattle.tpm_record.specs.declared.entity.Means.TheVariants as means
use Rattle.tpm_auth.specs.Entries.{entries_pass, entry_passes, kind_passes, lacks_cipher, reference_of}
use Rattle.tpm_auth.specs.Grant.{authorize, authorized, grant, grant_by, grants_pass, is_unavailable, password_grant, session_grant_if, undemanding, used_protection}
use Rattle.tpm_auth.specs.SessionGrant.{comparison, comparison_holds, demand_by, demand_of_session, entry_nonce, entry_parts, entry_protection, granted_value, has_value_in_key, hashed_command, is_authentic, is_bound_to, nonce_where, session_grant, takes_value, use_of, used_auth_value}
use Rattle.tpm_auth.specs.declared.session_grant.Grant.{Grant}

-- Two devices have the same sessions, lockout state and number of PCR updates, and the same facts
-- about the entity that each handle names.
pub record HaveSame (r t : Record) : Type 0 where
  pub sessions : (handle : Handle) → session_at r.sessions handle ≡ session_at t.sessions handle
  pub updates : r.fixed.banks.update_count ≡ t.fixed.banks.update_count
  pub lockout : r.fixed.lockout ≡ t.fixed.lockout
  pub names : (handle : Handle) → name_of r handle ≡ name_of t handle
  pub values : (handle : Handle) → auth_value_of r handle ≡ auth_value_of t handle
  pub protection : (handle : Handle) → protection_of r handle ≡ protection_of t handle
  pub policy : (handle : Handle) → policy_of r handle ≡ policy_of t handle
  pub written : (handle : Handle) → written_of r handle ≡ written_of t handle
  pub available : (handle : Handle) (means : Means) (nv_use : NvUse)
      → is_available r handle means nv_use ≡ is_available t handle means nv_use

bind_same : {A B : Type 0} {E : Type 0} (x y : Result A E) (f g : A → Result B E) → x ≡ y
    → ((a : A) → f a ≡ g a) → (x >>= f) ≡ (y >>= g)
bind_same {A} {B} {E} x y f g first then = ap (λ (z : Result A E). z >>= f) first ∙ by y
  where
    by : (z : Result A E) → (z >>= f) ≡ (z >>= g)
    by (Ok a) = then a
    by (Err e) = refl

module _ (r t : Record) (c : Whole) (locality : ℕ) (same : HaveSame r t) where
  -- ---- each entry's own checks

  kind_same : (n : ℕ) (e : Entry) (k : SessionKind) → kind_passes r n e k ≡ kind_passes t n e k
  kind_same n e kind.Other = refl
  kind_same n e kind.Password = refl
  kind_same n e kind.Session =
      ap (λ (s : Option Session). refused_if (is_none s) (reference_of n)) (same.sessions e.session)

  cipher_same : (e : Entry) → lacks_cipher r e ≡ lacks_cipher t e
  cipher_same e =
      ap (λ (found : Option Session). uses_cipher e.attributes
      && option_map_or (λ (s : Session). is_null s.symmetric) found false)
      (same.sessions e.session)

  entry_same : (before : List Entry) (e : Entry)
      → entry_passes r c.code before e ≡ entry_passes t c.code before e
  unfolding entry_passes
  entry_same before e = rw (kind_same (length before + 1) e (session_kind e.session), cipher_same e)
      refl

  entries_same : (before es : List Entry) → entries_pass r c.code before es
      ≡ entries_pass t c.code before es
  entries_same before [] = refl
  entries_same before (e ∷ es) =
      bind_same (entry_passes r c.code before e) (entry_passes t c.code before e)
      (λ this. entries_pass r c.code (before ++ e ∷ []) es)
      (λ this. entries_pass t c.code (before ++ e ∷ []) es)
      (entry_same before e) (λ this. entries_same (before ++ e ∷ []) es)

  -- ---- the key and the message of an HMAC

  bound_same : (s : Session) (handle : Handle) → is_bound_to r s handle ≡ is_bound_to t s handle
  unfolding is_bound_to
  bound_same s handle =
      ap (λ (name : List ℕ). option_map_or
      (λ (b : Binding). bytes_eq b.name name
      && bytes_eq b.auth_value (auth_value_of r handle)) s.binding false)
      (same.names handle)
      ∙ ap (λ (value : List ℕ). option_map_or
      (λ (b : Binding). bytes_eq b.name (name_of t handle) && bytes_eq b.auth_value value)
      s.binding false) (same.values handle)

  takes_same : (s : Session) (g : Grant) → takes_value r s g ≡ takes_value t s g
  unfolding takes_value
  takes_same s g = ap (λ (b : Bool). has_value_in_key s.kind b g.demand) (bound_same s g.handle)

  used_value_same : (s : Session) (g : Option Grant) → used_auth_value r s g ≡ used_auth_value t s g
  unfolding used_auth_value
  used_value_same s None = refl
  used_value_same s (Some g) =
      ap (λ (b : Bool). cond b (auth_value_of r g.handle) []) (takes_same s g)
      ∙ ap (λ (value : List ℕ). cond (takes_value t s g) value []) (same.values g.handle)

  nonce_same : (test : Entry → Bool) (entries : List Entry)
      → nonce_where r test entries ≡ nonce_where t test entries
  unfolding nonce_where
  nonce_same test entries = by (find test entries)
    where
      by : (found : Option Entry) → option_map_or (entry_nonce r) found []
          ≡ option_map_or (entry_nonce t) found []
      by None = refl
      by (Some e) =
          ap (λ (found : Option Session). option_map_or (λ (s : Session). s.nonce_tpm) found [])
          (same.sessions e.session)

  names_same : (handles : List Handle) → map (name_of r) handles ≡ map (name_of t) handles
  names_same [] = refl
  names_same (handle ∷ handles) =
      ap (λ (name : List ℕ). name ∷ map (name_of r) handles) (same.names handle)
      ∙ ap (λ (names : List (List ℕ)). name_of t handle ∷ names) (names_same handles)

  hash_same : (s : Session) → parameter_hash_of s.hash (hashed_command r c)
      ≡ parameter_hash_of s.hash (hashed_command t c)
  hash_same s =
      ap (λ (names : List (List ℕ)). parameter_hash_of s.hash
      (OfCommand (code_number c.code) names c.parameters)) (names_same c.handles)

  parts_same : (n : ℕ) (e : Entry) (s : Session) → entry_parts r c n e s ≡ entry_parts t c n e s
  unfolding entry_parts
  parts_same n e s = rw (hash_same s, nonce_same _ _, nonce_same _ _) refl

  authentic_same : (n : ℕ) (g : Option Grant) (e : Entry) (s : Session)
      → is_authentic r c n g e s ≡ is_authentic t c n g e s
  unfolding is_authentic
  authentic_same n g e s = rw (used_value_same s g, parts_same n e s) refl

  value_same : (g : Option Grant) → granted_value r g ≡ granted_value t g
  value_same None = refl
  value_same (Some g) = same.values g.handle

  holds_same : (n : ℕ) (g : Option Grant) (e : Entry) (s : Session)
      → comparison_holds r c n g e s ≡ comparison_holds t c n g e s
  unfolding comparison_holds
  holds_same n g e s = rw (value_same g, authentic_same n g e s) refl

  protection_same : (s : Session) (g : Option Grant)
      → entry_protection r s g ≡ entry_protection t s g
  unfolding entry_protection
  protection_same s None = refl
  protection_same s (Some g) = rw (takes_same s g, same.protection g.handle) refl

  -- ---- the grant of an entry

  abbrev compared_by : (n : ℕ) → Option Grant → LockoutState → Protection → Bool
      → Result (Option Grant) Refused
  compared_by n g lockout protection holds =
      may_be_tried lockout g protection
      >>= λ tried. refused_if (not holds) (failure (check_of g) n protection)
      >>= λ compared. Ok g

  comparison_same : (n : ℕ) (g : Option Grant) (e : Entry) (s : Session)
      → comparison r c n g e s ≡ comparison t c n g e s
  comparison_same n g e s =
      ap (λ (lockout : LockoutState). compared_by n g lockout (entry_protection r s g)
      (comparison_holds r c n g e s)) same.lockout
      ∙ ap (λ (protection : Protection). compared_by n g t.fixed.lockout protection
      (comparison_holds r c n g e s)) (protection_same s g)
      ∙ ap (compared_by n g t.fixed.lockout (entry_protection t s g)) (holds_same n g e s)

  abbrev use_by : (n : ℕ) → Session → Bool → ℕ → List ℕ → Option Bool → Option EntityParts
      → UseParts
  use_by n s available updates hash written policy = record {
    entry = n;
    kind = s.kind;
    hash = s.hash;
    available = available;
    update_count = updates;
    command = code_number c.code;
    role = role_at c.code (n - 1);
    cp_hash = hash;
    written = written;
    locality = locality;
    entity = policy;
  }

  use_same : (n : ℕ) (handle : Handle) (s : Session)
      → use_of r c locality n handle s ≡ use_of t c locality n handle s
  unfolding use_of
  use_same n handle s =
      let available : Bool = is_available t handle means.Policy (nv_use_at c.code (n - 1)) in
      ap (λ (x : Bool). use_by n s x r.fixed.banks.update_count
      (parameter_hash_of s.hash (hashed_command r c)) (written_of r handle)
      (policy_of r handle)) (same.available handle means.Policy (nv_use_at c.code (n - 1)))
      ∙ ap (λ (x : ℕ). use_by n s available x (parameter_hash_of s.hash (hashed_command r c))
      (written_of r handle) (policy_of r handle)) same.updates
      ∙ ap (λ (x : List ℕ). use_by n s available t.fixed.banks.update_count x (written_of r handle)
      (policy_of r handle)) (hash_same s)
      ∙ ap (λ (x : Option Bool). use_by n s available t.fixed.banks.update_count
      (parameter_hash_of s.hash (hashed_command t c)) x (policy_of r handle))
      (same.written handle)
      ∙ ap (use_by n s available t.fixed.banks.update_count
      (parameter_hash_of s.hash (hashed_command t c)) (written_of t handle))
      (same.policy handle)

  demand_same : (k : SessionType) (n : ℕ) (handle : Handle) (s : Session)
      → demand_by k r c locality n handle s ≡ demand_by k t c locality n handle s
  demand_same type.Hmac n handle s =
      rw (same.available handle means.AuthValue (nv_use_at c.code (n - 1))) refl
  demand_same type.Policy n handle s =
      ap (λ (u : UseParts). checked_result check.Authorization (use_passes s.policy u))
      (use_same n handle s)
  demand_same type.Trial n handle s =
      ap (λ (u : UseParts). checked_result check.Authorization (use_passes s.policy u))
      (use_same n handle s)

  session_grant_same : (n : ℕ) (used : Option Handle) (e : Entry) (s : Session)
      → session_grant r c locality n used e s ≡ session_grant t c locality n used e s
  unfolding session_grant demand_of_session
  session_grant_same n None e s = comparison_same n None e s
  session_grant_same n (Some handle) e s =
      bind_same (demand_by s.kind r c locality n handle s)
      (demand_by s.kind t c locality n handle s)
      (λ demand. comparison r c n (Some (record { handle = handle; demand = demand })) e s)
      (λ demand. comparison t c n (Some (record { handle = handle; demand = demand })) e s)
      (demand_same s.kind n handle s)
      (λ demand. comparison_same n (Some (record { handle = handle; demand = demand })) e s)

  unavailable_same : (n : ℕ) (used : Option Handle)
      → is_unavailable r c.code n used ≡ is_unavailable t c.code n used
  unavailable_same n None = refl
  unavailable_same n (Some handle) =
      ap not (same.available handle means.AuthValue (nv_use_at c.code (n - 1)))

  used_protection_same : (used : Option Handle) → used_protection r used ≡ used_protection t used
  used_protection_same None = refl
  used_protection_same (Some handle) = same.protection handle

  abbrev password_by : (n : ℕ) → Option Handle → Entry → Bool → LockoutState → Protection → List ℕ
      → Result (Option Grant) Refused
  password_by n used e unavailable lockout protection value =
      let g : Option Grant = option_map undemanding used in
      refused_if unavailable (refusal check.Authorization (plain code.AuthUnavailable))
      >>= λ available.
      may_be_tried lockout g protection >>= λ tried.
      refused_if (not (is_password_of value e.hmac)) (failure (check_of g) n protection)
      >>= λ compared. Ok g

  password_same : (n : ℕ) (used : Option Handle) (e : Entry)
      → password_grant r c.code n used e ≡ password_grant t c.code n used e
  unfolding password_grant
  password_same n used e =
      let g : Option Grant = option_map undemanding used in
      ap (λ (x : Bool). password_by n used e x r.fixed.lockout (used_protection r used)
      (granted_value r g)) (unavailable_same n used)
      ∙ ap (λ (x : LockoutState). password_by n used e (is_unavailable t c.code n used) x
      (used_protection r used) (granted_value r g)) same.lockout
      ∙ ap (λ (x : Protection). password_by n used e (is_unavailable t c.code n used)
      t.fixed.lockout x (granted_value r g)) (used_protection_same used)
      ∙ ap (password_by n used e (is_unavailable t c.code n used) t.fixed.lockout
      (used_protection t used)) (value_same g)

  of_session_same : (n : ℕ) (used : Option Handle) (e : Entry) (found : Option Session)
      → session_grant_if r c locality n used e found ≡ session_grant_if t c locality n used e found
  of_session_same n used e None = refl
  of_session_same n used e (Some s) = session_grant_same n used e s

  grant_by_same : (k : SessionKind) (n : ℕ) (used : Option Handle) (e : Entry)
      → grant_by k r c locality n used e ≡ grant_by k t c locality n used e
  grant_by_same kind.Password n used e = password_same n used e
  grant_by_same kind.Session n used e =
      ap (session_grant_if r c locality n used e) (same.sessions e.session)
      ∙ of_session_same n used e (session_at t.sessions e.session)
  grant_by_same kind.Other n used e = refl

  grant_same : (n : ℕ) (used : Option Handle) (e : Entry)
      → grant r c locality n used e ≡ grant t c locality n used e
  unfolding grant
  grant_same n used e = grant_by_same (session_kind e.session) n used e

  grants_same : (before : List (Option Grant)) (es : List Entry)
      → grants_pass r c locality before es ≡ grants_pass t c locality before es
  grants_same before [] = refl
  grants_same before (e ∷ es) =
      bind_same (grant r c locality (length before + 1) (slice_get (authorized c) (length before))
      e) (grant t c locality (length before + 1) (slice_get (authorized c) (length before)) e)
      (λ this. grants_pass r c locality (before ++ this ∷ []) es)
      (λ this. grants_pass t c locality (before ++ this ∷ []) es)
      (grant_same (length before + 1) (slice_get (authorized c) (length before)) e)
      (λ this. grants_same (before ++ this ∷ []) es)

  pub authorize_same : authorize r c locality ≡ authorize t c locality
  unfolding authorize
  authorize_same = rw (entries_same [] c.entries, grants_same [] c.entries) refl
