-- The session and the authorization value with which the layer checks an HMAC, on two devices that
-- differ only in secrets. They are the same on both devices if neither is secret.
use Rattle.std.proofs.Common.{[], ap, refl, sym, ◌∙◌}
use Rattle.std.specs.Prelude.{Bool, None, Option, Some, false, option_map, true, ◌||◌, ◌≡◌}
use Rattle.std.specs.Option.{option_map_or}
use Rattle.tpm_auth.specs.Entries.{session_of}
use Rattle.tpm_auth.specs.SessionGrant.{is_bound_to, takes_value, used_auth_value}
use Rattle.tpm_auth.specs.declared.session_grant.Grant.{Grant}
use Rattle.tpm_completion.specs.SessionEntry.{value_in_key}
use Rattle.tpm_edge_secrecy.specs.Layer.{entry_is_secret, key_is_secret}
use Rattle.tpm_policy.specs.declared.state.Demand.TheVariants as demand
use Rattle.tpm_record.specs.Entity.{name_of}
use Rattle.tpm_record.specs.Record.{Record}
use Rattle.tpm_row_secrecy.proofs.Bare.{key_still_secret}
use Rattle.tpm_secrecy.proofs.Authorizing.{session_shown}
use Rattle.tpm_row_secrecy.proofs.Entities.{name_bare, secret_value_bare, session_at_bare, value_bare}
use Rattle.tpm_row_secrecy.specs.Secrecy.{DifferInSecrets, Secrecy, bare_session, has_secret_key, has_secret_value, without_secrets}
use Rattle.tpm_session.specs.declared.session.Session.{Session}
use Rattle.tpm_types_common.specs.declared.handle.Handle.{Handle}
use Rattle.tpm_types_command.specs.AuthEntry.{Entry}

pub neither : (a b : Bool) → (a || b) ≡ false → (a ≡ false) × (b ≡ false)
neither true b none = absurd cc
neither false b none = (refl, none)

-- the grant of an entry that authorizes a handle by an HMAC session
abbrev by_hmac : Handle → Option Grant
by_hmac handle = Some (record { handle = handle; demand = demand.None })

module _ (s : Secrecy) where
  -- ---- a session

  -- the key of a session is secret whether or not its secrets are erased
  still_secret : (x y : Session) → bare_session s x ≡ bare_session s y
      → has_secret_key s x.binding ≡ has_secret_key s y.binding
  still_secret x y same =
      sym (key_still_secret s x.binding) ∙ ap (λ (z : Session). has_secret_key s z.binding) same
      ∙ key_still_secret s y.binding

  found_alike : (a b : Option Session) → option_map (bare_session s) a
      ≡ option_map (bare_session s) b
      → option_map_or (λ (x : Session). has_secret_key s x.binding) a false ≡ false → a ≡ b
  found_alike None None same free = refl
  found_alike None (Some y) same free = absurd cc
  found_alike (Some x) None same free = absurd cc
  found_alike (Some x) (Some y) same free =
      let bare : bare_session s x ≡ bare_session s y = ap bare_or same in
      ap Some (sym (session_shown s x free) ∙ bare
      ∙ session_shown s y (sym (still_secret x y bare) ∙ free))
    where
      bare_or : Option Session → Session
      bare_or None = x
      bare_or (Some z) = z

  -- ---- the authorization value in a key

  bound_open : (r : Record) (x : Session) (handle : Handle) → has_secret_value s r handle ≡ false
      → is_bound_to (without_secrets s r) x handle ≡ is_bound_to r x handle
  unfolding is_bound_to
  bound_open r x handle free =
      rw (name_bare s r handle, value_bare s r handle free) refl

  used_open : (r : Record) (x : Session) (handle : Handle) → has_secret_value s r handle ≡ false
      → used_auth_value (without_secrets s r) x (by_hmac handle)
      ≡ used_auth_value r x (by_hmac handle)
  unfolding used_auth_value takes_value
  used_open r x handle free =
      rw (bound_open r x handle free, value_bare s r handle free) refl

  -- ---- two devices

  module _ (one other : Record) (differ : DifferInSecrets s one other) where
    pub name_alike : (handle : Handle) → name_of one handle ≡ name_of other handle
    name_alike handle = sym (name_bare s one handle) ∙ ap (λ (r : Record). name_of r handle) differ
        ∙ name_bare s other handle

    value_still_secret : (handle : Handle)
        → has_secret_value s one handle ≡ has_secret_value s other handle
    value_still_secret handle =
        sym (secret_value_bare s one handle)
        ∙ ap (λ (r : Record). has_secret_value s r handle) differ
        ∙ secret_value_bare s other handle

    used_alike : (x : Session) (handle : Handle) → has_secret_value s one handle ≡ false
        → used_auth_value one x (by_hmac handle) ≡ used_auth_value other x (by_hmac handle)
    used_alike x handle free =
        sym (used_open one x handle free)
        ∙ ap (λ (r : Record). used_auth_value r x (by_hmac handle)) differ
        ∙ used_open other x handle (sym (value_still_secret handle) ∙ free)

    key_shown : (handle : Option Handle) (found : Option Session)
        → option_map_or (key_is_secret s one handle) found false ≡ false
        → option_map_or (λ (x : Session). has_secret_key s x.binding) found false ≡ false
    key_shown (Some handle) (Some x) free =
        (neither (has_secret_key s x.binding) (has_secret_value s one handle) free).0
    key_shown None (Some x) free = free
    key_shown (Some handle) None free = refl
    key_shown None None free = refl

    pub session_alike : (handle : Option Handle) (e : Entry)
        → entry_is_secret s one handle e ≡ false → session_of one e ≡ session_of other e
    session_alike handle e free =
        found_alike (session_of one e) (session_of other e)
        (sym (session_at_bare s one.sessions e.session) ∙ ap (λ (r : Record). session_of r e) differ
        ∙ session_at_bare s other.sessions e.session)
        (key_shown handle (session_of one e) free)

    pub value_alike : (handle : Handle) (e : Entry) → entry_is_secret s one (Some handle) e ≡ false
        → value_in_key one e handle ≡ value_in_key other e handle
    unfolding value_in_key
    value_alike handle e free =
        by (session_of one e) free
        ∙ ap (λ (found : Option Session). option_map_or
        (λ (x : Session). used_auth_value other x (by_hmac handle)) found [])
        (session_alike (Some handle) e free)
      where
        by : (found : Option Session)
            → option_map_or (key_is_secret s one (Some handle)) found false ≡ false
            → option_map_or (λ (x : Session). used_auth_value one x (by_hmac handle)) found []
            ≡ option_map_or (λ (x : Session). used_auth_value other x (by_hmac handle)) found []
        by None free = refl
        by (Some x) free =
            used_alike x handle
            (neither (has_secret_key s x.binding) (has_secret_value s one handle) free).1
