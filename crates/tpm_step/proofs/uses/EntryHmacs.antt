-- The history determines the key and the message of an entry's HMAC, and the password that an entry
-- needs.
use Rattle.std.proofs.Common.{◌≡◌, ◌⊎◌, ℕ, zero, suc, ◌+◌, arith, Bool, true, false, cond, List, [], ◌∷◌, ◌++◌, length, take, map, Option, Some, None, option_map, slice_get, refl, ap, sym, ◌∙◌, inl, inr}
use Rattle.std.specs.Prelude.{◌==◌, ◌&&◌, ◌||◌}
use Rattle.std.specs.List.{find}
use Rattle.std.specs.Option.{option_map_or}
use Rattle.std.specs.Str.{bytes_eq}
use Rattle.std.proofs.lemmas.Bool.{ne_eqb}
use Rattle.std.proofs.lemmas.Option.{same_Some}
use Rattle.std.proofs.lemmas.Slice.Eq.{bytes_eq-Decides}
use Rattle.tpm_mac.specs.Hmac.{hmac_of}
use Rattle.tpm_mac.specs.declared.algorithm.HashAlg.{HashAlg}
use Rattle.tpm_policy.specs.declared.state.Demand.{Demand}
use Rattle.tpm_session.specs.EntryText.{command_mac_of, entry_key, entry_text}
use Rattle.tpm_session.specs.ParameterHash.{command_hash_of}
use Rattle.tpm_session.specs.Sessions.{session_at}
use Rattle.tpm_session.specs.declared.session.Binding.{Binding}
use Rattle.tpm_session.specs.declared.session.Session.{Session}
use Rattle.tpm_types_common.specs.AuthValue.{trimmed}
use Rattle.tpm_types_common.specs.declared.handle.Handle.{Handle}
use Rattle.tpm_types_command.specs.AuthEntry.{Entry}
use Rattle.tpm_commands.specs.CommandCode.{authorized_handles, code_number}
use Rattle.tpm_record.specs.Entity.{auth_value_of, name_of}
use Rattle.tpm_record.specs.Record.{Record}
use Rattle.tpm_auth.specs.Comparison.{is_password_of}
use Rattle.tpm_auth.specs.Entries.{decrypts}
use Rattle.tpm_auth.specs.SessionGrant as device
use Rattle.tpm_auth.specs.declared.session_grant.Grant.{Grant}
use Rattle.tpm_auth.specs.SessionGrant.{entry_parts, has_value_in_key, is_authentic, only_encrypts, other_entries, takes_value, used_auth_value}
use Rattle.tpm_step.specs.history.AuthValues.{auth_of}
use Rattle.tpm_step.specs.history.DeviceSessions.{AreLive, SessionFacts, bound_of, facts_of, session_facts}
use Rattle.tpm_step.specs.uses.EntryHmacs.{HasHmac, HasPassword, cp_hash_in, entry_nonce, hmac_in, is_bound_to, key_in, nonce_where, text_in, used_in, value_in_key}
use Rattle.tpm_step.specs.history.History.{AcceptedCommand, History}
use Rattle.tpm_step.specs.history.Sessions.{Bound, LiveSession, policy_in, sessions_of}
use Rattle.tpm_step.specs.history.View.{View, name_in, view_name, view_of}
use Rattle.tpm_step.proofs.history.LiveSessions.{of_both}
use Rattle.tpm_step.proofs.history.TrimmedValues.{told_values_are_trimmed}
use Rattle.tpm_step.proofs.history.Views.{view_named}

-- ---- positions of entries and handles

pub got_map : {X Y : Type 0} (f : X → Y) (xs : List X) (n : ℕ) (x : X) → slice_get xs n ≡ Some x
    → slice_get (map f xs) n ≡ Some (f x)
got_map f [] n x is = absurd cc
got_map f (y ∷ xs) zero x is = let same : y ≡ x = cc in ap (λ z. Some (f z)) same
got_map f (y ∷ xs) (suc n) x is = got_map f xs n x is

pub got_of_first : {X : Type 0} (count : ℕ) (xs : List X) (n : ℕ) (x : X)
    → slice_get (take count xs) n ≡ Some x → slice_get xs n ≡ Some x
got_of_first zero xs n x is = absurd cc
got_of_first (suc count) [] n x is = absurd cc
got_of_first (suc count) (y ∷ xs) zero x is = is
got_of_first (suc count) (y ∷ xs) (suc n) x is = got_of_first count xs n x is

names_viewed : (r : Record) (handles : List Handle)
    → map view_name (map (view_of r) handles) ≡ map (name_of r) handles
names_viewed r [] = refl
names_viewed r (handle ∷ handles) =
    ap (λ (name : List ℕ). name ∷ map view_name (map (view_of r) handles)) (view_named r handle)
    ∙ ap (λ (names : List (List ℕ)). name_of r handle ∷ names) (names_viewed r handles)

-- ---- comparisons of byte strings

no_bytes : (xs : List ℕ) → (length xs == 0) ≡ true → xs ≡ []
no_bytes [] is = refl
no_bytes (x ∷ xs) is =
    absurd (let no : (length (x ∷ xs) == 0) ≡ false =
    ne_eqb (length (x ∷ xs)) 0 (λ none. omega arith) in let never : ⊥ = cc in never)

by_test : (key hmac mac : List ℕ) → (length key == 0 && length hmac == 0 || bytes_eq hmac mac)
    ≡ true → (hmac ≡ mac) ⊎ ((key ≡ []) × (hmac ≡ []))
by_test key hmac mac is = by (length key == 0) (length hmac == 0) refl refl is
  where
    by : (a b : Bool) → (length key == 0) ≡ a → (length hmac == 0) ≡ b
        → (a && b || bytes_eq hmac mac) ≡ true → (hmac ≡ mac) ⊎ ((key ≡ []) × (hmac ≡ []))
    by true true k h is = inr (no_bytes key k, no_bytes hmac h)
    by true false k h is = inl ((bytes_eq-Decides hmac mac).0 is)
    by false b k h is = inl ((bytes_eq-Decides hmac mac).0 is)

-- ---- facts that a device shares with its history

module _ (r : Record) (c : AcceptedCommand) (history : History)
    (viewed : c.views ≡ map (view_of r) c.command.handles)
    (valued : map (auth_value_of r) c.command.handles ≡ map (auth_of history) c.command.handles)
    (live : AreLive r.sessions (sessions_of history)) where
  -- ---- the entity at a position

  pub handle_there : (place : ℕ) (handle : Handle) → used_in c.command place ≡ Some handle
      → slice_get c.command.handles place ≡ Some handle
  handle_there place handle at =
      got_of_first (authorized_handles c.command.code) c.command.handles place handle at

  pub viewed_there : (place : ℕ) (handle : Handle) → used_in c.command place ≡ Some handle
      → slice_get c.views place ≡ Some (view_of r handle)
  viewed_there place handle at =
      ap (λ (views : List View). slice_get views place) viewed
      ∙ got_map (view_of r) c.command.handles place handle (handle_there place handle at)

  valued_there : (place : ℕ) (handle : Handle) → used_in c.command place ≡ Some handle
      → auth_value_of r handle ≡ auth_of history handle
  valued_there place handle at =
      let there = handle_there place handle at in
      same_Some (auth_value_of r handle) (auth_of history handle)
      (sym (got_map (auth_value_of r) c.command.handles place handle there)
      ∙ ap (λ (values : List (List ℕ)). slice_get values place) valued
      ∙ got_map (auth_of history) c.command.handles place handle there)

  named_there : (place : ℕ) (handle : Handle) → used_in c.command place ≡ Some handle
      → name_in c.views place ≡ name_of r handle
  named_there place handle at =
      ap (λ (found : Option View). option_map_or view_name found []) (viewed_there place handle at)
      ∙ view_named r handle

  pub cp_hash_told : (hash : HashAlg) → cp_hash_in c hash
      ≡ command_hash_of hash (code_number c.command.code) (map (name_of r) c.command.handles)
      c.command.parameters
  cp_hash_told hash =
      ap (λ (names : List (List ℕ)). command_hash_of hash (code_number c.command.code) names
      c.command.parameters)
      (ap (map view_name) viewed ∙ names_viewed r c.command.handles)

  pub password_told : (place : ℕ) (handle : Handle) (e : Entry)
      → used_in c.command place ≡ Some handle
      → is_password_of (auth_value_of r handle) e.hmac ≡ true → HasPassword history c place e
  password_told place handle e at is =
      (bytes_eq-Decides (trimmed e.hmac) (trimmed (auth_value_of r handle))).0 is
      ∙ ap trimmed (valued_there place handle at) ∙ told_values_are_trimmed history handle
      ∙ sym (ap (λ (used : Option Handle). option_map_or (auth_of history) used []) at)

  -- ---- nonces

  nonce_told : (e : Entry) → entry_nonce history e ≡ device.entry_nonce r e
  nonce_told e =
      of_both (λ found told. option_map_or (λ (s : LiveSession). s.nonce_tpm) told []
      ≡ option_map_or (λ (s : Session). s.nonce_tpm) found [])
      (λ s l same. sym (ap (λ (f : SessionFacts). f.nonce_tpm) same))
      refl (session_at r.sessions e.session) (sessions_of history e.session) (live e.session)

  nonce_where_told : (test : Entry → Bool) (entries : List Entry)
      → nonce_where history test entries ≡ device.nonce_where r test entries
  unfolding device.nonce_where
  nonce_where_told test entries = by (find test entries)
    where
      by : (found : Option Entry) → option_map_or (entry_nonce history) found []
          ≡ option_map_or (device.entry_nonce r) found []
      by (Some e) = nonce_told e
      by None = refl

  -- ---- two sessions with the same facts

  module _ (s : Session) (l : LiveSession) (same : session_facts s ≡ facts_of l) (place : ℕ) where
    bound_told : (handle : Handle) → used_in c.command place ≡ Some handle
        → is_bound_to l (name_in c.views place) (auth_of history handle)
        ≡ device.is_bound_to r s handle
    unfolding device.is_bound_to
    bound_told handle at =
        ap (λ (name : List ℕ). is_bound_to l name (auth_of history handle))
        (named_there place handle at)
        ∙ ap (is_bound_to l (name_of r handle)) (sym (valued_there place handle at))
        ∙ ap (λ (f : SessionFacts). option_map_or
        (λ (b : Bound). bytes_eq b.name (name_of r handle)
        && bytes_eq b.auth_value (auth_value_of r handle)) f.start.bound false) (sym same)
        ∙ by s.binding
      where
        by : (binding : Option Binding)
            → option_map_or (λ (b : Bound). bytes_eq b.name (name_of r handle)
            && bytes_eq b.auth_value (auth_value_of r handle)) (option_map bound_of binding) false
            ≡ option_map_or (λ (b : Binding). bytes_eq b.name (name_of r handle)
            && bytes_eq b.auth_value (auth_value_of r handle)) binding false
        by (Some b) = refl
        by None = refl

    -- the device and the history put the same authorization value into the HMAC key, if the demand
    -- and the session's policy agree on whether the key contains a value
    pub value_told : (handle : Handle) (demand : Demand) → used_in c.command place ≡ Some handle
        → ((is_bound : Bool) → has_value_in_key s.kind is_bound demand
        ≡ has_value_in_key s.kind is_bound s.policy.demand)
        → used_auth_value r s (Some (record { handle = handle; demand = demand }))
        ≡ value_in_key history c place l (used_in c.command place)
    unfolding used_auth_value takes_value
    value_told handle demand at alike =
        ap (λ (b : Bool). cond b (auth_value_of r handle) [])
        (alike (device.is_bound_to r s handle))
        ∙ ap (λ (f : SessionFacts). cond
        (has_value_in_key f.start.kind (device.is_bound_to r s handle) f.policy.demand)
        (auth_value_of r handle) []) same
        ∙ ap (λ (b : Bool). cond (has_value_in_key l.kind b (policy_in l).demand)
        (auth_value_of r handle) []) (sym (bound_told handle at))
        ∙ ap (λ (value : List ℕ). cond
        (has_value_in_key l.kind
        (is_bound_to l (name_in c.views place) (auth_of history handle))
        (policy_in l).demand) value []) (valued_there place handle at)
        ∙ sym (ap (value_in_key history c place l) at)

    key_told : (value : List ℕ) → value ≡ value_in_key history c place l (used_in c.command place)
        → entry_key s value ≡ key_in history c place l
    key_told value is =
        ap (λ (v : List ℕ). s.key ++ v) is
        ∙ ap (λ (f : SessionFacts). f.key ++ value_in_key history c place l
        (used_in c.command place)) same

    -- the HMAC of an entry, computed from the facts about its session
    abbrev hmac_by : SessionFacts → Entry → (cp_hash key decrypt encrypt : List ℕ) → List ℕ
    hmac_by f e cp_hash key decrypt encrypt =
        hmac_of f.start.hash key
        (entry_text cp_hash e.nonce f.nonce_tpm decrypt encrypt e.attributes)

    hmac_told : (e : Entry) (value : List ℕ)
        → value ≡ value_in_key history c place l (used_in c.command place)
        → command_mac_of s value (entry_parts r c.command (place + 1) e s)
        ≡ hmac_in history c place e l
    unfolding command_mac_of entry_parts text_in
    hmac_told e value is =
        let others : List Entry = other_entries c.command (place + 1) in
        ap (λ (key : List ℕ). hmac_by (session_facts s) e
        (command_hash_of s.hash (code_number c.command.code)
        (map (name_of r) c.command.handles) c.command.parameters) key
        (device.nonce_where r decrypts others) (device.nonce_where r only_encrypts others))
        (key_told value is)
        ∙ ap (λ (cp_hash : List ℕ). hmac_by (session_facts s) e cp_hash (key_in history c place l)
        (device.nonce_where r decrypts others) (device.nonce_where r only_encrypts others))
        (sym (cp_hash_told s.hash))
        ∙ ap (λ (nonce : List ℕ). hmac_by (session_facts s) e (cp_hash_in c s.hash)
        (key_in history c place l) nonce (device.nonce_where r only_encrypts others))
        (sym (nonce_where_told decrypts others))
        ∙ ap (λ (nonce : List ℕ). hmac_by (session_facts s) e (cp_hash_in c s.hash)
        (key_in history c place l) (nonce_where history decrypts others) nonce)
        (sym (nonce_where_told only_encrypts others))
        ∙ ap (λ (f : SessionFacts). hmac_by f e (cp_hash_in c f.start.hash)
        (key_in history c place l) (nonce_where history decrypts others)
        (nonce_where history only_encrypts others)) same

    pub authentic_told : (grant : Option Grant) (e : Entry)
        → used_auth_value r s grant ≡ value_in_key history c place l (used_in c.command place)
        → is_authentic r c.command (place + 1) grant e s ≡ true → HasHmac history c place e l
    unfolding is_authentic
    authentic_told grant e value is =
        let key : List ℕ = entry_key s (used_auth_value r s grant) in
        by
        (by_test key e.hmac
        (command_mac_of s (used_auth_value r s grant)
        (entry_parts r c.command (place + 1) e s)) is)
      where
        by : (e.hmac ≡ command_mac_of s (used_auth_value r s grant)
            (entry_parts r c.command (place + 1) e s))
            ⊎ ((entry_key s (used_auth_value r s grant) ≡ []) × (e.hmac ≡ []))
            → HasHmac history c place e l
        by (inl mac) = inl (mac ∙ hmac_told e (used_auth_value r s grant) value)
        by (inr empty) = inr (sym (key_told (used_auth_value r s grant) value) ∙ empty.0, empty.1)
