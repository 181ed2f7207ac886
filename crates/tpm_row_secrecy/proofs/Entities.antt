-- The public facts about an entity do not depend on secrets.
use Rattle.std.proofs.Common.{ap, refl, ◌∙◌}
use Rattle.std.specs.Option.{option_map_or}
use Rattle.std.specs.Prelude.{Bool, List, None, Option, Some, [], cond, false, is_some, not, option_map, true, ◌||◌, ◌≡◌}
use Rattle.tpm_containers.specs.SortedMap.{Entries}
use Rattle.tpm_nv.specs.Head.{head_of}
use Rattle.tpm_nv.specs.Index.{NvContents, NvIndex, index_at}
use Rattle.tpm_nv.specs.declared.head.Head.{Head}
use Rattle.tpm_object.specs.Object.{transient_byte}
use Rattle.tpm_object.specs.declared.object.Object.{Object}
use Rattle.tpm_record.specs.Entity.{AnIndex, AnObject, Entity, Permanent, auth_value_of, entity_at, entity_auth_value, entity_is_available, entity_name, entity_policy, entity_protection, entity_written, hierarchy_auth_value, index_of, is_available, is_kept, is_present, name_of, names_kept, object_of, policy_of, protection_of, written_of}
use Rattle.tpm_record.specs.Objects.{object_at}
use Rattle.tpm_record.specs.Persistent.{persistent_at}
use Rattle.tpm_record.specs.Record.{Record}
use Rattle.tpm_record.specs.declared.entity.Means.{Means}
use Rattle.tpm_record.specs.declared.hierarchy.Hierarchies.{Hierarchies}
use Rattle.tpm_session.specs.Sessions.{session_at, session_byte}
use Rattle.tpm_session.specs.declared.session.Session.{Session}
use Rattle.tpm_types_common.specs.Handle.{hierarchy_auth_of, is_nv_index, is_persistent, is_session}
use Rattle.tpm_types_common.specs.declared.handle.Handle.{Handle}
use Rattle.tpm_types_common.specs.declared.handle.HierarchyAuth.{HierarchyAuth}
use Rattle.tpm_types_common.specs.declared.nv_use.NvUse.{NvUse}
use Rattle.tpm_row_secrecy.proofs.Bare.{unless_open}
use Rattle.tpm_row_secrecy.proofs.Each.{at_each, at_number_each, chosen, each, is_some_of, places}
use Rattle.tpm_row_secrecy.specs.Secrecy.{CoversKeys, Secrecy, bare_hierarchies, bare_index, bare_nv, bare_object, bare_session, entity_has_secret_value, has_secret_value, unless, without_secrets}
use Rattle.tpm_types_common.specs.declared.handle.HierarchyAuth.TheVariants as auth
use Rattle.tpm_types_common.specs.declared.nv_use.NvUse.TheVariants as does
use Rattle.tpm_record.specs.declared.entity.Means.TheVariants as means

module _ (s : Secrecy) where
  -- ---- the entity that a handle names

  pub object_at_bare : (xs : List (Option Object)) (handle : Handle)
      → object_at (places (bare_object s) xs) handle
      ≡ option_map (bare_object s) (object_at xs handle)
  unfolding object_at
  object_at_bare xs handle =
      at_number_each (bare_object s) transient_byte transient_byte (λ o. refl) xs handle.number

  pub persistent_at_bare : (es : Entries Object) (handle : Handle)
      → persistent_at (each (bare_object s) es) handle
      ≡ option_map (bare_object s) (persistent_at es handle)
  persistent_at_bare es handle = at_each (bare_object s) es handle.number

  pub session_at_bare : (xs : List (Option Session)) (handle : Handle)
      → session_at (places (bare_session s) xs) handle
      ≡ option_map (bare_session s) (session_at xs handle)
  unfolding session_at
  session_at_bare xs handle = at_number_each (bare_session s) session_byte session_byte (λ x. refl)
      xs handle.number

  pub index_at_bare : (n : NvContents) (handle : Handle)
      → index_at (bare_nv s n) handle ≡ option_map (bare_index s) (index_at n handle)
  index_at_bare n handle = at_each (bare_index s) n.indices handle.number

  pub object_of_bare : (r : Record) (handle : Handle)
      → object_of (without_secrets s r) handle ≡ option_map (bare_object s) (object_of r handle)
  unfolding object_of
  object_of_bare r handle =
      ap (λ (found : Option Object). cond (is_persistent handle) found
      (object_at (places (bare_object s) r.objects) handle))
      (persistent_at_bare r.persistent handle)
      ∙ ap (cond (is_persistent handle)
      (option_map (bare_object s) (persistent_at r.persistent handle)))
      (object_at_bare r.objects handle)
      ∙ chosen (option_map (bare_object s)) (is_persistent handle)
      (persistent_at r.persistent handle) (object_at r.objects handle)

  -- ---- entities

  abbrev pub bare_head : Head → Head
  bare_head i =
      record i { auth_value = unless (s.index_values i.public.nv_index.number) i.auth_value }

  abbrev pub bare_entity : Entity → Entity
  bare_entity (AnObject o) = AnObject (bare_object s o)
  bare_entity (AnIndex i) = AnIndex (bare_head i)
  bare_entity Permanent = Permanent

  of_index : (found : Option NvIndex)
      → option_map_or AnIndex (option_map head_of (option_map (bare_index s) found)) Permanent
      ≡ bare_entity (option_map_or AnIndex (option_map head_of found) Permanent)
  of_index None = refl
  of_index (Some i) = refl

  of_object : (found : Option Object)
      → option_map_or AnObject (option_map (bare_object s) found) Permanent
      ≡ bare_entity (option_map_or AnObject found Permanent)
  of_object None = refl
  of_object (Some o) = refl

  pub entity_bare : (r : Record) (handle : Handle)
      → entity_at (without_secrets s r) handle ≡ bare_entity (entity_at r handle)
  unfolding entity_at
  entity_bare r handle =
      ap (λ (found : Option NvIndex). cond (is_nv_index handle)
      (option_map_or AnIndex (option_map head_of found) Permanent)
      (option_map_or AnObject (object_of (without_secrets s r) handle) Permanent))
      (index_at_bare r.nv handle)
      ∙ ap (λ (x : Entity). cond (is_nv_index handle) x
      (option_map_or AnObject (object_of (without_secrets s r) handle) Permanent))
      (of_index (index_at r.nv handle))
      ∙ ap (cond (is_nv_index handle)
      (bare_entity (option_map_or AnIndex (index_of r handle) Permanent)))
      (ap (λ (found : Option Object). option_map_or AnObject found Permanent)
      (object_of_bare r handle) ∙ of_object (object_of r handle))
      ∙ chosen bare_entity (is_nv_index handle)
      (option_map_or AnIndex (index_of r handle) Permanent)
      (option_map_or AnObject (object_of r handle) Permanent)

  -- A property that does not depend on the secrets of entities is the same on a device and on the
  -- device with its secrets erased.
  pub seen_bare : {X : Type 0} (see : Entity → X) → ((x : Entity) → see (bare_entity x) ≡ see x)
      → (r : Record) (handle : Handle) → see (entity_at (without_secrets s r) handle)
      ≡ see (entity_at r handle)
  seen_bare see same r handle = ap see (entity_bare r handle) ∙ same (entity_at r handle)

  name_seen : (handle : Handle) (x : Entity)
      → entity_name handle (bare_entity x) ≡ entity_name handle x
  name_seen handle (AnObject o) = refl
  name_seen handle (AnIndex i) = refl
  name_seen handle Permanent = refl

  pub name_bare : (r : Record) (handle : Handle)
      → name_of (without_secrets s r) handle ≡ name_of r handle
  unfolding name_of
  name_bare r handle = seen_bare (entity_name handle) (name_seen handle) r handle

  protection_seen : (handle : Handle) (x : Entity)
      → entity_protection handle (bare_entity x) ≡ entity_protection handle x
  protection_seen handle (AnObject o) = refl
  protection_seen handle (AnIndex i) = refl
  protection_seen handle Permanent = refl

  pub protection_bare : (r : Record) (handle : Handle)
      → protection_of (without_secrets s r) handle ≡ protection_of r handle
  unfolding protection_of
  protection_bare r handle = seen_bare (entity_protection handle) (protection_seen handle) r handle

  policy_seen : (x : Entity) → entity_policy (bare_entity x) ≡ entity_policy x
  policy_seen (AnObject o) = refl
  policy_seen (AnIndex i) = refl
  policy_seen Permanent = refl

  pub policy_bare : (r : Record) (handle : Handle)
      → policy_of (without_secrets s r) handle ≡ policy_of r handle
  unfolding policy_of
  policy_bare r handle = seen_bare entity_policy policy_seen r handle

  written_seen : (x : Entity) → entity_written (bare_entity x) ≡ entity_written x
  written_seen (AnObject o) = refl
  written_seen (AnIndex i) = refl
  written_seen Permanent = refl

  pub written_bare : (r : Record) (handle : Handle)
      → written_of (without_secrets s r) handle ≡ written_of r handle
  unfolding written_of
  written_bare r handle = seen_bare entity_written written_seen r handle

  available_seen : (by_means : Means) (nv_use : NvUse) (x : Entity)
      → entity_is_available by_means nv_use (bare_entity x) ≡ entity_is_available by_means nv_use x
  available_seen means.AuthValue nv_use (AnObject o) = refl
  available_seen means.Policy nv_use (AnObject o) = refl
  available_seen means.AuthValue does.Read (AnIndex i) = refl
  available_seen means.AuthValue does.Write (AnIndex i) = refl
  available_seen means.AuthValue does.Administer (AnIndex i) = refl
  available_seen means.Policy does.Read (AnIndex i) = refl
  available_seen means.Policy does.Write (AnIndex i) = refl
  available_seen means.Policy does.Administer (AnIndex i) = refl
  available_seen by_means nv_use Permanent = refl

  pub available_bare : (r : Record) (handle : Handle) (by_means : Means) (nv_use : NvUse)
      → is_available (without_secrets s r) handle by_means nv_use
      ≡ is_available r handle by_means nv_use
  unfolding is_available
  available_bare r handle by_means nv_use =
      seen_bare (entity_is_available by_means nv_use) (available_seen by_means nv_use) r handle

  kept_seen : (x : Entity) → is_kept (bare_entity x) ≡ is_kept x
  kept_seen (AnObject o) = refl
  kept_seen (AnIndex i) = refl
  kept_seen Permanent = refl

  presence : Handle → (session kept : Bool) → Bool
  presence handle session kept = cond (is_session handle) session (kept || not (names_kept handle))

  pub present_bare : (r : Record) (handle : Handle)
      → is_present (without_secrets s r) handle ≡ is_present r handle
  unfolding is_present presence
  present_bare r handle =
      ap (λ (b : Bool). presence handle b (is_kept (entity_at (without_secrets s r) handle)))
      (ap is_some (session_at_bare r.sessions handle)
      ∙ is_some_of (bare_session s) (session_at r.sessions handle))
      ∙ ap (presence handle (is_some (session_at r.sessions handle)))
      (seen_bare is_kept kept_seen r handle)

  -- ---- authorization values

  secret_seen : (handle : Handle) (x : Entity) → entity_has_secret_value s handle (bare_entity x)
      ≡ entity_has_secret_value s handle x
  secret_seen handle (AnObject o) = refl
  secret_seen handle (AnIndex i) = refl
  secret_seen handle Permanent = refl

  pub secret_value_bare : (r : Record) (handle : Handle)
      → has_secret_value s (without_secrets s r) handle ≡ has_secret_value s r handle
  secret_value_bare r handle =
      seen_bare (entity_has_secret_value s handle) (secret_seen handle) r handle

  hierarchy_open : (h : Hierarchies) (a : HierarchyAuth) → s.hierarchy_values a ≡ false
      → hierarchy_auth_value (bare_hierarchies s h) a ≡ hierarchy_auth_value h a
  hierarchy_open h auth.Owner shown = unless_open _ _ shown
  hierarchy_open h auth.Lockout shown = unless_open _ _ shown
  hierarchy_open h auth.Endorsement shown = unless_open _ _ shown
  hierarchy_open h auth.Platform shown = unless_open _ _ shown

  permanent_open : (h : Hierarchies) (a : Option HierarchyAuth)
      → option_map_or s.hierarchy_values a false ≡ false
      → option_map_or (hierarchy_auth_value (bare_hierarchies s h)) a []
      ≡ option_map_or (hierarchy_auth_value h) a []
  permanent_open h None shown = refl
  permanent_open h (Some a) shown = hierarchy_open h a shown

  value_open : (r : Record) (handle : Handle) (x : Entity)
      → entity_has_secret_value s handle x ≡ false
      → entity_auth_value (without_secrets s r) handle (bare_entity x)
      ≡ entity_auth_value r handle x
  value_open r handle (AnObject o) shown = unless_open _ _ shown
  value_open r handle (AnIndex i) shown = unless_open _ _ shown
  value_open r handle Permanent shown =
      permanent_open r.fixed.hierarchies (hierarchy_auth_of handle) shown

  -- Erasing a device's secrets does not change an authorization value that is not secret.
  pub value_bare : (r : Record) (handle : Handle) → has_secret_value s r handle ≡ false
      → auth_value_of (without_secrets s r) handle ≡ auth_value_of r handle
  unfolding auth_value_of
  value_bare r handle shown =
      ap (entity_auth_value (without_secrets s r) handle) (entity_bare r handle)
      ∙ value_open r handle (entity_at r handle) shown

  -- If the authorization value of an entity is secret, so is the key of each session that was bound
  -- to the entity.
  name_covered : CoversKeys s → (handle : Handle) (x : Entity)
      → entity_has_secret_value s handle x ≡ true → s.bound_names (entity_name handle x) ≡ true
  name_covered covers handle (AnObject o) secret = covers.objects o.public secret
  name_covered covers handle (AnIndex i) secret = covers.indices i.public secret
  name_covered covers handle Permanent secret = covers.hierarchies handle secret

  pub key_covered : CoversKeys s → (r : Record) (handle : Handle)
      → has_secret_value s r handle ≡ true → s.bound_names (name_of r handle) ≡ true
  unfolding name_of
  key_covered covers r handle secret = name_covered covers handle (entity_at r handle) secret
