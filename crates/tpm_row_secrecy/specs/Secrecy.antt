-- The secrets of a device, and the device with its secrets erased. TPM 2.0 Library, Part 1,
-- sections 19 (authorizations), 23 (the protected storage hierarchy) and 37 (NV memory).
use Rattle.std.specs.Option.{option_map_or}
use Rattle.std.specs.Prelude.{Bool, List, Option, [], false, if◌then◌else◌, map, option_map, true, ℕ, ◌&&◌, ◌≡◌}
use Rattle.tpm_name.specs.NvName.{nv_name}
use Rattle.tpm_name.specs.ObjectName.{object_name}
use Rattle.tpm_nv.specs.Index.{NvContents, NvIndex}
use Rattle.tpm_object.specs.Object.{is_keyed_hash}
use Rattle.tpm_object.specs.declared.object.Object.{Object}
use Rattle.tpm_record.specs.Entity.{AnIndex, AnObject, Entity, Permanent, entity_at}
use Rattle.tpm_record.specs.Record.{Record}
use Rattle.tpm_record.specs.declared.fixed.Fixed.{Fixed}
use Rattle.tpm_record.specs.declared.hierarchy.Hierarchies.{Hierarchies}
use Rattle.tpm_record.specs.declared.hierarchy.Hierarchy.{Hierarchy}
use Rattle.tpm_session.specs.declared.session.Binding.{Binding}
use Rattle.tpm_session.specs.declared.session.Session.{Session}
use Rattle.tpm_types_common.specs.Handle.{hierarchy_auth_of}
use Rattle.tpm_types_common.specs.declared.handle.Handle.{Handle}
use Rattle.tpm_types_common.specs.declared.handle.HierarchyAuth.{HierarchyAuth}
use Rattle.tpm_types_name.specs.Name.{handle_name}
use Rattle.tpm_types_nv.specs.declared.nv_public.NvPublic.{NvPublic}
use Rattle.tpm_types_object.specs.declared.public.Public.{Public}
use Rattle.tpm_types_common.specs.declared.handle.HierarchyAuth.TheVariants as auth

-- a choice of what is secret on a device. Only public facts about an entity decide whether its
-- values are secret
pub record Secrecy : Type 0 where
  -- for each handle number, whether the data of the NV index is secret
  pub index_data : ℕ → Bool
  -- for each public area, whether the sealed data or HMAC key of a KEYEDHASH object is secret
  pub object_data : Public → Bool
  -- for each handle number, whether the authorization value of the NV index is secret
  pub index_values : ℕ → Bool
  -- for each public area, whether the authorization value of the object is secret
  pub object_values : Public → Bool
  -- for each hierarchy and for lockout, whether its authorization value is secret
  pub hierarchy_values : HierarchyAuth → Bool
  -- for each Name, whether the keys of the sessions that were bound to the entity with this Name
  -- are secret. These keys are derived from the entity's authorization value
  pub bound_names : List ℕ → Bool

-- the bytes, or the empty list if the bytes are secret
abbrev pub unless : Bool → List ℕ → List ℕ
unless secret bytes = if secret then [] else bytes

-- ---- objects

-- whether an object's sealed data or HMAC key is secret
abbrev pub has_secret_data : Secrecy → Object → Bool
has_secret_data s o = is_keyed_hash o.public && s.object_data o.public

-- an object with its secrets erased. The secrets are the authorization value, and the sealed data
-- or key together with the seedValue, because `unique` is computed from both
abbrev pub bare_object : Secrecy → Object → Object
bare_object s o = record o {
  auth_value = unless (s.object_values o.public) o.auth_value;
  seed_value = unless (has_secret_data s o) o.seed_value;
  sensitive = unless (has_secret_data s o) o.sensitive;
}

-- ---- NV indices

-- an index with its secrets erased; neither its handle nor the largest value of any counter is
-- erased
abbrev pub bare_index : Secrecy → NvIndex → NvIndex
bare_index s i = record i {
  auth_value = unless (s.index_values i.public.nv_index.number) i.auth_value;
  bytes = unless (s.index_data i.public.nv_index.number) i.bytes;
}

abbrev pub bare_nv : Secrecy → NvContents → NvContents
bare_nv s contents =
    record contents { indices = map (λ e. (e.0, bare_index s e.1)) contents.indices }

-- ---- hierarchies and sessions

abbrev pub bare_hierarchy : Bool → Hierarchy → Hierarchy
bare_hierarchy secret h = record h { auth_value = unless secret h.auth_value }

abbrev pub bare_hierarchies : Secrecy → Hierarchies → Hierarchies
bare_hierarchies s h = record h {
  owner = bare_hierarchy (s.hierarchy_values auth.Owner) h.owner;
  endorsement = bare_hierarchy (s.hierarchy_values auth.Endorsement) h.endorsement;
  platform = bare_hierarchy (s.hierarchy_values auth.Platform) h.platform;
  lockout_auth = unless (s.hierarchy_values auth.Lockout) h.lockout_auth;
}

abbrev pub bare_fixed : Secrecy → Fixed → Fixed
bare_fixed s f = record f { hierarchies = bare_hierarchies s f.hierarchies }

-- whether the key of a session is secret, because of the entity to which the session was bound
abbrev pub has_secret_key : Secrecy → Option Binding → Bool
has_secret_key s binding = option_map_or (λ (b : Binding). s.bound_names b.name) binding false

abbrev pub bare_binding : Secrecy → Binding → Binding
bare_binding s b = record b { auth_value = unless (s.bound_names b.name) b.auth_value }

-- a session with its secrets erased. The secrets are its key, and the authorization value of the
-- entity to which it was bound
abbrev pub bare_session : Secrecy → Session → Session
bare_session s x = record x {
  key = unless (has_secret_key s x.binding) x.key;
  binding = option_map (bare_binding s) x.binding;
}

-- ---- erasing the secrets of a device

-- the record with its secrets erased. Everything else is unchanged: the entities with their public
-- areas and Names, the sessions and their policies, the PCRs, the number of failed tries, and the
-- seeds
abbrev pub without_secrets : Secrecy → Record → Record
without_secrets s r = record {
  fixed = bare_fixed s r.fixed;
  sessions = map (option_map (bare_session s)) r.sessions;
  objects = map (option_map (bare_object s)) r.objects;
  persistent = map (λ e. (e.0, bare_object s e.1)) r.persistent;
  nv = bare_nv s r.nv;
}

-- Two devices differ only in secrets.
abbrev pub DifferInSecrets : Secrecy → Record → Record → Type 0
DifferInSecrets s one other = without_secrets s one ≡ without_secrets s other

-- ---- entities and sessions with secrets

-- whether the authorization value of the entity that a handle names is secret
abbrev pub entity_has_secret_value : Secrecy → Handle → Entity → Bool
entity_has_secret_value s handle (AnObject o) = s.object_values o.public
entity_has_secret_value s handle (AnIndex i) = s.index_values i.public.nv_index.number
entity_has_secret_value s handle Permanent =
    option_map_or s.hierarchy_values (hierarchy_auth_of handle) false

abbrev pub has_secret_value : Secrecy → Record → Handle → Bool
has_secret_value s r handle = entity_has_secret_value s handle (entity_at r handle)

-- If the authorization value of an entity is secret, so are the keys of the sessions that were
-- bound to the entity.
pub record CoversKeys (s : Secrecy) : Type 0 where
  pub indices : (public : NvPublic)
      → s.index_values public.nv_index.number ≡ true → s.bound_names (nv_name public) ≡ true
  pub objects : (public : Public)
      → s.object_values public ≡ true → s.bound_names (object_name public) ≡ true
  pub hierarchies : (handle : Handle)
      → option_map_or s.hierarchy_values (hierarchy_auth_of handle) false ≡ true
      → s.bound_names (handle_name handle) ≡ true

-- the choice that only the data of these NV indices and objects is secret
abbrev pub of_data : (ℕ → Bool) → (Public → Bool) → Secrecy
of_data indices objects = record {
  index_data = indices;
  object_data = objects;
  index_values = λ number. false;
  object_values = λ public. false;
  hierarchy_values = λ hierarchy. false;
  bound_names = λ name. false;
}
