-- Erasing the secrets of a device twice is the same as erasing them once. Two devices with their
-- secrets erased are equal if all their parts are equal.
use Rattle.std.proofs.Common.{ap, refl, sym, ◌∙◌}
use Rattle.std.proofs.lemmas.Bool.{false≢true}
use Rattle.std.specs.Prelude.{Bool, List, None, Option, Some, [], false, option_map, true, ℕ, ◌≡◌}
use Rattle.tpm_containers.specs.SortedMap.{Entries}
use Rattle.tpm_nv.specs.Index.{NvContents, NvIndex}
use Rattle.tpm_object.specs.declared.object.Object.{Object}
use Rattle.tpm_record.specs.Cycle.{after_cycle}
use Rattle.tpm_record.specs.Record.{Record}
use Rattle.tpm_record.specs.declared.fixed.Fixed.{Fixed}
use Rattle.tpm_record.specs.declared.hierarchy.Hierarchies.{Hierarchies}
use Rattle.tpm_session.specs.declared.session.Binding.{Binding}
use Rattle.tpm_session.specs.declared.session.Session.{Session}
use Rattle.tpm_types_common.specs.Limits.{object_limit, session_limit}
use Rattle.tpm_row_secrecy.proofs.Each.{each, each_again, free_each, places, places_again}
use Rattle.tpm_row_secrecy.specs.Secrecy.{Secrecy, bare_binding, bare_fixed, bare_hierarchies, bare_index, bare_nv, bare_object, bare_session, has_secret_key, unless, without_secrets}

pub unless_again : (b : Bool) (bytes : List ℕ) → unless b (unless b bytes) ≡ unless b bytes
unless_again true bytes = refl
unless_again false bytes = refl

pub unless_open : (b : Bool) (bytes : List ℕ) → b ≡ false → unless b bytes ≡ bytes
unless_open true bytes shown = absurd (false≢true (sym shown))
unless_open false bytes shown = refl

pub unless_none : (b : Bool) → unless b [] ≡ []
unless_none true = refl
unless_none false = refl

module _ (s : Secrecy) where
  -- ---- erasing the secrets twice

  pub object_again : (o : Object) → bare_object s (bare_object s o) ≡ bare_object s o
  object_again o =
      rw (unless_again _ o.auth_value, unless_again _ o.seed_value, unless_again _ o.sensitive) refl

  pub index_again : (i : NvIndex) → bare_index s (bare_index s i) ≡ bare_index s i
  index_again i = rw (unless_again _ i.auth_value, unless_again _ i.bytes) refl

  pub hierarchies_again : (h : Hierarchies) → bare_hierarchies s (bare_hierarchies s h)
      ≡ bare_hierarchies s h
  hierarchies_again h =
      rw (
        unless_again _ h.owner.auth_value,
        unless_again _ h.endorsement.auth_value,
        unless_again _ h.platform.auth_value,
        unless_again _ h.lockout_auth,
      ) refl

  pub key_still_secret : (b : Option Binding) → has_secret_key s (option_map (bare_binding s) b)
      ≡ has_secret_key s b
  key_still_secret None = refl
  key_still_secret (Some b) = refl

  binding_again : (b : Option Binding) → option_map (bare_binding s) (option_map (bare_binding s) b)
      ≡ option_map (bare_binding s) b
  binding_again None = refl
  binding_again (Some b) =
      ap (λ (value : List ℕ). let x : Option Binding = Some (record b { auth_value = value }) in x)
      (unless_again (s.bound_names b.name) b.auth_value)

  pub session_again : (x : Session) → bare_session s (bare_session s x) ≡ bare_session s x
  session_again x =
      ap (λ (b : Bool). record x {
        key = unless b (unless (has_secret_key s x.binding) x.key);
        binding = option_map (bare_binding s) (option_map (bare_binding s) x.binding);
      })
      (key_still_secret x.binding)
      ∙ ap (λ (key : List ℕ). record x {
        key = key;
        binding =
            option_map (bare_binding s) (option_map (bare_binding s) x.binding);
      })
      (unless_again (has_secret_key s x.binding) x.key)
      ∙ ap (λ (b : Option Binding). record x {
        key = unless (has_secret_key s x.binding) x.key;
        binding = b;
      }) (binding_again x.binding)

  pub nv_again : (n : NvContents) → bare_nv s (bare_nv s n) ≡ bare_nv s n
  nv_again n = ap (λ (es : Entries NvIndex). record n { indices = es })
      (each_again (bare_index s) index_again n.indices)

  pub fixed_again : (f : Fixed) → bare_fixed s (bare_fixed s f) ≡ bare_fixed s f
  fixed_again f = ap (λ (h : Hierarchies). record f { hierarchies = h })
      (hierarchies_again f.hierarchies)

  pub sessions_again : (xs : List (Option Session))
      → places (bare_session s) (places (bare_session s) xs) ≡ places (bare_session s) xs
  sessions_again = places_again (bare_session s) session_again

  pub objects_again : (xs : List (Option Object))
      → places (bare_object s) (places (bare_object s) xs) ≡ places (bare_object s) xs
  objects_again = places_again (bare_object s) object_again

  pub persistent_again : (es : Entries Object)
      → each (bare_object s) (each (bare_object s) es) ≡ each (bare_object s) es
  persistent_again = each_again (bare_object s) object_again

  -- ---- the parts of a record

  pub same_parts : (a b : Record) → bare_fixed s a.fixed ≡ bare_fixed s b.fixed
      → places (bare_session s) a.sessions ≡ places (bare_session s) b.sessions
      → places (bare_object s) a.objects ≡ places (bare_object s) b.objects
      → each (bare_object s) a.persistent ≡ each (bare_object s) b.persistent
      → bare_nv s a.nv ≡ bare_nv s b.nv → without_secrets s a ≡ without_secrets s b
  same_parts a b fixed sessions objects persistent nv =
      let made : Fixed → List (Option Session) → List (Option Object) → Entries Object → NvContents
      → Record = λ f xs os ps n. record {
        fixed = f;
        sessions = xs;
        objects = os;
        persistent =
            ps;
        nv = n;
      } in
      ap (λ (f : Fixed). made f (places (bare_session s) a.sessions)
      (places (bare_object s) a.objects) (each (bare_object s) a.persistent) (bare_nv s a.nv))
      fixed
      ∙ ap (λ (xs : List (Option Session)). made (bare_fixed s b.fixed) xs
      (places (bare_object s) a.objects) (each (bare_object s) a.persistent) (bare_nv s a.nv))
      sessions
      ∙ ap (λ (os : List (Option Object)). made (bare_fixed s b.fixed)
      (places (bare_session s) b.sessions) os (each (bare_object s) a.persistent)
      (bare_nv s a.nv)) objects
      ∙ ap (λ (ps : Entries Object). made (bare_fixed s b.fixed)
      (places (bare_session s) b.sessions) (places (bare_object s) b.objects) ps
      (bare_nv s a.nv)) persistent
      ∙ ap (made (bare_fixed s b.fixed) (places (bare_session s) b.sessions)
      (places (bare_object s) b.objects) (each (bare_object s) b.persistent)) nv

  pub record_again : (r : Record) → without_secrets s (without_secrets s r) ≡ without_secrets s r
  record_again r = same_parts (without_secrets s r) r (fixed_again r.fixed)
      (sessions_again r.sessions) (objects_again r.objects) (persistent_again r.persistent)
      (nv_again r.nv)

  -- Erasing the secrets before or after a change of one part of a record gives the same record.
  module _ (r : Record) where
    pub with_fixed : (f g : Fixed) → bare_fixed s f ≡ bare_fixed s g
        → without_secrets s (record (without_secrets s r) { fixed = f })
        ≡ without_secrets s (record r { fixed = g })
    with_fixed f g same = same_parts (record (without_secrets s r) { fixed = f })
        (record r { fixed = g }) same (sessions_again r.sessions) (objects_again r.objects)
        (persistent_again r.persistent) (nv_again r.nv)

    pub with_sessions : (xs ys : List (Option Session))
        → places (bare_session s) xs ≡ places (bare_session s) ys
        → without_secrets s (record (without_secrets s r) { sessions = xs })
        ≡ without_secrets s (record r { sessions = ys })
    with_sessions xs ys same =
        same_parts (record (without_secrets s r) { sessions = xs }) (record r { sessions = ys })
        (fixed_again r.fixed) same (objects_again r.objects) (persistent_again r.persistent)
        (nv_again r.nv)

    pub with_objects : (xs ys : List (Option Object))
        → places (bare_object s) xs ≡ places (bare_object s) ys
        → without_secrets s (record (without_secrets s r) { objects = xs })
        ≡ without_secrets s (record r { objects = ys })
    with_objects xs ys same =
        same_parts (record (without_secrets s r) { objects = xs }) (record r { objects = ys })
        (fixed_again r.fixed) (sessions_again r.sessions) same (persistent_again r.persistent)
        (nv_again r.nv)

    pub with_persistent_objects : (xs ys : Entries Object)
        → each (bare_object s) xs ≡ each (bare_object s) ys
        → without_secrets s (record (without_secrets s r) { persistent = xs })
        ≡ without_secrets s (record r { persistent = ys })
    with_persistent_objects xs ys same =
        same_parts (record (without_secrets s r) { persistent = xs }) (record r { persistent = ys })
        (fixed_again r.fixed) (sessions_again r.sessions) (objects_again r.objects) same
        (nv_again r.nv)

    pub with_nv : (n m : NvContents) → bare_nv s n ≡ bare_nv s m
        → without_secrets s (record (without_secrets s r) { nv = n })
        ≡ without_secrets s (record r { nv = m })
    with_nv n m same = same_parts (record (without_secrets s r) { nv = n }) (record r { nv = m })
        (fixed_again r.fixed) (sessions_again r.sessions) (objects_again r.objects)
        (persistent_again r.persistent) same

    -- Erasing the secrets before or after a power cycle gives the same record.
    pub cycled_bare : after_cycle (without_secrets s r) ≡ without_secrets s (after_cycle r)
    cycled_bare =
        ap (λ (xs : List (Option Session)). record (after_cycle (without_secrets s r)) {
          sessions =
              xs;
        }) (sym (free_each (bare_session s) session_limit))
        ∙ ap (λ (xs : List (Option Object)). record (without_secrets s (after_cycle r)) {
          objects =
              xs;
        }) (sym (free_each (bare_object s) object_limit))
