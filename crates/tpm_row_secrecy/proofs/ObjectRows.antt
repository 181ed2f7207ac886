-- The rows for objects reveal nothing about secrets, except the row of an accepted TPM2_Unseal or
-- TPM2_HMAC.
use Rattle.std.proofs.Common.{ap, refl, subst, sym, ◌∙◌}
use Rattle.std.proofs.lemmas.Bool.{false≢true, not-false}
use Rattle.std.specs.Option.{option_map_or}
use Rattle.std.specs.Prelude.{Bool, List, None, Ok, Option, Result, Some, cond, false, is_ok, is_some, length, nat_le, not, ok_or, true, ℕ, ◌&&◌, ◌++◌, ◌+◌, ◌==◌, ◌≡◌}
use Rattle.tpm_actions_object.specs.Checks.{given_passes, public_passes}
use Rattle.tpm_actions_object.specs.Create.{create_answer, create_row, initial_vector}
use Rattle.tpm_actions_object.specs.CreatePrimary.{create_primary_row, named_hierarchy, primary_answer, primary_from_seed}
use Rattle.tpm_actions_object.specs.Creation.{creation_rest, hierarchy_parent, object_parent}
use Rattle.tpm_actions_object.specs.EvictControl.{evict_control_row, eviction_passes, objects_with_copy, remaining_objects}
use Rattle.tpm_actions_object.specs.Hmac.{chosen_hash, hmac_row, scheme_of}
use Rattle.tpm_actions_object.specs.Load.{load_answer, load_row, loaded_below, sensitive_of}
use Rattle.tpm_actions_object.specs.Loaded.{is_fixed, loaded_at, parent_passes, place_for}
use Rattle.tpm_actions_object.specs.ReadPublic.{read_public_row}
use Rattle.tpm_actions_object.specs.Unseal.{unseal_row}
use Rattle.tpm_actions_object.specs.declared.creation.Parent.{Parent}
use Rattle.tpm_bytes.proofs.Fields.{passed}
use Rattle.tpm_bytes.specs.Reading.{refused_if, ◌>>=◌}
use Rattle.tpm_bytes.specs.Writing.{sized_text}
use Rattle.tpm_containers.specs.Slots.{free}
use Rattle.tpm_containers.specs.SortedMap.{Entries}
use Rattle.tpm_name.specs.ObjectName.{object_name}
use Rattle.tpm_object.specs.Areas.{created_areas}
use Rattle.tpm_object.specs.Creation.{drawn_by}
use Rattle.tpm_object.specs.Object.{is_cipher, is_keyed_hash, is_storage_parent}
use Rattle.tpm_object.specs.Primary.{primary_object}
use Rattle.tpm_object.specs.PrivateArea.{decrypted_area, encrypted_area, integrity_key, integrity_of, private_text, protected_in, storage_key, unwrapped_sensitive}
use Rattle.tpm_object.specs.declared.areas.Created.{Created}
use Rattle.tpm_object.specs.declared.object.Object.{Object}
use Rattle.tpm_record.specs.Hierarchy.{secrets_of}
use Rattle.tpm_record.specs.Objects.{object_handle, with_object}
use Rattle.tpm_record.specs.Persistent.{persistent_at}
use Rattle.tpm_record.specs.Record.{Record}
use Rattle.tpm_record.specs.declared.hierarchy.Secrets.{Secrets}
use Rattle.tpm_record.specs.rows.Answer.{AnswerParts, SizedFirst, nothing}
use Rattle.tpm_record.specs.rows.Refusals.{action_refusal, handle_refusal}
use Rattle.tpm_record.specs.rows.Request.{Request, first_handle, second_handle}
use Rattle.tpm_record.specs.rows.Rows.{Success, all_read, only, unchanged_success}
use Rattle.tpm_types_common.specs.Handle.{is_persistent, platform_handle}
use Rattle.tpm_types_common.specs.Limits.{persistent_limit}
use Rattle.tpm_types_common.specs.PersistentHandle.{persistent_handle_at}
use Rattle.tpm_types_common.specs.Rc.{at, plain}
use Rattle.tpm_types_common.specs.declared.action_check.ActionCheck.{ActionCheck}
use Rattle.tpm_types_common.specs.declared.handle.Handle.{Handle}
use Rattle.tpm_types_common.specs.declared.handle.HierarchyHandle.{HierarchyHandle}
use Rattle.tpm_types_common.specs.declared.refused.Refused.{Refused}
use Rattle.tpm_types_object.specs.ObjectAttributes.{has}
use Rattle.tpm_types_object.specs.Public.{public_text}
use Rattle.tpm_types_object.specs.declared.public.Public.{Public}
use Rattle.tpm_types_object.specs.declared.sensitive.Sensitive.{Sensitive}
use Rattle.tpm_row_secrecy.proofs.Alike.{alike_after, alike_both, alike_end, alike_found, alike_step, alike_step_is, either_free, refused_alike, success}
use Rattle.tpm_row_secrecy.proofs.Bare.{object_again, unless_open, with_objects, with_persistent_objects}
use Rattle.tpm_row_secrecy.proofs.Each.{each, is_some_of, length_each, lowest_free_each, places, set_same, with_key_same, without_key_same}
use Rattle.tpm_row_secrecy.proofs.Entities.{object_of_bare, persistent_at_bare}
use Rattle.tpm_row_secrecy.proofs.Steps.{same_both, same_end, same_object, same_step, same_unchanged}
use Rattle.tpm_row_secrecy.specs.Alike.{Alike, Same, bare_success}
use Rattle.tpm_row_secrecy.specs.Reads.{handle_passes, names_secret_object, reads_secret}
use Rattle.tpm_row_secrecy.specs.Secrecy.{Secrecy, bare_hierarchies, bare_object, has_secret_data, unless, without_secrets}
use Rattle.tpm_commands.specs.declared.command_code.CommandCode.TheVariants as command
use Rattle.tpm_types_common.specs.declared.action_check.ActionCheck.TheVariants as action
use Rattle.tpm_types_common.specs.declared.rc.ResponseCode.TheVariants as code
use Rattle.tpm_types_common.specs.declared.rc.Place.TheVariants as place
use Rattle.tpm_types_common.specs.declared.handle.HierarchyHandle.TheVariants as hierarchy
use Rattle.tpm_types_object.specs.declared.object_attributes.ObjectAttribute.TheVariants as attribute
use Rattle.tpm_actions_object.specs.Creation as creation
use Rattle.tpm_actions_object.specs.Load as loading
use Rattle.tpm_actions_object.specs.Hmac as keyed

module _ (s : Secrecy) (r : Record) (q : Request) where
  -- ---- objects whose data is not secret

  -- an object with its authorization value erased, if the value is secret
  abbrev other_value : Object → Object
  other_value o = record o { auth_value = unless (s.object_values o.public) o.auth_value }

  data_shown : (o : Object) → has_secret_data s o ≡ false → bare_object s o ≡ other_value o
  data_shown o shown = rw (unless_open _ o.seed_value shown, unless_open _ o.sensitive shown) refl

  -- A storage parent is not a KEYEDHASH object. Therefore it has no secret data.
  parent_shown : (cipher restricted decrypt sign secret : Bool)
      → (cipher && restricted && decrypt && sign) ≡ true → (not cipher && secret) ≡ false
  parent_shown true restricted decrypt sign secret is = refl
  parent_shown false restricted decrypt sign secret is = absurd (false≢true is)

  parent_bare : (o : Object) → is_storage_parent o.public ≡ true → bare_object s o ≡ other_value o
  parent_bare o is =
      data_shown o (parent_shown (is_cipher o.public) (has o.public.attributes attribute.Restricted)
      (has o.public.attributes attribute.Decrypt) (not (has o.public.attributes attribute.Sign))
      (s.object_data o.public) is)

  with_parent : (o : Object) (f g : Object → Result Success Refused)
      → Same s (f (other_value o)) (g o)
      → Same s (parent_passes (bare_object s o) >>= λ a1. f (bare_object s o))
      (parent_passes o >>= λ a1. g o)
  with_parent o f g more =
      alike_step_is (bare_success s) (parent_passes o) _ _ (λ a1 is.
      subst (λ (x : Object). Same s (f x) (g o))
      (sym (parent_bare o (not-false _ (passed _ _ a1 is)))) more)

  -- ---- reading objects

  pub read_public_tells : Same s (read_public_row (without_secrets s r) q) (read_public_row r q)
  unfolding read_public_row
  read_public_tells =
      same_step s (first_handle q.handles) _ _ (λ handle.
      same_object s r handle _ _ (λ o is.
      same_step s (all_read q.parameters) _ _ (λ ended.
      same_unchanged s r _)))

  -- ---- creating and loading objects

  proof_same : (h : HierarchyHandle) → secrets_of (bare_hierarchies s r.fixed.hierarchies) h
      ≡ secrets_of r.fixed.hierarchies h
  proof_same hierarchy.Owner = refl
  proof_same hierarchy.Endorsement = refl
  proof_same hierarchy.Platform = refl
  proof_same hierarchy.Null = refl

  rest_same : (parent : Parent) (p : creation.Parameters) (public : Public)
      → creation_rest (without_secrets s r) q.locality parent p public
      ≡ creation_rest r q.locality parent p public
  unfolding creation_rest
  rest_same parent p public = rw (proof_same parent.hierarchy) refl

  private_same : (o : Object) (name iv : List ℕ) (area : Sensitive)
      → private_text (other_value o) name iv area ≡ private_text o name iv area
  unfolding private_text integrity_of integrity_key encrypted_area storage_key
  private_same o name iv area = refl

  created_same : (o : Object) (p : creation.Parameters) (new : Created)
      → create_answer (without_secrets s r) q (other_value o) p new ≡ create_answer r q o p new
  created_same o p new =
      let text : List ℕ → List ℕ → AnswerParts =
      λ private rest. record {
        handle = None;
        body =
            SizedFirst private (sized_text (public_text new.public) ++ rest);
        drawn =
            drawn_by p.template p.given + 16;
      } in
      ap (λ (private : List ℕ). text private
      (creation_rest (without_secrets s r) q.locality (object_parent o) p new.public))
      (private_same o (object_name new.public) (initial_vector p q.random) new.sensitive)
      ∙ ap (text (private_text o (object_name new.public) (initial_vector p q.random)
      new.sensitive)) (rest_same (object_parent o) p new.public)

  answer_end : (one other : AnswerParts) → one ≡ other
      → Same s (Ok (unchanged_success (without_secrets s r) one)) (Ok (unchanged_success r other))
  answer_end one other same =
      subst (λ (x : AnswerParts). Same s (Ok (unchanged_success (without_secrets s r) x))
      (Ok (unchanged_success r other))) (sym same) (same_unchanged s r other)

  abbrev creates : Record → creation.Parameters → Object → Result Success Refused
  creates t p o =
      public_passes 1 (is_fixed o) p.template >>= λ u.
      given_passes 4 p.given p.template >>= λ c.
      Ok (unchanged_success t (create_answer t q o p (created_areas p.template p.given q.random)))

  pub create_tells : Same s (create_row (without_secrets s r) q) (create_row r q)
  unfolding create_row
  create_tells =
      same_step s (first_handle q.handles) _ _ (λ handle.
      same_object s r handle _ _ (λ o found.
      same_step s (creation.parameters_in q.parameters) _ _ (λ p.
      with_parent o (creates (without_secrets s r) p) (creates r p)
      (same_step s (public_passes 1 (is_fixed o) p.template) _ _ (λ t.
      same_step s (given_passes 4 p.given p.template) _ _ (λ c.
      answer_end _ _ (created_same o p (created_areas p.template p.given q.random))))))))

  place_same : (check : ActionCheck) → place_for check (without_secrets s r) ≡ place_for check r
  place_same check =
      ap (λ (found : Option ℕ). ok_or found (action_refusal check (plain code.ObjectMemory)))
      (lowest_free_each (bare_object s) r.objects)

  -- Storing a new object in a slot looks the same on a device and on the device with its secrets
  -- erased.
  placed : (one other : ℕ → AnswerParts) (check : ActionCheck) (o : Object)
      → ((n : ℕ) → one n ≡ other n)
      → Same s (place_for check (without_secrets s r)
      >>= λ n.
      Ok (record {
        answer = one n;
        after =
            record (without_secrets s r) {
              objects =
                  with_object (places (bare_object s) r.objects) n o;
            };
      }))
      (place_for check r
      >>= λ n.
      Ok (record { answer = other n; after = record r { objects = with_object r.objects n o } }))
  placed one other check o same =
      same_both s (place_for check (without_secrets s r)) (place_for check r) _ _ (place_same check)
      (λ n.
      subst (λ (answer : AnswerParts). Same s
      (Ok
      (record {
        answer = answer;
        after =
            record (without_secrets s r) {
              objects =
                  with_object (places (bare_object s) r.objects) n o;
            };
      }))
      (Ok
      (record {
        answer = other n;
        after =
            record r { objects = with_object r.objects n o };
      }))) (sym (same n))
      (same_end s (other n) _ _
      (with_objects s r _ _
      (set_same (bare_object s) (object_again s) r.objects n (Some o) (Some o) refl))))

  sensitive_same : (o : Object) (public : Public) (private : List ℕ)
      → sensitive_of (other_value o) public private ≡ sensitive_of o public private
  unfolding unwrapped_sensitive decrypted_area protected_in integrity_of integrity_key storage_key
  sensitive_same o public private = refl

  abbrev loads : Record → loading.Parameters → Object → Result Success Refused
  loads t p o =
      public_passes 1 (is_fixed o) p.public >>= λ u.
      sensitive_of o p.public p.private >>= λ sensitive.
      place_for action.Sixth t >>= λ n.
      Ok (record {
        answer = load_answer n (loaded_below o p.public sensitive);
        after = record t { objects = with_object t.objects n (loaded_below o p.public sensitive) };
      })

  pub load_tells : Same s (load_row (without_secrets s r) q) (load_row r q)
  unfolding load_row
  load_tells =
      same_step s (first_handle q.handles) _ _ (λ handle.
      same_object s r handle _ _ (λ o found.
      same_step s (loading.parameters_in q.parameters) _ _ (λ p.
      with_parent o (loads (without_secrets s r) p) (loads r p)
      (same_step s (public_passes 1 (is_fixed o) p.public) _ _ (λ t.
      same_both s (sensitive_of (other_value o) p.public p.private)
      (sensitive_of o p.public p.private) _ _ (sensitive_same o p.public p.private)
      (λ sensitive.
      placed (λ n. load_answer n (loaded_below o p.public sensitive))
      (λ n. load_answer n (loaded_below o p.public sensitive)) action.Sixth
      (loaded_below o p.public sensitive) (λ n. refl)))))))

  derived_same : (h : HierarchyHandle) (p : creation.Parameters)
      → primary_from_seed (without_secrets s r) h p ≡ primary_from_seed r h p
  derived_same h p = ap (λ (x : Secrets). primary_object h x.seed p.template p.given) (proof_same h)

  primary_same : (h : HierarchyHandle) (p : creation.Parameters) (n : ℕ) (o : Object)
      → primary_answer (without_secrets s r) q h p n o ≡ primary_answer r q h p n o
  primary_same h p n o =
      ap (λ (rest : List ℕ). let x : AnswerParts =
      record {
        handle = Some (object_handle n);
        body =
            SizedFirst (public_text o.public) (rest ++ sized_text (object_name o.public));
        drawn =
            0;
      } in x) (rest_same (hierarchy_parent h) p o.public)

  abbrev makes_primary : Record → HierarchyHandle → creation.Parameters → Object
      → Result Success Refused
  makes_primary t h p o =
      place_for action.Seventh t >>= λ n.
      Ok (record {
        answer = primary_answer t q h p n o;
        after =
            record t { objects = with_object t.objects n o };
      })

  pub create_primary_tells : Same s (create_primary_row (without_secrets s r) q)
      (create_primary_row r q)
  unfolding create_primary_row
  create_primary_tells =
      same_step s (first_handle q.handles) _ _ (λ handle.
      same_step s (named_hierarchy handle) _ _ (λ h.
      same_step s (creation.parameters_in q.parameters) _ _ (λ p.
      same_step s (public_passes 0 true p.template) _ _ (λ t.
      same_step s (given_passes 3 p.given p.template) _ _ (λ c.
      subst (λ (o : Object). Same s (makes_primary (without_secrets s r) h p o)
      (makes_primary r h p (primary_from_seed r h p))) (sym (derived_same h p))
      (placed (λ n. primary_answer (without_secrets s r) q h p n (primary_from_seed r h p))
      (λ n. primary_answer r q h p n (primary_from_seed r h p)) action.Seventh
      (primary_from_seed r h p) (λ n. primary_same h p n (primary_from_seed r h p))))))))

  -- ---- TPM2_EvictControl

  taken_same : (wanted : Handle)
      → is_some (persistent_at (each (bare_object s) r.persistent) wanted)
      ≡ is_some (persistent_at r.persistent wanted)
  taken_same wanted = ap is_some (persistent_at_bare s r.persistent wanted)
      ∙ is_some_of (bare_object s) (persistent_at r.persistent wanted)

  abbrev EvictsAlike : Result (Entries Object) Refused → Result (Entries Object) Refused → Type 0
  EvictsAlike x y = Alike (each (bare_object s)) x y

  removed_alike : (handle wanted : Handle)
      → EvictsAlike (remaining_objects (each (bare_object s) r.persistent) handle wanted)
      (remaining_objects r.persistent handle wanted)
  removed_alike handle wanted =
      alike_step (each (bare_object s))
      (refused_if (not (wanted.number == handle.number))
      (action_refusal action.Fourth (at (place.Handle 2) (plain code.Handle)))) _ _ (λ a4.
      alike_end (each (bare_object s)) _ _
      (without_key_same (bare_object s) (object_again s) r.persistent handle.number))

  copied_alike : (o : Object) (wanted : Handle)
      → EvictsAlike (objects_with_copy (each (bare_object s) r.persistent) (bare_object s o) wanted)
      (objects_with_copy r.persistent o wanted)
  copied_alike o wanted =
      alike_both (each (bare_object s))
      (refused_if (is_some (persistent_at (each (bare_object s) r.persistent) wanted))
      (action_refusal action.Fifth (plain code.NvDefined)))
      (refused_if (is_some (persistent_at r.persistent wanted))
      (action_refusal action.Fifth (plain code.NvDefined))) _ _
      (ap (λ (b : Bool). refused_if b (action_refusal action.Fifth (plain code.NvDefined)))
      (taken_same wanted)) (λ a5.
      alike_both (each (bare_object s))
      (refused_if (nat_le persistent_limit (length (each (bare_object s) r.persistent)))
      (action_refusal action.Sixth (plain code.NvSpace)))
      (refused_if (nat_le persistent_limit (length r.persistent))
      (action_refusal action.Sixth (plain code.NvSpace))) _ _
      (ap (λ (n : ℕ). refused_if (nat_le persistent_limit n)
      (action_refusal action.Sixth (plain code.NvSpace)))
      (length_each (bare_object s) r.persistent)) (λ a6.
      alike_end (each (bare_object s)) _ _
      (with_key_same (bare_object s) (object_again s) r.persistent wanted.number
      (bare_object s o) o (object_again s o))))

  evicted_alike : (removes : Bool) (handle : Handle) (o : Object) (wanted : Handle)
      → EvictsAlike
      (cond removes (remaining_objects (each (bare_object s) r.persistent) handle wanted)
      (objects_with_copy (each (bare_object s) r.persistent) (bare_object s o) wanted))
      (cond removes (remaining_objects r.persistent handle wanted)
      (objects_with_copy r.persistent o wanted))
  evicted_alike true handle o wanted = removed_alike handle wanted
  evicted_alike false handle o wanted = copied_alike o wanted

  pub evict_control_tells : Same s (evict_control_row (without_secrets s r) q)
      (evict_control_row r q)
  unfolding evict_control_row
  evict_control_tells =
      same_step s (first_handle q.handles) _ _ (λ auth.
      same_step s (second_handle q.handles) _ _ (λ handle.
      same_object s r handle _ _ (λ o found.
      same_step s (only (persistent_handle_at q.parameters)) _ _ (λ wanted.
      same_step s (eviction_passes (auth.number == platform_handle.number) (is_persistent handle) o
      wanted) _ _ (λ passed.
      alike_after (each (bare_object s)) (bare_success s) _ _ _ _
      (evicted_alike (is_persistent handle) handle o wanted) (λ xs ys same.
      same_end s nothing _ _ (with_persistent_objects s r xs ys same)))))))

  -- ---- sealed data and keys

  -- If the data of the object that the first handle names is not secret, at most the object's
  -- authorization value is erased. Two rows then look the same if they look the same for objects
  -- that differ only in this value.
  shown_object : (f g : Object → Result Success Refused)
      → handle_passes (names_secret_object s r) (first_handle q.handles) ≡ false
      → ((o : Object) → Same s (f (other_value o)) (g o))
      → Same s (first_handle q.handles >>= λ handle. loaded_at (without_secrets s r) handle >>= f)
      (first_handle q.handles >>= λ handle. loaded_at r handle >>= g)
  shown_object f g shown more =
      alike_step_is (bare_success s) (first_handle q.handles) _ _ (λ handle named.
      same_object s r handle f g (λ o found.
      subst (λ (x : Object). Same s (f x) (g o))
      (sym
      (data_shown o
      (sym (ap (λ (x : Option Object). option_map_or (has_secret_data s) x false) found)
      ∙ sym (ap (handle_passes (names_secret_object s r)) named) ∙ shown))) (more o)))

  -- If only the success of a row is visible, two rows look the same if they look the same for each
  -- object and for the same object with its secrets erased.
  any_object : (f g : Object → Result Success Refused)
      → ((o : Object) → Alike success (f (bare_object s o)) (g o))
      → Alike success (first_handle q.handles >>= λ handle. loaded_at (without_secrets s r) handle
      >>= f) (first_handle q.handles >>= λ handle. loaded_at r handle >>= g)
  any_object f g more =
      alike_step success (first_handle q.handles) _ _ (λ handle.
      alike_found success (bare_object s) _ _ handle_refusal f g (object_of_bare s r handle)
      (λ o found. more o))

  pub unseal_refused_alike : Alike success (unseal_row (without_secrets s r) q) (unseal_row r q)
  unfolding unseal_row
  unseal_refused_alike =
      any_object _ _ (λ o.
      alike_step success (all_read q.parameters) _ _ (λ ended.
      alike_step success
      (refused_if (not (is_keyed_hash o.public))
      (action_refusal action.First (at (place.Handle 1) (plain code.Type)))) _ _ (λ a1.
      alike_step success
      (refused_if (has o.public.attributes attribute.Sign)
      (action_refusal action.Second (at (place.Handle 1) (plain code.Attributes)))) _ _ (λ a2.
      alike_end success _ _ refl))))

  unseal_shown : handle_passes (names_secret_object s r) (first_handle q.handles) ≡ false
      → Same s (unseal_row (without_secrets s r) q) (unseal_row r q)
  unfolding unseal_row
  unseal_shown shown =
      shown_object _ _ shown (λ o.
      same_step s (all_read q.parameters) _ _ (λ ended.
      same_step s
      (refused_if (not (is_keyed_hash o.public))
      (action_refusal action.First (at (place.Handle 1) (plain code.Type)))) _ _ (λ a1.
      same_step s (refused_if (has o.public.attributes attribute.Sign)
      (action_refusal action.Second (at (place.Handle 1) (plain code.Attributes)))) _ _ (λ a2.
      same_unchanged s r _))))

  pub unseal_tells : reads_secret s r command.Unseal q ≡ false
      → Same s (unseal_row (without_secrets s r) q) (unseal_row r q)
  unseal_tells free =
      either_free (handle_passes (names_secret_object s r) (first_handle q.handles))
      (is_ok (unseal_row r q)) free
      unseal_shown
      (refused_alike (bare_success s) (unseal_row (without_secrets s r) q) (unseal_row r q)
      unseal_refused_alike)

  pub hmac_refused_alike : Alike success (hmac_row (without_secrets s r) q) (hmac_row r q)
  unfolding hmac_row
  hmac_refused_alike =
      any_object _ _ (λ o.
      alike_step success (keyed.parameters_in q.parameters) _ _ (λ p.
      alike_step success (scheme_of o.public.parameters) _ _ (λ scheme.
      alike_step success
      (refused_if (has o.public.attributes attribute.Restricted)
      (action_refusal action.Second (at (place.Handle 1) (plain code.Attributes)))) _ _ (λ a2.
      alike_step success
      (refused_if (not (has o.public.attributes attribute.Sign))
      (action_refusal action.Third (at (place.Handle 1) (plain code.Key)))) _ _ (λ a3.
      alike_step success
      (ok_or (chosen_hash scheme p.hash)
      (action_refusal action.Fourth (at (place.Parameter 2) (plain code.Value)))) _ _ (λ hash.
      alike_end success _ _ refl))))))

  hmac_shown : handle_passes (names_secret_object s r) (first_handle q.handles) ≡ false
      → Same s (hmac_row (without_secrets s r) q) (hmac_row r q)
  unfolding hmac_row
  hmac_shown shown =
      shown_object _ _ shown (λ o.
      same_step s (keyed.parameters_in q.parameters) _ _ (λ p.
      same_step s (scheme_of o.public.parameters) _ _ (λ scheme.
      same_step s (refused_if (has o.public.attributes attribute.Restricted)
      (action_refusal action.Second (at (place.Handle 1) (plain code.Attributes)))) _ _ (λ a2.
      same_step s (refused_if (not (has o.public.attributes attribute.Sign))
      (action_refusal action.Third (at (place.Handle 1) (plain code.Key)))) _ _ (λ a3.
      same_step s
      (ok_or (chosen_hash scheme p.hash)
      (action_refusal action.Fourth (at (place.Parameter 2) (plain code.Value)))) _ _ (λ hash.
      same_unchanged s r _))))))

  pub hmac_tells : reads_secret s r command.Hmac q ≡ false
      → Same s (hmac_row (without_secrets s r) q) (hmac_row r q)
  hmac_tells free =
      either_free (handle_passes (names_secret_object s r) (first_handle q.handles))
      (is_ok (hmac_row r q)) free
      hmac_shown
      (refused_alike (bare_success s) (hmac_row (without_secrets s r) q) (hmac_row r q)
      hmac_refused_alike)
