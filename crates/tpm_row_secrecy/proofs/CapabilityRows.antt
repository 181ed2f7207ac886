-- The row of TPM2_GetCapability reveals nothing about secrets, unless it reads a secret.
use Rattle.std.proofs.Common.{ap, inl, inr, refl, sym, ◌∙◌}
use Rattle.std.proofs.lemmas.Bool.{and_cases, or_parts}
use Rattle.std.proofs.lemmas.List.Folds.{fold-map}
use Rattle.std.proofs.lemmas.List.{length-map}
use Rattle.std.specs.List.{flat_map}
use Rattle.std.specs.Option.{option_map_or}
use Rattle.std.specs.Prelude.{Bool, Err, List, None, Ok, Option, Result, Some, [], cond, false, is_some, length, map, option_map, ℕ, ◌&&◌, ◌+◌, ◌++◌, ◌-◌, ◌/◌, ◌^◌, ◌∷◌, ◌≡◌}
use Rattle.tpm_actions_capability.specs.Element.{by_itself, element, if_there, listing}
use Rattle.tpm_actions_capability.specs.Elements.{index_elements, object_element, object_elements, persistent_elements, session_element, session_elements}
use Rattle.tpm_actions_capability.specs.GetCapability.{capability_of, capability_parameters, first_handle_of, get_capability_row, handle_elements, told_of}
use Rattle.tpm_actions_capability.specs.Properties.{complete_elements, count_elements, counter_count, fixed_elements, identity_elements, index_count, is_counter, last_elements, limit_elements, object_count, permanent_attributes, property_elements, session_count, startup_attributes}
use Rattle.tpm_actions_capability.specs.declared.element.Element.{Element}
use Rattle.tpm_actions_capability.specs.declared.get_capability.Capability.{Capability}
use Rattle.tpm_actions_capability.specs.declared.get_capability.CapabilityParameters.{CapabilityParameters}
use Rattle.tpm_bytes.specs.Numbers.{numbers_below}
use Rattle.tpm_bytes.specs.Reading.{◌>>=◌}
use Rattle.tpm_commands.specs.declared.profile.Profile.{Profile}
use Rattle.tpm_commands.specs.declared.profile.Profile.TheVariants.{Complete, Symmetric}
use Rattle.tpm_containers.specs.Numbered.{number_of}
use Rattle.tpm_containers.specs.Slots.{at_place}
use Rattle.tpm_containers.specs.SortedMap.{Entries}
use Rattle.tpm_nv.specs.Head.{head_of}
use Rattle.tpm_nv.specs.Index.{NvIndex}
use Rattle.tpm_nv.specs.declared.head.Head.{Head}
use Rattle.tpm_object.specs.declared.object.Object.{Object}
use Rattle.tpm_record.specs.Objects.{object_at}
use Rattle.tpm_record.specs.Record.{Record}
use Rattle.tpm_record.specs.rows.Answer.{Plain, answer_of}
use Rattle.tpm_record.specs.rows.Request.{Request}
use Rattle.tpm_record.specs.rows.Rows.{Success, unchanged_success}
use Rattle.tpm_session.specs.Sessions.{handle_of}
use Rattle.tpm_session.specs.declared.session.Session.{Session}
use Rattle.tpm_types_common.specs.Handle.{numbered_handle}
use Rattle.tpm_types_common.specs.Limits.{object_limit, persistent_limit, session_limit}
use Rattle.tpm_types_common.specs.declared.refused.Refused.{Refused}
use Rattle.tpm_row_secrecy.proofs.Each.{each, is_some_of, place_of_each}
use Rattle.tpm_row_secrecy.proofs.Entities.{object_at_bare}
use Rattle.tpm_row_secrecy.proofs.Listed.{listing_same}
use Rattle.tpm_row_secrecy.proofs.Steps.{same_both, same_unchanged}
use Rattle.tpm_row_secrecy.specs.Alike.{Same}
use Rattle.tpm_row_secrecy.specs.Reads.{has_secret_auth, is_true, lists_permanent, reads_secret}
use Rattle.tpm_row_secrecy.specs.Secrecy.{Secrecy, bare_fixed, bare_index, bare_object, bare_session, without_secrets}
use Rattle.tpm_commands.specs.declared.command_code.CommandCode.TheVariants as command
use Rattle.tpm_types_common.specs.declared.handle.HierarchyAuth.TheVariants as auth
use Rattle.tpm_actions_capability.specs.declared.get_capability.Capability.TheVariants as capability
use Rattle.tpm_actions_capability.specs.declared.element.Telling.TheVariants as tell

abbrev head_entry : ℕ × NvIndex → ℕ × Head
head_entry e = (e.0, head_of e.1)

abbrev counted : ℕ → ℕ × Head → ℕ
counted n e = n + cond (is_counter e) 1 0

module _ (s : Secrecy) (r : Record) where
  indices_same : index_elements (without_secrets s r) ≡ index_elements r
  indices_same = by r.nv.indices
    where
      by : (es : Entries NvIndex)
          → map (λ (e : ℕ × Head). by_itself e.0) (each head_of (each (bare_index s) es))
          ≡ map (λ (e : ℕ × Head). by_itself e.0) (each head_of es)
      by [] = refl
      by (e ∷ es) = ap (λ (x : List Element). by_itself e.0 ∷ x) (by es)

  persistent_same : persistent_elements (without_secrets s r) ≡ persistent_elements r
  persistent_same = by r.persistent
    where
      by : (es : Entries Object) → map (λ (e : ℕ × Object). by_itself e.0) (each (bare_object s) es)
          ≡ map (λ (e : ℕ × Object). by_itself e.0) es
      by [] = refl
      by (e ∷ es) = ap (λ (x : List Element). by_itself e.0 ∷ x) (by es)

  pub session_same : (place : ℕ) → session_element (without_secrets s r) place
      ≡ session_element r place
  session_same place =
      ap (λ (found : Option Session). listed found)
      (place_of_each (bare_session s) r.sessions place) ∙ by (at_place r.sessions place)
    where
      listed : Option Session → List Element
      listed found =
          option_map_or
          (λ (x : Session). record { number = place; told = (handle_of x.kind place).number } ∷ [])
          found []

      by : (found : Option Session) → listed (option_map (bare_session s) found) ≡ listed found
      by None = refl
      by (Some x) = refl

  pub object_same : (place : ℕ) → object_element (without_secrets s r) place
      ≡ object_element r place
  object_same place =
      ap (λ (b : Bool). if_there b (by_itself (number_of 0x80 place)))
      (ap is_some (object_at_bare s r.objects (numbered_handle (number_of 0x80 place)))
      ∙ is_some_of (bare_object s)
      (object_at r.objects (numbered_handle (number_of 0x80 place))))

  pub of_places : (one other : ℕ → List Element) → ((place : ℕ) → one place ≡ other place)
      → (ns : List ℕ) → flat_map one ns ≡ flat_map other ns
  of_places one other same [] = refl
  of_places one other same (n ∷ ns) =
      ap (λ (x : List Element). x ++ flat_map one ns) (same n)
      ∙ ap (λ (x : List Element). other n ++ x) (of_places one other same ns)

  sessions_bare : session_elements (without_secrets s r) ≡ session_elements r
  sessions_bare = of_places (session_element (without_secrets s r)) (session_element r) session_same
      (numbers_below session_limit)

  objects_bare : object_elements (without_secrets s r) ≡ object_elements r
  objects_bare = of_places (object_element (without_secrets s r)) (object_element r) object_same
      (numbers_below object_limit)

  handles_same : (kind : ℕ) → handle_elements (without_secrets s r) kind ≡ handle_elements r kind
  handles_same kind = rw (indices_same, sessions_bare, objects_bare, persistent_same) refl

  -- ---- properties

  abbrev bare_entry : ℕ × NvIndex → ℕ × NvIndex
  bare_entry e = (e.0, bare_index s e.1)

  pub index_count_same : index_count (without_secrets s r).nv ≡ index_count r.nv
  index_count_same =
      length-map (map bare_entry r.nv.indices) head_entry
      ∙ length-map r.nv.indices bare_entry ∙ sym (length-map r.nv.indices head_entry)

  pub counter_count_same : counter_count (without_secrets s r).nv ≡ counter_count r.nv
  counter_count_same =
      fold-map counted head_entry 0 (map bare_entry r.nv.indices)
      ∙ fold-map (λ (n : ℕ) (e : ℕ × NvIndex). counted n (head_entry e)) bare_entry 0 r.nv.indices
      ∙ sym (fold-map counted head_entry 0 r.nv.indices)

  pub persistent_count_same : length (without_secrets s r).persistent ≡ length r.persistent
  persistent_count_same = length-map r.persistent (λ (e : ℕ × Object). (e.0, bare_object s e.1))

  -- the properties after PERMANENT
  abbrev later_elements : (indices sessions objects persistent counters : ℕ) → List Element
  later_elements indices sessions objects persistent counters =
      element 0x201 (startup_attributes r.fixed)
      ∷ element 0x202 indices
      ∷ element 0x203 sessions
      ∷ element 0x204 (session_limit - sessions)
      ∷ element 0x205 sessions
      ∷ element 0x206 (session_limit - sessions)
      ∷ element 0x207 (object_limit - objects)
      ∷ element 0x208 persistent
      ∷ element 0x209 (persistent_limit - persistent)
      ∷ element 0x20a counters
      ∷ last_elements r.fixed.lockout

  later_same : later_elements (index_count (without_secrets s r).nv)
      (session_count (without_secrets s r)) (object_count (without_secrets s r))
      (length (without_secrets s r).persistent) (counter_count (without_secrets s r).nv)
      ≡ later_elements (index_count r.nv) (session_count r) (object_count r) (length r.persistent)
      (counter_count r.nv)
  later_same =
      rw (
        index_count_same,
        ap (λ (es : List Element). length es) sessions_bare,
        ap (λ (es : List Element). length es) objects_bare,
        persistent_count_same,
        counter_count_same,
      ) refl

  -- the list of properties on the device without its secrets, where PERMANENT has this value
  abbrev elements_with : (permanent : ℕ) → List Element
  elements_with permanent =
      fixed_elements ++ element 0x200 permanent ∷ later_elements (index_count r.nv)
      (session_count r) (object_count r) (length r.persistent) (counter_count r.nv)

  bare_elements : complete_elements (without_secrets s r)
      ≡ elements_with (permanent_attributes (bare_fixed s r.fixed))
  unfolding complete_elements count_elements identity_elements limit_elements
  bare_elements = ap (λ (later : List Element). fixed_elements
      ++ element 0x200 (permanent_attributes (bare_fixed s r.fixed)) ∷ later) later_same

  own_elements : complete_elements r ≡ elements_with (permanent_attributes r.fixed)
  unfolding complete_elements count_elements identity_elements limit_elements
  own_elements = refl

  permanent_same : has_secret_auth s ≡ false
      → permanent_attributes (bare_fixed s r.fixed) ≡ permanent_attributes r.fixed
  permanent_same none =
      let (owner, others) = or_parts (s.hierarchy_values auth.Owner) _ none in
      let (endorsement, lockout) = or_parts (s.hierarchy_values auth.Endorsement) _ others in
      rw (owner, endorsement, lockout) refl

  listed_same : (p : CapabilityParameters)
      → (has_secret_auth s && lists_permanent Complete p capability.Properties) ≡ false
      → listing tell.NumberAndValue 6 p.property p.count (complete_elements (without_secrets s r))
      ≡ listing tell.NumberAndValue 6 p.property p.count (complete_elements r)
  listed_same p free =
      let text = listing tell.NumberAndValue 6 p.property p.count in
      let bare : ℕ = permanent_attributes (bare_fixed s r.fixed) in
      ap text bare_elements
      ∙ elim (and_cases (has_secret_auth s) _ free) [
        | inl none ↦ ap (λ (n : ℕ). text (elements_with n)) (permanent_same none)
        | inr apart ↦
            listing_same p.property p.count 0x200 fixed_elements _ tell.NumberAndValue 6 bare
            (permanent_attributes r.fixed) apart
      ]
      ∙ ap text (sym own_elements)

  properties_same : (p : CapabilityParameters) (served : Profile)
      → (has_secret_auth s && lists_permanent served p capability.Properties) ≡ false
      → listing tell.NumberAndValue 6 p.property p.count
      (property_elements served (without_secrets s r))
      ≡ listing tell.NumberAndValue 6 p.property p.count (property_elements served r)
  properties_same p Symmetric free = refl
  properties_same p Complete free = listed_same p free

  -- ---- the row

  told_same : (p : CapabilityParameters) (c : Capability)
      → (has_secret_auth s && lists_permanent r.fixed.profile p c) ≡ false
      → told_of (without_secrets s r) p c ≡ told_of r p c
  told_same p capability.Handles free =
      ap (λ (x : Result (List Element) Refused). x
      >>= λ elements. Ok (listing tell.Value 1 (first_handle_of p.property) p.count elements))
      (handles_same (p.property / 2 ^ 24))
  told_same p capability.Properties free = ap Ok (properties_same p r.fixed.profile free)
  told_same p _ free = refl

  abbrev told_with : Record → CapabilityParameters → Capability → Result Success Refused
  told_with device p c = do
    text ← told_of device p c
    Ok (unchanged_success device (answer_of (Plain text)))

  chosen_tells : (p : CapabilityParameters) (c : Result Capability Refused)
      → (has_secret_auth s && is_true (c >>= λ c. Ok (lists_permanent r.fixed.profile p c))) ≡ false
      → Same s (c >>= told_with (without_secrets s r) p) (c >>= told_with r p)
  chosen_tells p (Ok c) free =
      same_both s (told_of (without_secrets s r) p c) (told_of r p c) _ _ (told_same p c free)
      (λ text. same_unchanged s r _)
  chosen_tells p (Err e) free = record { is = refl }

  asked_tells : (asked : Result CapabilityParameters Refused)
      → (has_secret_auth s && is_true (asked >>= λ p. capability_of r.fixed.profile p.capability
      >>= λ c. Ok (lists_permanent r.fixed.profile p c))) ≡ false
      → Same s (asked >>= λ p. capability_of r.fixed.profile p.capability
      >>= told_with (without_secrets s r) p)
      (asked >>= λ p. capability_of r.fixed.profile p.capability >>= told_with r p)
  asked_tells (Ok p) free = chosen_tells p (capability_of r.fixed.profile p.capability) free
  asked_tells (Err e) free = record { is = refl }

  -- the row reveals nothing, unless it lists PERMANENT while one of the three values is secret
  pub get_capability_tells : (q : Request) → reads_secret s r command.GetCapability q ≡ false
      → Same s (get_capability_row (without_secrets s r) q) (get_capability_row r q)
  unfolding get_capability_row
  get_capability_tells q free = asked_tells (capability_parameters q.parameters) free
