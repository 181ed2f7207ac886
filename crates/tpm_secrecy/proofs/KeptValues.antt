-- If the entity that a command's first handle names has a secret value after the command, it
-- already had one before.
use Rattle.std.proofs.Common.{ap, inl, inr, refl, subst, sym, ◌∙◌}
use Rattle.std.proofs.lemmas.Bool.{cases_eq, eqb-true, false≢true, or_cases}
use Rattle.std.proofs.lemmas.Option.{same_Some}
use Rattle.std.specs.Int.{w64}
use Rattle.std.specs.Option.{option_map_or}
use Rattle.std.specs.Prelude.{Bool, Err, IfOk, List, None, Ok, Option, Result, Some, [], cond, false, is_some, length, nat_lt, option_and_then, option_map, true, ℕ, ◌==◌, ◌||◌, ◌∷◌, ◌≡◌}
use Rattle.tpm_actions_object.specs.Checks.{public_passes}
use Rattle.tpm_actions_object.specs.Load.{load_row, loaded_below, sensitive_of}
use Rattle.tpm_actions_object.specs.Loaded.{is_fixed, loaded_at, parent_passes, place_for}
use Rattle.tpm_bytes.proofs.Fields.{ok_is}
use Rattle.tpm_bytes.specs.Reading.{number_at, or_fault, refused_if, ◌>>=◌}
use Rattle.tpm_commands.specs.CommandCode.{part_of, shape_of}
use Rattle.tpm_commands.specs.Part.{Part}
use Rattle.tpm_commands.specs.Shape.{is_of_kind, rule_without_role, user}
use Rattle.tpm_commands.specs.declared.command_code.CommandCode.{CommandCode}
use Rattle.tpm_commands.specs.declared.shape.HandleRule.{HandleRule}
use Rattle.tpm_containers.proofs.FoundKeys.{changed_shows}
use Rattle.tpm_containers.proofs.SlotLaws.{at_set-other, lowest_free-free}
use Rattle.tpm_containers.specs.Numbered.{at_number, if_of_kind, place_of}
use Rattle.tpm_containers.specs.Slots.{at_place, lowest_free}
use Rattle.tpm_mac.specs.Digest.{digest_size}
use Rattle.tpm_nv.specs.Access.{bits_set, contents_after_extend, contents_after_increment, contents_after_write, index_or_fault, read_locked, with_auth_value, write_locked}
use Rattle.tpm_nv.specs.Head.{head_of, stays}
use Rattle.tpm_nv.specs.Index.{NvContents, NvIndex, changed_index, index_at}
use Rattle.tpm_nv.specs.declared.fault.WriteFault.{WriteFault}
use Rattle.tpm_nvactions.specs.Access.{changed_nv, lock_refusal, reader_passes, write_row, writer_passes, writing_refusal}
use Rattle.tpm_nvactions.specs.NvChangeAuth.{nv_change_auth_row}
use Rattle.tpm_nvactions.specs.NvExtend.{nv_extend_row}
use Rattle.tpm_nvactions.specs.NvIncrement.{nv_increment_row}
use Rattle.tpm_nvactions.specs.NvReadLock.{nv_read_lock_row}
use Rattle.tpm_nvactions.specs.NvSetBits.{nv_set_bits_row}
use Rattle.tpm_nvactions.specs.NvWrite.{nv_write_row}
use Rattle.tpm_nvactions.specs.NvWriteLock.{nv_write_lock_row}
use Rattle.tpm_object.specs.Object.{transient_byte}
use Rattle.tpm_object.specs.declared.object.Object.{Object}
use Rattle.tpm_record.specs.Entity.{AnIndex, AnObject, Permanent, entity_at, index_of, names_kept, object_of}
use Rattle.tpm_record.specs.Objects.{object_at, with_object}
use Rattle.tpm_record.specs.Persistent.{persistent_at}
use Rattle.tpm_record.specs.Record.{Record}
use Rattle.tpm_record.specs.rows.Refusals.{handle_refusal, or_refusal, parameter_refusal}
use Rattle.tpm_record.specs.rows.Request.{Request, first_handle}
use Rattle.tpm_record.specs.rows.Rows.{Success, all_read, only}
use Rattle.tpm_record.specs.rows.Target.{index_or_refusal, target_of}
use Rattle.tpm_step.proofs.rows.Binding.{ok_bind, ok_bind_is, some_is}
use Rattle.tpm_step.proofs.rows.HandleRules.{first_fits}
use Rattle.tpm_step.proofs.rows.Table.{of_success, row_touches}
use Rattle.tpm_step.specs.step.Table.{row_of}
use Rattle.tpm_step.specs.history.Tries.{touched_protection}
use Rattle.tpm_step.specs.rows.Footprint.{Touches}
use Rattle.tpm_step.specs.rows.Handles.{HandlesFit}
use Rattle.tpm_types_common.specs.AuthValue.{auth_value_at}
use Rattle.tpm_types_common.specs.Buffer.{buffer_at}
use Rattle.tpm_types_common.specs.Handle.{endorsement_handle, hierarchy_auth_of, is_nv_index, is_persistent, is_transient, lockout_handle, null_handle, owner_handle, platform_handle}
use Rattle.tpm_types_common.specs.Limits.{data_limit}
use Rattle.tpm_types_common.specs.Rc.{plain}
use Rattle.tpm_types_common.specs.declared.handle.Handle.{Handle}
use Rattle.tpm_types_common.specs.declared.refused.Refused.{Refused}
use Rattle.tpm_row_secrecy.specs.Secrecy.{Secrecy, entity_has_secret_value, has_secret_value}
use Rattle.tpm_secrecy.proofs.Authorizing.{neither}
use Rattle.tpm_commands.specs.declared.command_code.CommandCode.TheVariants as command
use Rattle.tpm_commands.specs.declared.shape.HandleKind.TheVariants as handle_kind
use Rattle.tpm_commands.specs.Part as part
use Rattle.tpm_types_common.specs.declared.action_check.ActionCheck.TheVariants as action
use Rattle.tpm_types_common.specs.declared.rc.ResponseCode.TheVariants as code
use Rattle.tpm_nvactions.specs.NvWrite as writing
use Rattle.tpm_actions_object.specs.Load as loading
use Rattle.tpm_types_common.specs.declared.handle.HierarchyHandle.TheVariants as hierarchy

-- ---- indices keep their handles

abbrev number_in : NvIndex → ℕ
number_in i = i.public.nv_index.number

-- Each handle has an index if and only if it had an index before, with the same number in its
-- public area.
abbrev KeepsNumbers : NvContents → NvContents → Type 0
KeepsNumbers old new = (h : Handle) → option_map number_in (index_at new h)
    ≡ option_map number_in (index_at old h)

changed_numbers : {F : Type 0} (n : NvContents) (h : Handle) (fault : F) (old new : NvIndex)
    → index_or_fault n h fault ≡ Ok old → new.public.nv_index ≡ old.public.nv_index
    → KeepsNumbers n (changed_index n h new)
changed_numbers n h fault old new is same other =
    changed_shows number_in n.indices h.number old new (some_is _ _ old is)
    (ap (λ (x : Handle). x.number) same) other.number

module _ (n : NvContents) (h : Handle) where
  written_numbers : (offset : ℕ) (bytes : List ℕ)
      → IfOk (contents_after_write n h offset bytes) (KeepsNumbers n)
  unfolding contents_after_write
  written_numbers offset bytes = search (ok_bind_is, changed_numbers)

  bits_numbers : (bits : ℕ) → IfOk (bits_set n h bits) (KeepsNumbers n)
  unfolding bits_set
  bits_numbers bits = search (ok_bind_is, changed_numbers)

  extended_numbers : (bytes : List ℕ) → IfOk (contents_after_extend n h bytes) (KeepsNumbers n)
  unfolding contents_after_extend
  extended_numbers bytes = search (ok_bind_is, changed_numbers)

  incremented_numbers : IfOk (contents_after_increment n h) (KeepsNumbers n)
  unfolding contents_after_increment
  incremented_numbers = search (ok_bind_is, changed_numbers)

  write_locked_numbers : IfOk (write_locked n h) (KeepsNumbers n)
  unfolding write_locked
  write_locked_numbers = search (ok_bind_is, changed_numbers)

  read_locked_numbers : IfOk (read_locked n h) (KeepsNumbers n)
  unfolding read_locked
  read_locked_numbers = search (ok_bind_is, changed_numbers)

  auth_numbers : (value : List ℕ) → IfOk (with_auth_value n h value) (KeepsNumbers n)
  unfolding with_auth_value
  auth_numbers value = search (ok_bind_is, changed_numbers)

module _ (r : Record) (q : Request) where
  abbrev Numbered : Success → Type 0
  Numbered x = KeepsNumbers r.nv x.after.nv

  changed_nv_numbers : {F : Type 0} (refusal : F → Refused) (x : Result NvContents F)
      → IfOk x (KeepsNumbers r.nv)
      → IfOk (or_refusal refusal x >>= λ nv. Ok (changed_nv r nv)) Numbered
  changed_nv_numbers refusal (Ok nv) keeps = keeps
  changed_nv_numbers refusal (Err e) keeps = tt

  write_row_numbers : {P : Type 0} (read : Result P Refused)
      (change : P → Handle → Result NvContents WriteFault)
      → ((p : P) (h : Handle) → IfOk (change p h) (KeepsNumbers r.nv))
      → IfOk (write_row r q read change) Numbered
  write_row_numbers read change keeps =
      ok_bind _ (target_of r q) _ (λ target.
      ok_bind _ read _ (λ p.
      ok_bind _ (writer_passes target) _ (λ a1.
      changed_nv_numbers writing_refusal (change p target.handle) (keeps p target.handle))))

  nv_write_numbers : IfOk (nv_write_row r q) Numbered
  unfolding nv_write_row
  nv_write_numbers = write_row_numbers (writing.parameters_in q.parameters) _
      (λ p h. written_numbers r.nv h p.offset p.bytes)

  nv_set_bits_numbers : IfOk (nv_set_bits_row r q) Numbered
  unfolding nv_set_bits_row
  nv_set_bits_numbers =
      write_row_numbers (only (or_fault (number_at w64 q.parameters) (plain code.Insufficient))) _
      (λ bits h. bits_numbers r.nv h bits)

  nv_extend_numbers : IfOk (nv_extend_row r q) Numbered
  unfolding nv_extend_row
  nv_extend_numbers = write_row_numbers (only (buffer_at data_limit q.parameters)) _
      (λ bytes h. extended_numbers r.nv h bytes)

  nv_increment_numbers : IfOk (nv_increment_row r q) Numbered
  unfolding nv_increment_row
  nv_increment_numbers =
      write_row_numbers (all_read q.parameters) _ (λ ended h. incremented_numbers r.nv h)

  nv_write_lock_numbers : IfOk (nv_write_lock_row r q) Numbered
  unfolding nv_write_lock_row
  nv_write_lock_numbers =
      ok_bind _ (target_of r q) _ (λ target.
      ok_bind _ (all_read q.parameters) _ (λ ended.
      ok_bind _ (writer_passes target) _ (λ a1.
      changed_nv_numbers lock_refusal (write_locked r.nv target.handle)
      (write_locked_numbers r.nv target.handle))))

  nv_read_lock_numbers : IfOk (nv_read_lock_row r q) Numbered
  unfolding nv_read_lock_row
  nv_read_lock_numbers =
      ok_bind _ (target_of r q) _ (λ target.
      ok_bind _ (all_read q.parameters) _ (λ ended.
      ok_bind _ (reader_passes target) _ (λ a1.
      changed_nv_numbers lock_refusal (read_locked r.nv target.handle)
      (read_locked_numbers r.nv target.handle))))

  nv_change_auth_numbers : IfOk (nv_change_auth_row r q) Numbered
  unfolding nv_change_auth_row
  nv_change_auth_numbers =
      ok_bind _ (first_handle q.handles) _ (λ handle.
      ok_bind _ (index_or_refusal r handle) _ (λ i.
      ok_bind _ (only (auth_value_at q.parameters)) _ (λ value.
      ok_bind _ (refused_if (nat_lt (digest_size i.public.name_alg) (length value))
      (parameter_refusal action.First 1 code.Size)) _ (λ a1.
      changed_nv_numbers (λ absence. handle_refusal) (with_auth_value r.nv handle value)
      (auth_numbers r.nv handle value)))))

-- ---- the handles of hierarchies and of lockout

no_object : (xs : List (Option Object)) (h : Handle) → is_transient h ≡ false
    → object_at xs h ≡ None
unfolding object_at at_number
no_object xs h other = by (at_place xs (place_of h.number))
  where
    by : (found : Option Object) → option_and_then (if_of_kind transient_byte h.number) found ≡ None
    by None = refl
    by (Some o) = ap (λ (b : Bool). cond b (Some o) None) other

number_kept_not : (h : Handle) (n : ℕ) → (h.number == n) ≡ true
    → names_kept h ≡ names_kept (record { number = n })
number_kept_not h n is = ap (λ (number : ℕ). names_kept (record { number = number }))
    (eqb-true h.number n is)

provision_permanent : (h : Handle) → is_of_kind handle_kind.Provision h ≡ true
    → names_kept h ≡ false
provision_permanent h is =
    elim (or_cases (h.number == owner_handle.number) (h.number == platform_handle.number) is) [
      | inl one ↦ number_kept_not h owner_handle.number one
      | inr other ↦ number_kept_not h platform_handle.number other
    ]

clear_permanent : (h : Handle) → is_of_kind handle_kind.Clear h ≡ true → names_kept h ≡ false
clear_permanent h is =
    elim (or_cases (h.number == lockout_handle.number) (h.number == platform_handle.number) is) [
      | inl one ↦ number_kept_not h lockout_handle.number one
      | inr other ↦ number_kept_not h platform_handle.number other
    ]

hierarchy_permanent : (h : Handle) → is_of_kind handle_kind.Hierarchy h ≡ true
    → names_kept h ≡ false
hierarchy_permanent h is =
    by (h.number == owner_handle.number) (h.number == endorsement_handle.number)
    (h.number == platform_handle.number) (h.number == null_handle.number) refl refl refl refl is
  where
    by : (a b c d : Bool) → (h.number == owner_handle.number) ≡ a
        → (h.number == endorsement_handle.number) ≡ b → (h.number == platform_handle.number) ≡ c
        → (h.number == null_handle.number) ≡ d
        → is_some
        (cond a (Some hierarchy.Owner)
        (cond b (Some hierarchy.Endorsement)
        (cond c (Some hierarchy.Platform) (cond d (Some hierarchy.Null) None)))) ≡ true
        → names_kept h ≡ false
    by true b c d owner other third fourth is = number_kept_not h owner_handle.number owner
    by false true c d owner other third fourth is =
        number_kept_not h endorsement_handle.number other
    by false false true d owner other third fourth is =
        number_kept_not h platform_handle.number third
    by false false false true owner other third fourth is =
        number_kept_not h null_handle.number fourth
    by false false false false owner other third fourth is = absurd (false≢true is)

-- ---- the parts of a record that contain entities

abbrev is_apart : Part → Bool
is_apart part.Nothing = true
is_apart part.Sessions = true
is_apart part.AuthValues = true
is_apart part.Lockout = true
is_apart part.Banks = true
is_apart part.Saved = true
is_apart part.DisableClear = true
is_apart part.Clock = true
is_apart _ = false

module _ (s : Secrecy) where
  -- An entity that had no secret value before still has no secret value.
  abbrev pub StaysOpen : Record → Record → Handle → Type 0
  StaysOpen old new h = has_secret_value s old h ≡ false → has_secret_value s new h ≡ false

  apart_same : (p : Part) (old new : Record) → is_apart p ≡ true → Touches p old new → (h : Handle)
      → has_secret_value s new h ≡ has_secret_value s old h
  unfolding entity_at object_of
  apart_same part.Nothing old new is touches h = ap (λ (r : Record). has_secret_value s r h) touches
  apart_same part.Sessions old new is touches h =
      ap (λ (r : Record). has_secret_value s r h) touches
  apart_same part.AuthValues old new is touches h =
      ap (λ (r : Record). has_secret_value s r h) touches.0
  apart_same part.Lockout old new is touches h = ap (λ (r : Record). has_secret_value s r h) touches
  apart_same part.Banks old new is touches h = ap (λ (r : Record). has_secret_value s r h) touches
  apart_same part.Saved old new is touches h = ap (λ (r : Record). has_secret_value s r h) touches
  apart_same part.DisableClear old new is touches h =
      ap (λ (r : Record). has_secret_value s r h) touches
  apart_same part.Clock old new is touches h = ap (λ (r : Record). has_secret_value s r h) touches
  apart_same _ old new is touches h = absurd (false≢true is)

  index_secret : (h : Handle) (one other : Option NvIndex)
      → option_map number_in one ≡ option_map number_in other
      → entity_has_secret_value s h (option_map_or AnIndex (option_map head_of one) Permanent)
      ≡ entity_has_secret_value s h (option_map_or AnIndex (option_map head_of other) Permanent)
  index_secret h None None same = refl
  index_secret h None (Some j) same = absurd cc
  index_secret h (Some i) None same = absurd cc
  index_secret h (Some i) (Some j) same =
      ap s.index_values (same_Some (number_in i) (number_in j) same)

  numbers_same : (r : Record) (nv : NvContents) → KeepsNumbers r.nv nv → (h : Handle)
      → has_secret_value s (record r { nv = nv }) h ≡ has_secret_value s r h
  unfolding entity_at object_of
  numbers_same r nv keeps h = by (is_nv_index h)
    where
      by : (b : Bool) → entity_has_secret_value s h
          (cond b (option_map_or AnIndex (option_map head_of (index_at nv h)) Permanent)
          (option_map_or AnObject (object_of r h) Permanent))
          ≡ entity_has_secret_value s h
          (cond b (option_map_or AnIndex (option_map head_of (index_at r.nv h)) Permanent)
          (option_map_or AnObject (object_of r h) Permanent))
      by true = index_secret h (index_at nv h) (index_at r.nv h) (keeps h)
      by false = refl

  permanent_value : (t : Record) (h : Handle) → names_kept h ≡ false
      → has_secret_value s t h ≡ option_map_or s.hierarchy_values (hierarchy_auth_of h) false
  unfolding entity_at object_of
  permanent_value t h kept =
      let last = neither (is_nv_index h || is_transient h) (is_persistent h) kept in
      let first = neither (is_nv_index h) (is_transient h) last.0 in
      ap (λ (b : Bool). entity_has_secret_value s h
      (cond b (option_map_or AnIndex (index_of t h) Permanent)
      (option_map_or AnObject (object_of t h) Permanent))) first.0
      ∙ ap (λ (b : Bool). entity_has_secret_value s h
      (option_map_or AnObject (cond b (persistent_at t.persistent h) (object_at t.objects h))
      Permanent)) last.1
      ∙ ap (λ (found : Option Object). entity_has_secret_value s h
      (option_map_or AnObject found Permanent)) (no_object t.objects h first.1)

  permanent_stays : (old new : Record) (h : Handle) → names_kept h ≡ false → StaysOpen old new h
  permanent_stays old new h kept shown = permanent_value new h kept
      ∙ sym (permanent_value old h kept) ∙ shown

  -- a new object in a free slot replaces no existing object
  placed_same : (r : Record) (n : ℕ) (new o : Object) (h : Handle) → object_of r h ≡ Some o
      → lowest_free r.objects ≡ Some n
      → object_of (record r { objects = with_object r.objects n new }) h ≡ object_of r h
  unfolding object_of object_at at_number
  placed_same r n new o h found free = by (is_persistent h) found
    where
      seen : Option Object → Option Object
      seen place = option_and_then (if_of_kind transient_byte h.number) place

      never : (let none : Option Object = None in none ≡ Some o) → ⊥
      never is = absurd cc

      by : (b : Bool) → cond b (persistent_at r.persistent h)
          (seen (at_place r.objects (place_of h.number))) ≡ Some o
          → cond b (persistent_at r.persistent h)
          (seen (at_place (with_object r.objects n new) (place_of h.number)))
          ≡ cond b (persistent_at r.persistent h) (seen (at_place r.objects (place_of h.number)))
      by true found = refl
      by false found =
          elim (cases_eq (place_of h.number) n) [
            | inl here ↦ absurd
                (never
                (sym
                (ap seen (ap (at_place r.objects) here ∙ (lowest_free-free r.objects n free).1))
                ∙ found))
            | inr apart ↦ ap seen (at_set-other r.objects n (place_of h.number) (Some new) apart)
          ]

  placed_stays : (r : Record) (n : ℕ) (new o : Object) (h : Handle) → object_of r h ≡ Some o
      → lowest_free r.objects ≡ Some n
      → StaysOpen r (record r { objects = with_object r.objects n new }) h
  unfolding entity_at
  placed_stays r n new o h found free shown =
      ap (λ (x : Option Object). entity_has_secret_value s h
      (cond (is_nv_index h) (option_map_or AnIndex (index_of r h) Permanent)
      (option_map_or AnObject x Permanent))) (placed_same r n new o h found free) ∙ shown

  -- ---- all commands

  -- If the entity that a command's first handle names had no secret value before, it still has no
  -- secret value after the command has succeeded.
  abbrev pub FirstStays : Record → Request → Success → Type 0
  FirstStays r q x = (h : Handle) → first_handle q.handles ≡ Ok h → StaysOpen r x.after h

  load_stays : (r : Record) (q : Request) → IfOk (load_row r q) (FirstStays r q)
  unfolding load_row
  load_stays r q =
      ok_bind_is _ (first_handle q.handles) _ (λ handle named.
      ok_bind_is _ (loaded_at r handle) _ (λ o found.
      ok_bind _ (loading.parameters_in q.parameters) _ (λ p.
      ok_bind _ (parent_passes o) _ (λ a1.
      ok_bind _ (public_passes 1 (is_fixed o) p.public) _ (λ t.
      ok_bind _ (sensitive_of o p.public p.private) _ (λ sensitive.
      ok_bind_is _ (place_for action.Sixth r) _ (λ n free. λ h first.
      let same : handle ≡ h = ok_is {E = Refused} handle h (sym named ∙ first) in
      subst (StaysOpen r
      (record r { objects = with_object r.objects n (loaded_below o p.public sensitive) }))
      same
      (placed_stays r n (loaded_below o p.public sensitive) o handle (some_is _ _ o found)
      (some_is _ _ n free)))))))))

  numbers_stay : (r : Record) (c : CommandCode) (q : Request)
      → ((old new : Record) → Touches (part_of c) old new → new ≡ record old { nv = new.nv })
      → IfOk (row_of r c q) (Numbered r q) → IfOk (row_of r c q) (FirstStays r q)
  numbers_stay r c q touched keeps =
      both (row_of r c q) keeps (row_touches r c q)
    where
      both : (x : Result Success Refused) → IfOk x (Numbered r q)
          → IfOk x (λ y. Touches (part_of c) r y.after) → IfOk x (FirstStays r q)
      both (Ok y) numbers touches = λ h first shown.
          ap (λ (t : Record). has_secret_value s t h) (touched r y.after touches)
          ∙ numbers_same r y.after.nv numbers h ∙ shown
      both (Err e) numbers touches = tt

  any_success : (r : Record) (q : Request) (x : Result Success Refused)
      → ((y : Success) → FirstStays r q y) → IfOk x (FirstStays r q)
  any_success r q (Ok y) stays = stays y
  any_success r q (Err e) stays = tt

  no_handles : (r : Record) (hs : List Handle) (h : Handle) → HandlesFit r [] hs
      → first_handle hs ≡ Ok h → ⊥
  no_handles r [] h fits first = absurd cc
  no_handles r (k ∷ ks) h fits first = fits

  others_stay : (r : Record) (c : CommandCode) (q : Request) → is_apart (part_of c) ≡ true
      → IfOk (row_of r c q) (FirstStays r q)
  others_stay r c q apart =
      of_success _ r c q
      (λ x laws h first shown. apart_same (part_of c) r x.after apart laws.touches h ∙ shown)

  provision_stays : (c : CommandCode) (r : Record) (q : Request) (rules : List HandleRule)
      → HandlesFit r (user handle_kind.Provision ∷ rules) q.handles
      → IfOk (row_of r c q) (FirstStays r q)
  provision_stays c r q rules fits =
      any_success r q (row_of r c q)
      (λ y h first. permanent_stays r y.after h
      (provision_permanent h
      (first_fits r (user handle_kind.Provision) rules q.handles h fits first).0))

  evict_stays : (r : Record) (q : Request)
      → HandlesFit r (shape_of command.EvictControl).handles q.handles
      → IfOk (row_of r command.EvictControl q) (FirstStays r q)
  unfolding shape_of
  evict_stays r q fits =
      provision_stays command.EvictControl r q (rule_without_role handle_kind.Object ∷ []) fits

  undefine_stays : (r : Record) (q : Request)
      → HandlesFit r (shape_of command.NvUndefineSpace).handles q.handles
      → IfOk (row_of r command.NvUndefineSpace q) (FirstStays r q)
  unfolding shape_of
  undefine_stays r q fits =
      provision_stays command.NvUndefineSpace r q (rule_without_role handle_kind.NvIndex ∷ []) fits

  define_stays : (r : Record) (q : Request)
      → HandlesFit r (shape_of command.NvDefineSpace).handles q.handles
      → IfOk (row_of r command.NvDefineSpace q) (FirstStays r q)
  unfolding shape_of
  define_stays r q fits = provision_stays command.NvDefineSpace r q [] fits

  clear_stays : (r : Record) (q : Request) → HandlesFit r (shape_of command.Clear).handles q.handles
      → IfOk (row_of r command.Clear q) (FirstStays r q)
  unfolding shape_of
  clear_stays r q fits =
      any_success r q (row_of r command.Clear q)
      (λ y h first. permanent_stays r y.after h
      (clear_permanent h (first_fits r (user handle_kind.Clear) [] q.handles h fits first).0))

  primary_stays : (r : Record) (q : Request)
      → HandlesFit r (shape_of command.CreatePrimary).handles q.handles
      → IfOk (row_of r command.CreatePrimary q) (FirstStays r q)
  unfolding shape_of
  primary_stays r q fits =
      any_success r q (row_of r command.CreatePrimary q)
      (λ y h first. permanent_stays r y.after h
      (hierarchy_permanent h
      (first_fits r (user handle_kind.Hierarchy) [] q.handles h fits first).0))

  none_first : (c : CommandCode) (r : Record) (q : Request) → (shape_of c).handles ≡ []
      → HandlesFit r (shape_of c).handles q.handles → IfOk (row_of r c q) (FirstStays r q)
  none_first c r q none fits =
      any_success r q (row_of r c q)
      (λ y h first. absurd
      (no_handles r q.handles h
      (subst (λ (rules : List HandleRule). HandlesFit r rules q.handles) none fits) first))

  startup_none : (shape_of command.Startup).handles ≡ []
  unfolding shape_of
  startup_none = refl

  flush_none : (shape_of command.FlushContext).handles ≡ []
  unfolding shape_of
  flush_none = refl

  abbrev keeps_nv : Part → Bool
  keeps_nv part.NvData = true
  keeps_nv part.NvCounter = true
  keeps_nv part.NvAuthValue = true
  keeps_nv _ = false

  nv_stays : (c : CommandCode) (r : Record) (q : Request) → keeps_nv (part_of c) ≡ true
      → IfOk (row_of r c q) (FirstStays r q)
  unfolding row_of
  nv_stays command.NvSetBits r q is =
      numbers_stay r command.NvSetBits q (λ old new touches. touches) (nv_set_bits_numbers r q)
  nv_stays command.NvExtend r q is =
      numbers_stay r command.NvExtend q (λ old new touches. touches) (nv_extend_numbers r q)
  nv_stays command.NvWrite r q is =
      numbers_stay r command.NvWrite q (λ old new touches. touches) (nv_write_numbers r q)
  nv_stays command.NvWriteLock r q is =
      numbers_stay r command.NvWriteLock q (λ old new touches. touches) (nv_write_lock_numbers r q)
  nv_stays command.NvReadLock r q is =
      numbers_stay r command.NvReadLock q (λ old new touches. touches) (nv_read_lock_numbers r q)
  nv_stays command.NvIncrement r q is =
      numbers_stay r command.NvIncrement q (λ old new touches. touches) (nv_increment_numbers r q)
  nv_stays command.NvChangeAuth r q is =
      numbers_stay r command.NvChangeAuth q (λ old new touches. touches)
      (nv_change_auth_numbers r q)
  nv_stays _ r q is = absurd (false≢true is)

  load_row_stays : (r : Record) (q : Request) → IfOk (row_of r command.Load q) (FirstStays r q)
  unfolding row_of
  load_row_stays r q = load_stays r q

  pub first_stays : (c : CommandCode) (r : Record) (q : Request)
      → HandlesFit r (shape_of c).handles q.handles → IfOk (row_of r c q) (FirstStays r q)
  first_stays command.EvictControl r q fits = evict_stays r q fits
  first_stays command.NvUndefineSpace r q fits = undefine_stays r q fits
  first_stays command.NvDefineSpace r q fits = define_stays r q fits
  first_stays command.Clear r q fits = clear_stays r q fits
  first_stays command.CreatePrimary r q fits = primary_stays r q fits
  first_stays command.Load r q fits = load_row_stays r q
  first_stays command.Startup r q fits = none_first command.Startup r q startup_none fits
  first_stays command.FlushContext r q fits = none_first command.FlushContext r q flush_none fits
  first_stays command.NvSetBits r q fits = nv_stays command.NvSetBits r q refl
  first_stays command.NvExtend r q fits = nv_stays command.NvExtend r q refl
  first_stays command.NvWrite r q fits = nv_stays command.NvWrite r q refl
  first_stays command.NvWriteLock r q fits = nv_stays command.NvWriteLock r q refl
  first_stays command.NvReadLock r q fits = nv_stays command.NvReadLock r q refl
  first_stays command.NvIncrement r q fits = nv_stays command.NvIncrement r q refl
  first_stays command.NvChangeAuth r q fits = nv_stays command.NvChangeAuth r q refl
  first_stays _ r q fits = others_stay r _ q refl
