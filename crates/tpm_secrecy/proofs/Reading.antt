-- A command that reads the sealed data or the key of an object is an accepted TPM2_Unseal or
-- TPM2_HMAC with that object.
use Rattle.tpm_types_object.specs.ObjectAttributes.{has}
use Rattle.std.proofs.Common.{ap, inl, inr, refl, sym, ◌∙◌}
use Rattle.std.proofs.lemmas.Bool.{and_parts, eqb-true, false≢true, or_cases}
use Rattle.std.specs.Option.{option_map_or}
use Rattle.std.specs.Prelude.{Bool, Err, IfOk, List, None, Ok, Option, Result, Some, [], cond, false, if◌then◌else◌, is_ok, map, not, ok_or, slice_get, take, true, ℕ, ◌&&◌, ◌==◌, ◌||◌, ◌∷◌, ◌≡◌}
use Rattle.tpm_actions_object.specs.Hmac.{chosen_hash, hmac_row, scheme_of}
use Rattle.tpm_actions_object.specs.Unseal.{unseal_row}
use Rattle.tpm_bytes.proofs.Fields.{ok_is, passed}
use Rattle.tpm_bytes.specs.Reading.{refused_if}
use Rattle.tpm_commands.specs.CommandCode.{authorized_handles, shape_of}
use Rattle.tpm_commands.specs.Shape.{is_of_kind, user}
use Rattle.tpm_commands.specs.declared.command_code.CommandCode.{CommandCode}
use Rattle.tpm_nv.specs.Index.{NvIndex, index_at}
use Rattle.tpm_nvactions.specs.NvRead.{nv_read_row}
use Rattle.tpm_object.specs.Object.{is_keyed_hash}
use Rattle.tpm_object.specs.declared.object.Object.{Object}
use Rattle.tpm_record.specs.Entity.{AnIndex, AnObject, Permanent, entity_at, index_of, object_of}
use Rattle.tpm_record.specs.Record.{Record}
use Rattle.tpm_record.specs.rows.Refusals.{action_refusal}
use Rattle.tpm_record.specs.rows.Request.{Request, first_handle, second_handle, third_handle}
use Rattle.tpm_record.specs.rows.Rows.{Success, all_read}
use Rattle.tpm_step.proofs.rows.Binding.{asked, ok_at, ok_bind, ok_bind_is}
use Rattle.tpm_step.proofs.rows.HandleRules.{first_fits}
use Rattle.tpm_step.specs.step.Table.{row_of}
use Rattle.tpm_step.specs.history.View.{OfObject, entity_view, view_of}
use Rattle.tpm_step.specs.rows.Handles.{HandlesFit}
use Rattle.tpm_types_common.specs.Handle.{handle_type}
use Rattle.tpm_types_common.specs.Rc.{at, plain}
use Rattle.tpm_types_common.specs.declared.handle.Handle.{Handle}
use Rattle.tpm_types_common.specs.declared.refused.Refused.{Refused}
use Rattle.tpm_types_object.specs.declared.public.Public.{Public}
use Rattle.tpm_row_secrecy.specs.Reads.{handle_passes, is_secret_counter, is_secret_index, names_index, names_policy_session, names_secret_object, reads_secret}
use Rattle.tpm_row_secrecy.specs.Secrecy.{Secrecy, has_secret_data}
use Rattle.tpm_secrecy.specs.SealedData.{sealed_secrecy}
use Rattle.tpm_commands.specs.declared.command_code.CommandCode.TheVariants as command
use Rattle.tpm_commands.specs.declared.shape.HandleKind.TheVariants as handle_kind
use Rattle.tpm_types_common.specs.declared.action_check.ActionCheck.TheVariants as action
use Rattle.tpm_types_common.specs.declared.rc.Place.TheVariants as place
use Rattle.tpm_types_common.specs.declared.rc.ResponseCode.TheVariants as code
use Rattle.tpm_types_object.specs.declared.object_attributes.ObjectAttribute.TheVariants as attribute
use Rattle.tpm_actions_object.specs.Hmac as keyed

abbrev pub reading_code : Public → CommandCode
reading_code public = if has public.attributes attribute.Sign then command.Hmac else command.Unseal

-- The row of a command with this code succeeds on this request, and reads the secret data of one of
-- these objects.
pub record ReadsObject (objects : Public → Bool) (r : Record) (code : CommandCode)
    (q : Request) : Type 0 where
  pub handle : Handle
  pub first : first_handle q.handles ≡ Ok handle
  pub object : Object
  pub found : object_of r handle ≡ Some object
  pub keyed_hash : is_keyed_hash object.public ≡ true
  pub secret : objects object.public ≡ true
  pub success : Success
  pub succeeds : row_of r code q ≡ Ok success
  pub code_is : code ≡ reading_code object.public

-- ---- the checks that a successful row has passed

unseal_unsigned : (r : Record) (q : Request) (handle : Handle) (o : Object)
    → first_handle q.handles ≡ Ok handle → object_of r handle ≡ Some o
    → IfOk (unseal_row r q) (λ x. has o.public.attributes attribute.Sign ≡ false)
unfolding unseal_row
unseal_unsigned r q handle o first found =
    rw (first, found)
    (ok_bind _ (all_read q.parameters) _ (λ ended.
    ok_bind _ (refused_if (not (is_keyed_hash o.public))
    (action_refusal action.First (at (place.Handle 1) (plain code.Type)))) _ (λ a1.
    ok_bind_is _ (refused_if (has o.public.attributes attribute.Sign)
    (action_refusal action.Second (at (place.Handle 1) (plain code.Attributes)))) _ (λ a2 is.
    passed _ _ a2 is))))

hmac_signs : (r : Record) (q : Request) (handle : Handle) (o : Object)
    → first_handle q.handles ≡ Ok handle → object_of r handle ≡ Some o
    → IfOk (hmac_row r q) (λ x. has o.public.attributes attribute.Sign ≡ true)
unfolding hmac_row
hmac_signs r q handle o first found =
    rw (first, found)
    (ok_bind _ (keyed.parameters_in q.parameters) _ (λ p.
    ok_bind _ (scheme_of o.public.parameters) _ (λ scheme.
    ok_bind _ (refused_if (has o.public.attributes attribute.Restricted)
    (action_refusal action.Second (at (place.Handle 1) (plain code.Attributes)))) _ (λ a2.
    ok_bind_is _ (refused_if (not (has o.public.attributes attribute.Sign))
    (action_refusal action.Third (at (place.Handle 1) (plain code.Key)))) _ (λ a3 is.
    ok_bind _ (ok_or (chosen_hash scheme p.hash)
    (action_refusal action.Fourth (at (place.Parameter 2) (plain code.Value)))) _ (λ hash.
    asked _ _ a3 is))))))

-- ---- commands that read sealed data

has_success : (x : Result Success Refused) → is_ok x ≡ true → (y : Success) × (x ≡ Ok y)
has_success (Ok y) is = (y, refl)
has_success (Err e) is = absurd (false≢true is)

passing_handle : (test : Handle → Bool) (x : Result Handle Refused) → handle_passes test x ≡ true
    → (h : Handle) × (x ≡ Ok h) × (test h ≡ true)
passing_handle test (Ok h) is = (h, refl, is)
passing_handle test (Err e) is = absurd (false≢true is)

found_object : (test : Object → Bool) (found : Option Object)
    → option_map_or test found false ≡ true → (o : Object) × (found ≡ Some o) × (test o ≡ true)
found_object test (Some o) is = (o, refl, is)
found_object test None is = absurd (false≢true is)

module _ (objects : Public → Bool) (r : Record) (q : Request) where
  abbrev s : Secrecy
  s = sealed_secrecy objects

  of_object : (c : CommandCode) (row : Result Success Refused) → row_of r c q ≡ row
      → (handle_passes (names_secret_object s r) (first_handle q.handles) && is_ok row) ≡ true
      → ((handle : Handle) (o : Object) → first_handle q.handles ≡ Ok handle
      → object_of r handle ≡ Some o → IfOk row (λ x. c ≡ reading_code o.public))
      → ReadsObject objects r c q
  of_object c row same is so =
      let parts = and_parts (handle_passes (names_secret_object s r) (first_handle q.handles))
      (is_ok row) is in
      let (handle, first, named) =
      passing_handle (names_secret_object s r) (first_handle q.handles) parts.0 in
      let (o, found, secret) = found_object (has_secret_data s) (object_of r handle) named in
      let (success, succeeds) = has_success row parts.1 in
      let both = and_parts (is_keyed_hash o.public) (objects o.public) secret in
      record {
        handle = handle;
        first = first;
        object = o;
        found = found;
        keyed_hash = both.0;
        secret = both.1;
        success = success;
        succeeds = same ∙ succeeds;
        code_is = ok_at (λ x. c ≡ reading_code o.public) row success (so handle o first found)
            succeeds;
      }

  no_index : (x : Result Handle Refused) → handle_passes (names_index (is_secret_index s) r) x
      ≡ true → ⊥
  no_index (Ok h) is = by (index_at r.nv h) is
    where
      by : (found : Option NvIndex) → option_map_or (is_secret_index s) found false ≡ true → ⊥
      by None is = false≢true is
      by (Some i) is = false≢true is
  no_index (Err e) is = false≢true is

  no_counter : (x : Result Handle Refused) → handle_passes (names_index (is_secret_counter s) r) x
      ≡ true → ⊥
  no_counter (Ok h) is = by (index_at r.nv h) is
    where
      by : (found : Option NvIndex) → option_map_or (is_secret_counter s) found false ≡ true → ⊥
      by None is = false≢true is
      by (Some i) is = false≢true is
  no_counter (Err e) is = false≢true is

  signs_code : (x : Result Success Refused) (o : Object) (b : Bool)
      → IfOk x (λ y. has o.public.attributes attribute.Sign ≡ b)
      → IfOk x (λ y. (if b then command.Hmac else command.Unseal) ≡ reading_code o.public)
  signs_code (Ok y) o b is = ap (λ (sign : Bool). if sign then command.Hmac else command.Unseal)
      (sym is)
  signs_code (Err e) o b is = tt

  pub reads_object : (c : CommandCode) → reads_secret s r c q ≡ true → ReadsObject objects r c q
  unfolding row_of
  reads_object command.Unseal is =
      of_object command.Unseal (unseal_row r q) refl is
      (λ handle o first found. signs_code (unseal_row r q) o false
      (unseal_unsigned r q handle o first found))
  reads_object command.Hmac is =
      of_object command.Hmac (hmac_row r q) refl is
      (λ handle o first found. signs_code (hmac_row r q) o true
      (hmac_signs r q handle o first found))
  reads_object command.NvRead is =
      absurd (no_index (second_handle q.handles)
      (and_parts (handle_passes (names_index (is_secret_index s) r) (second_handle q.handles))
      (is_ok (nv_read_row r q)) is).0)
  reads_object command.PolicyNv is =
      absurd (no_index (second_handle q.handles)
      (and_parts (handle_passes (names_index (is_secret_index s) r) (second_handle q.handles))
      (handle_passes (names_policy_session r) (third_handle q.handles)) is).0)
  reads_object command.NvIncrement is = absurd (no_counter (second_handle q.handles) is)
  reads_object _ is = absurd (false≢true is)

-- ---- the public area of the object

not_of_index : (t : ℕ) → (t == 0x80 || t == 0x81) ≡ true → (t == 0x01) ≡ false
not_of_index t kind =
    elim (or_cases (t == 0x80) (t == 0x81) kind) [
      | inl is ↦ ap (λ (n : ℕ). n == 0x01) (eqb-true t 0x80 is)
      | inr is ↦ ap (λ (n : ℕ). n == 0x01) (eqb-true t 0x81 is)
    ]

pub object_entity : (r : Record) (handle : Handle) (o : Object)
    → is_of_kind handle_kind.Object handle ≡ true → object_of r handle ≡ Some o
    → entity_at r handle ≡ AnObject o
unfolding entity_at
object_entity r handle o kind found =
    ap (λ (b : Bool). cond b (option_map_or AnIndex (index_of r handle) Permanent)
    (option_map_or AnObject (object_of r handle) Permanent))
    (not_of_index (handle_type handle) kind)
    ∙ ap (λ (x : Option Object). option_map_or AnObject x Permanent) found

pub object_viewed : (r : Record) (handle : Handle) (o : Object)
    → is_of_kind handle_kind.Object handle ≡ true → object_of r handle ≡ Some o
    → view_of r handle ≡ OfObject o.public
unfolding view_of
object_viewed r handle o kind found = ap (entity_view handle) (object_entity r handle o kind found)

-- ---- the object's handle, which is authorized

pub object_handle_fits : (r : Record) (b : Bool) (handles : List Handle) (handle : Handle)
    → HandlesFit r (shape_of (if b then command.Hmac else command.Unseal)).handles handles
    → first_handle handles ≡ Ok handle → is_of_kind handle_kind.Object handle ≡ true
unfolding shape_of
object_handle_fits r true handles handle fits first =
    (first_fits r (user handle_kind.Object) [] handles handle fits first).0
object_handle_fits r false handles handle fits first =
    (first_fits r (user handle_kind.Object) [] handles handle fits first).0

no_first : (handle : Handle) → first_handle [] ≡ Ok handle → ⊥
no_first handle is = absurd cc

first_is : (h handle : Handle) (hs : List Handle) → first_handle (h ∷ hs) ≡ Ok handle → h ≡ handle
first_is h handle hs is = ok_is {E = Refused} h handle is

pub first_used : (b : Bool) (handles : List Handle) (handle : Handle)
    → first_handle handles ≡ Ok handle
    → slice_get (take (authorized_handles (if b then command.Hmac else command.Unseal)) handles) 0
    ≡ Some handle
unfolding shape_of
first_used b [] handle first = absurd (no_first handle first)
first_used true (h ∷ hs) handle first = ap (λ (x : Handle). Some x) (first_is h handle hs first)
first_used false (h ∷ hs) handle first = ap (λ (x : Handle). Some x) (first_is h handle hs first)

pub first_viewed : (r : Record) (handles : List Handle) (handle : Handle)
    → first_handle handles ≡ Ok handle → slice_get (map (view_of r) handles) 0
    ≡ Some (view_of r handle)
first_viewed r [] handle first = absurd (no_first handle first)
first_viewed r (h ∷ hs) handle first =
    ap (λ (x : Handle). Some (view_of r x)) (first_is h handle hs first)

-- neither TPM2_Unseal nor TPM2_HMAC ever allocates memory
pub never_grows : (b : Bool) → (shape_of (if b then command.Hmac else command.Unseal)).grows ≡ false
unfolding shape_of
never_grows true = refl
never_grows false = refl
