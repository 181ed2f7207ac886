-- The rows of the commands for objects satisfy the laws about rows.
use Rattle.std.specs.Option.{option_map_or}
use Rattle.std.specs.Prelude.{◌==◌, ◌||◌, if◌then◌else◌, is_some}
use Rattle.std.proofs.Common.{◌+◌, ◌≡◌, ◌≤◌, Bool, IfOk, List, None, Ok, Option, Result, Some}
use Rattle.std.proofs.Common.{ap, arith, cond, false, inl, inr, refl, rules, subst, sym, true, ℕ}
use Rattle.std.proofs.lemmas.Bool.{eqb-true, false≢true}
use Rattle.tpm_bytes.specs.Reading.{◌>>=◌}
use Rattle.tpm_bytes.proofs.Fields.{passed}
use Rattle.tpm_mac.specs.declared.algorithm.HashAlg.{HashAlg}
use Rattle.tpm_types_common.specs.Buffer.{is_given}
use Rattle.tpm_types_common.specs.Handle.{handle_type, hierarchy_of, is_persistent, platform_handle}
use Rattle.tpm_types_common.specs.PersistentHandle.{persistent_handle_at}
use Rattle.tpm_types_common.specs.Rc.{plain}
use Rattle.tpm_types_common.specs.declared.action_check.ActionCheck.{ActionCheck}
use Rattle.tpm_types_common.specs.declared.action_check.ActionCheck.TheVariants as action
use Rattle.tpm_types_common.specs.declared.handle.Handle.{Handle}
use Rattle.tpm_types_common.specs.declared.handle.HierarchyHandle.{HierarchyHandle}
use Rattle.tpm_types_common.specs.declared.refused.Refused.{Refused}
use Rattle.tpm_types_object.specs.SensitiveCreate.{SensitiveValues}
use Rattle.tpm_types_object.specs.declared.public.KeyedHashScheme.TheVariants.{Hmac, Null}
use Rattle.tpm_types_object.specs.declared.public.Public.{Public}
use Rattle.tpm_types_object.specs.declared.public.PublicParameters.{PublicParameters}
use Rattle.tpm_types_object.specs.declared.public.PublicParameters.TheVariants as parameters_of
use Rattle.tpm_commands.specs.CommandCode.{part_of, shape_of}
use Rattle.tpm_commands.specs.Shape.{user}
use Rattle.tpm_commands.specs.declared.command_code.CommandCode.{CommandCode}
use Rattle.tpm_commands.specs.declared.command_code.CommandCode.TheVariants as command
use Rattle.tpm_commands.specs.declared.shape.HandleKind.TheVariants as handle_kind
use Rattle.tpm_commands.specs.declared.shape.HandleRule.{HandleRule}
use Rattle.tpm_commands.specs.declared.shape.ParameterKind.{ParameterKind}
use Rattle.tpm_containers.proofs.NumberedLaws.{put_taken}
use Rattle.tpm_containers.specs.SortedMap.{Entries}
use Rattle.tpm_containers.proofs.SortedMapLaws.{put_length, removed_length}
use Rattle.tpm_object.specs.Creation.{drawn_by, generated_size, key_size, parameters_key_size}
use Rattle.tpm_object.specs.Object.{transient_byte}
use Rattle.tpm_object.specs.declared.creation.CreationFault.{CreationFault}
use Rattle.tpm_object.specs.declared.object.Object.{Object}
use Rattle.tpm_object.specs.declared.template.TemplateFault.{TemplateFault}
use Rattle.tpm_session.specs.Sessions.{session_at}
use Rattle.tpm_record.specs.Entity.{AnIndex, AnObject, Entity, Permanent, entity_at, index_of}
use Rattle.tpm_record.specs.Entity.{is_present, object_of}
use Rattle.tpm_record.specs.Objects.{object_at, with_object}
use Rattle.tpm_record.specs.Persistent.{persistent_at, with_persistent, without_persistent}
use Rattle.tpm_record.specs.Record.{Record}
use Rattle.tpm_record.specs.rows.Answer.{AnswerParts}
use Rattle.tpm_record.specs.rows.Refusals.{or_refusal}
use Rattle.tpm_record.specs.rows.Request.{Request, first_handle, second_handle}
use Rattle.tpm_record.specs.rows.Rows.{only}
use Rattle.tpm_actions_object.specs.Checks.{creation_refusal, given_passes, public_passes}
use Rattle.tpm_actions_object.specs.Checks.{template_refusal}
use Rattle.tpm_actions_object.specs.Create.{create_row}
use Rattle.tpm_actions_object.specs.CreatePrimary.{create_primary_row, named_hierarchy}
use Rattle.tpm_actions_object.specs.Creation.{parameters_in as creation_parameters}
use Rattle.tpm_actions_object.specs.EvictControl.{evict_control_row, objects_after_eviction, objects_with_copy}
use Rattle.tpm_actions_object.specs.EvictControl.{eviction_passes, remaining_objects}
use Rattle.tpm_actions_object.specs.Hmac.{hmac_row, parameters_in as hmac_parameters, scheme_of}
use Rattle.tpm_actions_object.specs.Load.{load_row, parameters_in as load_parameters, sensitive_of}
use Rattle.tpm_actions_object.specs.Loaded.{is_fixed, loaded_at, parent_passes, place_for}
use Rattle.tpm_actions_object.specs.ReadPublic.{read_public_row}
use Rattle.tpm_actions_object.specs.Unseal.{unseal_row}
use Rattle.tpm_step.specs.rows.Draws.{DrawsAsSaid}
use Rattle.tpm_step.specs.rows.Footprint.{Touches}
use Rattle.tpm_commands.specs.Part.{Objects, Part}
use Rattle.tpm_step.specs.rows.Handles.{FitsRule, HandlesFit}
use Rattle.tpm_step.specs.rows.IndexChanges.{ChangesIndices}
use Rattle.tpm_step.specs.rows.Order.{Late, Orders, Plain}
use Rattle.tpm_step.specs.rows.RowLaws.{RowLaws, SuccessLaws}
use Rattle.tpm_step.specs.rows.Shapes.{AnswersItsShape, GrowsAsShaped, taken_in}
use Rattle.tpm_step.proofs.rows.Binding.{err_bind, err_if, ok_bind, ok_bind_is, ok_then, some_is}
use Rattle.tpm_step.proofs.rows.Order.{IsThere, behind_found, either, ordered_steps}
use Rattle.tpm_step.proofs.rows.Parts.{leaves_sessions}
use Rattle.tpm_step.proofs.rows.PlainSteps.{plain_steps}
use Rattle.tpm_step.proofs.rows.SizedParts.{digest_few}
use Rattle.tpm_step.proofs.rows.Successes.{GrowsByOne, beside_sessions, drawn_as_read, in_place}
use Rattle.tpm_step.proofs.rows.Successes.{in_place_steps, none_drawn}
use Rattle.tpm_row_secrecy.proofs.ObjectRows as object_secrets

-- ---- how the rows of objects refuse

-- If a handle has the type of an object, and its entity exists, then the handle names an object.
object_there : (type : ℕ) (session : Bool) (index : Entity) (o : Option Object)
    → (type == 0x80 || type == 0x81) ≡ true
    → IsThere type session (if type == 0x01 then index else option_map_or AnObject o Permanent)
    → is_some o ≡ true
object_there type session index (Some o) kind present = refl
object_there type session index None kind present =
    let there = λ (t : ℕ). IsThere t session (if t == 0x01 then index else Permanent) in
    elim (either (type == 0x80) (type == 0x81) kind) [
      | inl is ↦ absurd (false≢true (subst there (eqb-true type 0x80 is) present))
      | inr is ↦ absurd (false≢true (subst there (eqb-true type 0x81 is) present))
    ]

behind_object : {X : Type 0} (r : Record) (rules : List HandleRule) (handles : List Handle)
    (h : Handle) (kinds : List ParameterKind) (text : List ℕ) (f : Object → Result X Refused)
    → (HandlesFit r rules handles → FitsRule r (user handle_kind.Object) h)
    → ((o : Object) → Orders r rules handles kinds text (f o))
    → Orders r rules handles kinds text (loaded_at r h >>= f)
unfolding is_present entity_at
behind_object r rules handles h kinds text f fits more =
    behind_found r rules handles (object_of r h) kinds text f
    (λ fit. object_there (handle_type h) (is_some (session_at r.sessions h))
    (option_map_or AnIndex (index_of r h) Permanent) (object_of r h) (fits fit).0
    (fits fit).1) more

behind_hierarchy : {X : Type 0} (r : Record) (rules : List HandleRule) (handles : List Handle)
    (h : Handle) (kinds : List ParameterKind) (text : List ℕ)
    (f : HierarchyHandle → Result X Refused)
    → (HandlesFit r rules handles → FitsRule r (user handle_kind.Hierarchy) h)
    → ((o : HierarchyHandle) → Orders r rules handles kinds text (f o))
    → Orders r rules handles kinds text (named_hierarchy h >>= f)
behind_hierarchy r rules handles h kinds text f fits more =
    behind_found r rules handles (hierarchy_of h) kinds text f (λ fit. (fits fit).0) more

late_template : (Fit : Type 0) (before : ℕ) (x : Result (Unit {0}) TemplateFault)
    → Late Fit (or_refusal (template_refusal before) x)
late_template Fit before x = grind arith

late_creation : (Fit : Type 0) (before : ℕ) (x : Result (Unit {0}) CreationFault)
    → Late Fit (or_refusal (creation_refusal before) x)
late_creation Fit before x = grind arith

late_scheme : (Fit : Type 0) (p : PublicParameters) → Late Fit (scheme_of p)
late_scheme Fit p = grind arith

-- A step of TPM2_EvictControl refuses late (`Late`): the step that removes a persistent object, or
-- copies a transient object.
late_evicted : (Fit : Type 0) (objects : Entries Object) (h : Handle) (o : Object) (wanted : Handle)
    → Late Fit (objects_after_eviction objects h o wanted)
late_evicted Fit objects h o wanted = by (is_persistent h)
  where
    by : (b : Bool) → Late Fit (if b then remaining_objects objects h wanted
        else objects_with_copy objects o wanted)
    by true = search (rules, err_bind, err_if)
    by false = search (rules, err_bind, err_if)

ruleset object_orders = (
  ordered_steps,
  behind_object,
  behind_hierarchy,
  late_template,
  late_creation,
  late_scheme,
  late_evicted,
)

plain_template : (before : ℕ) (x : Result (Unit {0}) TemplateFault)
    → Plain (or_refusal (template_refusal before) x)
plain_template before x = grind arith

plain_creation : (before : ℕ) (x : Result (Unit {0}) CreationFault)
    → Plain (or_refusal (creation_refusal before) x)
plain_creation before x = grind arith

plain_scheme : (p : PublicParameters) → Plain (scheme_of p)
plain_scheme p = grind arith

plain_evicted : (objects : Entries Object) (h : Handle) (o : Object) (wanted : Handle)
    → Plain (objects_after_eviction objects h o wanted)
plain_evicted objects h o wanted = by (is_persistent h)
  where
    by : (b : Bool) → Plain (if b then remaining_objects objects h wanted
        else objects_with_copy objects o wanted)
    by true = search (rules, err_bind, err_if)
    by false = search (rules, err_bind, err_if)

ruleset object_plain = (plain_steps, plain_template, plain_creation, plain_scheme, plain_evicted)

-- ---- creating an object

key_few : (hash : HashAlg) (p : PublicParameters) → parameters_key_size hash p ≤ 32
key_few hash parameters_of.SymCipher = omega arith
key_few hash (parameters_of.KeyedHash (Hmac scheme)) = digest_few scheme
key_few hash (parameters_of.KeyedHash Null) = digest_few hash

generated_few : (t : Public) (given : SensitiveValues) → generated_size t given ≤ 32
generated_few t given = by (is_given given.data)
  where
    by : (b : Bool) → cond b 0 (key_size t) ≤ 32
    by true = omega arith
    by false = key_few t.name_alg t.parameters

object_drawn : (t : Public) (given : SensitiveValues) → drawn_by t given + 16 ≤ 96
object_drawn t given = omega (arith, generated_few t given, digest_few t.name_alg)

pub create_laws : RowLaws command.Create create_row
unfolding create_row shape_of creation_parameters
create_laws = record {
  success = λ r q.
      ok_bind _ (first_handle q.handles) _ (λ handle.
      ok_bind _ (loaded_at r handle) _ (λ parent.
      ok_bind_is _ (creation_parameters q.parameters) _ (λ p is.
      ok_bind _ (parent_passes parent) _ (λ a1.
      ok_bind _ (public_passes 1 (is_fixed parent) p.template) _ (λ t.
      ok_bind _ (given_passes 4 p.given p.template) _ (λ c.
      in_place command.Create r q _ refl refl (λ old new grows. grows) refl refl (refl, refl) (
        object_drawn p.template p.given,
        λ apart. drawn_as_read (λ p. drawn_by p.template p.given + 16)
            (creation_parameters q.parameters) p is,
      )))))));
  order = λ r q. search object_orders depth 16;
  plain = λ r q. search object_plain depth 16;
  tells = λ s covers r q free. object_secrets.create_tells s r q;
}

-- ---- storing an object in a slot

more_objects : (r : Record) (check : ActionCheck) (place : ℕ) (o : Object)
    → place_for check r ≡ Ok place
    → taken_in (record r { objects = with_object r.objects place o }) ≡ taken_in r + 1
more_objects r n place o is = let more =
    put_taken transient_byte r.objects place o (some_is _ _ place is) in omega (arith, more)

loaded_success : (c : CommandCode) (r : Record) (q : Request) (check : ActionCheck) (place : ℕ)
    (o : Object) (answer : AnswerParts) → part_of c ≡ Objects → GrowsByOne c
    → place_for check r ≡ Ok place → AnswersItsShape c (record { answer = answer; after = r })
    → DrawsAsSaid c q (record { answer = answer; after = r })
    → SuccessLaws c r q
    (record { answer = answer; after = record r { objects = with_object r.objects place o } })
loaded_success c r q check place o answer part one is answers draws =
    let after : Record = record r { objects = with_object r.objects place o } in
    beside_sessions c r q (record { answer = answer; after = after }) (ap leaves_sessions part)
    (subst (λ (p : Part). Touches p r after) (sym part) refl)
    (one r after (more_objects r check place o is))
    (subst (λ (p : Part). ChangesIndices p q r.nv r.nv) (sym part) refl) answers draws

pub create_primary_laws : RowLaws command.CreatePrimary create_primary_row
unfolding create_primary_row shape_of creation_parameters
create_primary_laws = record {
  success = λ r q.
      ok_bind _ (first_handle q.handles) _ (λ handle.
      ok_bind _ (named_hierarchy handle) _ (λ hierarchy.
      ok_bind _ (creation_parameters q.parameters) _ (λ p.
      ok_bind _ (public_passes 0 true p.template) _ (λ t.
      ok_bind _ (given_passes 3 p.given p.template) _ (λ c.
      ok_bind_is _ (place_for action.Seventh r) _ (λ place is.
      loaded_success command.CreatePrimary r q action.Seventh place _ _
      refl (λ old new grows. grows) is (refl, refl)
      (none_drawn, λ apart. refl)))))));
  order = λ r q. search object_orders depth 16;
  plain = λ r q. search object_plain depth 16;
  tells = λ s covers r q free. object_secrets.create_primary_tells s r q;
}

pub load_laws : RowLaws command.Load load_row
unfolding load_row shape_of load_parameters
load_laws = record {
  success = λ r q.
      ok_bind _ (first_handle q.handles) _ (λ handle.
      ok_bind _ (loaded_at r handle) _ (λ parent.
      ok_bind _ (load_parameters q.parameters) _ (λ p.
      ok_bind _ (parent_passes parent) _ (λ a1.
      ok_bind _ (public_passes 1 (is_fixed parent) p.public) _ (λ t.
      ok_bind _ (sensitive_of parent p.public p.private) _ (λ sensitive.
      ok_bind_is _ (place_for action.Sixth r) _ (λ place is.
      loaded_success command.Load r q action.Sixth place _ _ refl (λ old new grows. grows) is
      (refl, refl)
      (none_drawn, λ apart. refl))))))));
  order = λ r q. search object_orders depth 16;
  plain = λ r q. search object_plain depth 16;
  tells = λ s covers r q free. object_secrets.load_tells s r q;
}

evicted_grows : (r : Record) (h : Handle) (o : Object) (wanted : Handle) → loaded_at r h ≡ Ok o
    → IfOk (objects_after_eviction r.persistent h o wanted)
    (λ persistent. GrowsAsShaped command.EvictControl r (record r { persistent = persistent }))
unfolding object_of
evicted_grows r h o wanted is = by (is_persistent h) (some_is _ _ o is)
  where
    by : (b : Bool) → (if b then persistent_at r.persistent h else object_at r.objects h) ≡ Some o
        → IfOk (if b then remaining_objects r.persistent h wanted
        else objects_with_copy r.persistent o wanted)
        (λ persistent. GrowsAsShaped command.EvictControl r (record r { persistent = persistent }))
    by true there =
        let less = removed_length r.persistent h.number o there in
        let after : GrowsAsShaped command.EvictControl r
        (record r { persistent = without_persistent r.persistent h }) =
        inr (omega (arith, less)) in
        search (rules, ok_bind)
    by false there =
        let more = put_length r.persistent wanted.number o in
        let after : GrowsAsShaped command.EvictControl r
        (record r { persistent = with_persistent r.persistent wanted o }) =
        inl (omega (arith, more)) in
        search (rules, ok_bind)

pub evict_control_laws : RowLaws command.EvictControl evict_control_row
unfolding evict_control_row shape_of
evict_control_laws = record {
  success = λ r q.
      ok_bind _ (first_handle q.handles) _ (λ auth.
      ok_bind _ (second_handle q.handles) _ (λ h.
      ok_bind_is _ (loaded_at r h) _ (λ o is.
      ok_bind _ (only (persistent_handle_at q.parameters)) _ (λ wanted.
      ok_bind _ (eviction_passes (auth.number == platform_handle.number) (is_persistent h) o wanted)
      _ (λ passed.
      ok_then _ _ (objects_after_eviction r.persistent h o wanted) _ (evicted_grows r h o wanted is)
      (λ persistent grows.
      beside_sessions command.EvictControl r q _ refl refl grows refl (refl, refl)
      (none_drawn, λ apart. refl)))))));
  order = λ r q. search object_orders depth 16;
  plain = λ r q. search object_plain depth 16;
  tells = λ s covers r q free. object_secrets.evict_control_tells s r q;
}

-- ---- using an object

pub hmac_laws : RowLaws command.Hmac hmac_row
unfolding hmac_row shape_of hmac_parameters
hmac_laws = record {
  success = λ r q. search in_place_steps depth 12;
  order = λ r q. search object_orders depth 16;
  plain = λ r q. search object_plain depth 16;
  tells = λ s covers r q free. object_secrets.hmac_tells s r q free;
}

pub read_public_laws : RowLaws command.ReadPublic read_public_row
unfolding read_public_row shape_of
read_public_laws = record {
  success = λ r q. search in_place_steps depth 12;
  order = λ r q. search object_orders depth 16;
  plain = λ r q. search object_plain depth 16;
  tells = λ s covers r q free. object_secrets.read_public_tells s r q;
}

pub unseal_laws : RowLaws command.Unseal unseal_row
unfolding unseal_row shape_of
unseal_laws = record {
  success = λ r q. search in_place_steps depth 12;
  order = λ r q. search object_orders depth 16;
  plain = λ r q. search object_plain depth 16;
  tells = λ s covers r q free. object_secrets.unseal_tells s r q free;
}
