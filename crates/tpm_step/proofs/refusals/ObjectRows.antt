-- The rows of the commands for objects refuse by their own checks only as `own_refusals` lists.
use Rattle.std.specs.Prelude.{◌==◌, if◌then◌else◌, not}
use Rattle.std.proofs.Common.{Bool, Err, IfErr, List, Ok, Result, false, inl, inr, refl, true, ℕ}
use Rattle.tpm_types_common.specs.Handle.{hierarchy_of, is_persistent, platform_handle}
use Rattle.tpm_types_common.specs.PersistentHandle.{persistent_handle_at}
use Rattle.tpm_types_common.specs.declared.action_check.ActionCheck.TheVariants as action
use Rattle.tpm_types_common.specs.declared.handle.Handle.{Handle}
use Rattle.tpm_types_common.specs.declared.rc.ResponseCode.TheVariants as code
use Rattle.tpm_types_common.specs.declared.refused.Refused.{Refused}
use Rattle.tpm_types_object.specs.declared.public.Public.{Public}
use Rattle.tpm_types_object.specs.declared.public.PublicParameters.{PublicParameters}
use Rattle.tpm_types_object.specs.declared.public.PublicParameters.TheVariants.{KeyedHash, SymCipher}
use Rattle.tpm_commands.specs.declared.command_code.CommandCode.TheVariants as command
use Rattle.tpm_containers.specs.Slots.{lowest_free}
use Rattle.tpm_containers.specs.SortedMap.{Entries}
use Rattle.tpm_object.specs.Creation.{creation_passes}
use Rattle.tpm_object.specs.Template.{template_passes}
use Rattle.tpm_object.specs.Object.{is_storage_parent}
use Rattle.tpm_object.specs.declared.creation.CreationFault.{CreationFault}
use Rattle.tpm_object.specs.declared.creation.CreationFault.TheVariants as creation
use Rattle.tpm_object.specs.declared.template.TemplateFault.{TemplateFault}
use Rattle.tpm_object.specs.declared.template.TemplateFault.TheVariants as template
use Rattle.tpm_object.specs.declared.object.Object.{Object}
use Rattle.tpm_record.specs.Entity.{object_of}
use Rattle.tpm_record.specs.Record.{Record}
use Rattle.tpm_record.specs.rows.Refusals.{handle_refusal, or_refusal}
use Rattle.tpm_record.specs.rows.Request.{Request, first_handle, second_handle}
use Rattle.tpm_record.specs.rows.Rows.{only}
use Rattle.tpm_actions_object.specs.Checks.{creation_refusal, given_passes, public_passes}
use Rattle.tpm_actions_object.specs.Checks.{template_refusal}
use Rattle.tpm_actions_object.specs.Create.{create_row}
use Rattle.tpm_actions_object.specs.CreatePrimary.{create_primary_row, named_hierarchy}
use Rattle.tpm_actions_object.specs.Creation.{parameters_in as creation_parameters}
use Rattle.tpm_actions_object.specs.EvictControl.{evict_control_row, eviction_passes}
use Rattle.tpm_actions_object.specs.EvictControl.{objects_after_eviction, objects_with_copy}
use Rattle.tpm_actions_object.specs.EvictControl.{remaining_objects}
use Rattle.tpm_actions_object.specs.Hmac.{hmac_row, parameters_in as hmac_parameters, scheme_of}
use Rattle.tpm_actions_object.specs.Load.{load_row, parameters_in as load_parameters, sensitive_of}
use Rattle.tpm_actions_object.specs.Loaded.{is_fixed, loaded_at, no_place, parent_passes, place_for}
use Rattle.tpm_actions_object.specs.ReadPublic.{read_public_row}
use Rattle.tpm_actions_object.specs.Unseal.{unseal_row}
use Rattle.tpm_step.specs.rows.OwnRefusals.{IsListed, IsOneOf, RefusesAsListed, entity_refusal}
use Rattle.tpm_step.specs.rows.OwnRefusals.{own_refusals}
use Rattle.tpm_step.proofs.rows.Binding.{err_bind, err_if, err_or}
use Rattle.tpm_step.proofs.refusals.Steps.{own_first, own_only, own_second, own_steps}

own_template : (refusals : List Refused) (before : ℕ) (x : Result (Unit {0}) TemplateFault)
    → IsListed refusals (template_refusal before template.AuthPolicySize)
    → IsListed refusals (template_refusal before template.Attributes)
    → IsListed refusals (template_refusal before template.Scheme)
    → IfErr (or_refusal (template_refusal before) x) (IsListed refusals)
own_template refusals before (Ok u) size attributes scheme = tt
own_template refusals before (Err template.AuthPolicySize) size attributes scheme = size
own_template refusals before (Err template.Attributes) size attributes scheme = attributes
own_template refusals before (Err template.Scheme) size attributes scheme = scheme

own_creation : (refusals : List Refused) (before : ℕ) (x : Result (Unit {0}) CreationFault)
    → IsListed refusals (creation_refusal before creation.AuthValueSize)
    → IsListed refusals (creation_refusal before creation.Attributes)
    → IsListed refusals (creation_refusal before creation.DataSize)
    → IfErr (or_refusal (creation_refusal before) x) (IsListed refusals)
own_creation refusals before (Ok u) value attributes size = tt
own_creation refusals before (Err creation.AuthValueSize) value attributes size = value
own_creation refusals before (Err creation.Attributes) value attributes size = attributes
own_creation refusals before (Err creation.DataSize) value attributes size = size

own_scheme : (p : PublicParameters) → IfErr (scheme_of p) (IsListed (own_refusals command.Hmac))
unfolding own_refusals
own_scheme (KeyedHash scheme) = tt
own_scheme SymCipher = inl refl

-- the parameters of a command are not refused by its own checks
creation_read : (refusals : List Refused) (text : List ℕ)
    → IfErr (creation_parameters text) (IsListed refusals)
unfolding creation_parameters
creation_read refusals text = search own_steps depth 16

load_read : (refusals : List Refused) (text : List ℕ)
    → IfErr (load_parameters text) (IsListed refusals)
unfolding load_parameters
load_read refusals text = search own_steps depth 16

own_loaded : (refusals : List Refused) (r : Record) (h : Handle)
    → IfErr (loaded_at r h) (IsListed refusals)
own_loaded refusals r h = err_or _ (object_of r h) handle_refusal tt

own_hierarchy : (refusals : List Refused) (h : Handle)
    → IfErr (named_hierarchy h) (IsListed refusals)
own_hierarchy refusals h = err_or _ (hierarchy_of h) handle_refusal tt

own_parent : (refusals : List Refused) (o : Object)
    → IsOneOf refusals (entity_refusal action.First 1 code.Type)
    → IfErr (parent_passes o) (IsListed refusals)
own_parent refusals o listed =
    err_if (IsListed refusals) (not (is_storage_parent o.public))
    (entity_refusal action.First 1 code.Type) listed

own_sensitive : (o : Object) (public : Public) (private : List ℕ)
    → IfErr (sensitive_of o public private) (IsListed (own_refusals command.Load))
unfolding own_refusals
own_sensitive o public private = search own_steps depth 16

pub create_primary_own : (r : Record) (q : Request)
    → RefusesAsListed command.CreatePrimary (create_primary_row r q)
unfolding create_primary_row own_refusals
create_primary_own r q =
    err_bind _ (first_handle q.handles) _ (own_first _ q.handles) (λ handle.
    err_bind _ (named_hierarchy handle) _ (own_hierarchy _ handle) (λ hierarchy.
    err_bind _ (creation_parameters q.parameters) _ (creation_read _ q.parameters) (λ p.
    err_bind _ (public_passes 0 true p.template) _
    (own_template _ 0 (template_passes true p.template) (inl refl) (inr (inl refl))
    (inr (inr (inl refl)))) (λ t.
    err_bind _ (given_passes 3 p.given p.template) _
    (own_creation _ 3 (creation_passes p.given p.template) (inr (inr (inr (inl refl))))
    (inr (inr (inr (inr (inl refl))))) (inr (inr (inr (inr (inr (inl refl))))))) (λ c.
    err_bind _ (place_for action.Seventh r) _
    (err_or _ (lowest_free r.objects) (no_place action.Seventh)
    (inr (inr (inr (inr (inr (inr (inl refl)))))))) (λ place. tt))))))

pub create_own : (r : Record) (q : Request) → RefusesAsListed command.Create (create_row r q)
unfolding create_row own_refusals
create_own r q =
    err_bind _ (first_handle q.handles) _ (own_first _ q.handles) (λ handle.
    err_bind _ (loaded_at r handle) _ (own_loaded _ r handle) (λ parent.
    err_bind _ (creation_parameters q.parameters) _ (creation_read _ q.parameters) (λ p.
    err_bind _ (parent_passes parent) _ (own_parent _ parent (inl refl)) (λ a1.
    err_bind _ (public_passes 1 (is_fixed parent) p.template) _
    (own_template _ 1 (template_passes (is_fixed parent) p.template) (inr (inl refl))
    (inr (inr (inl refl))) (inr (inr (inr (inl refl))))) (λ t.
    err_bind _ (given_passes 4 p.given p.template) _
    (own_creation _ 4 (creation_passes p.given p.template) (inr (inr (inr (inr (inl refl)))))
    (inr (inr (inr (inr (inr (inl refl)))))) (inr (inr (inr (inr (inr (inr (inl refl))))))))
    (λ c. tt))))))

pub load_own : (r : Record) (q : Request) → RefusesAsListed command.Load (load_row r q)
unfolding load_row own_refusals
load_own r q =
    err_bind _ (first_handle q.handles) _ (own_first _ q.handles) (λ handle.
    err_bind _ (loaded_at r handle) _ (own_loaded _ r handle) (λ parent.
    err_bind _ (load_parameters q.parameters) _ (load_read _ q.parameters) (λ p.
    err_bind _ (parent_passes parent) _ (own_parent _ parent (inl refl)) (λ a1.
    err_bind _ (public_passes 1 (is_fixed parent) p.public) _
    (own_template _ 1 (template_passes (is_fixed parent) p.public) (inr (inl refl))
    (inr (inr (inl refl))) (inr (inr (inr (inl refl))))) (λ t.
    err_bind _ (sensitive_of parent p.public p.private) _ (own_sensitive parent p.public p.private)
    (λ sensitive.
    err_bind _ (place_for action.Sixth r) _
    (err_or _ (lowest_free r.objects) (no_place action.Sixth)
    (inr (inr (inr (inr (inr (inl refl))))))) (λ place. tt)))))))

pub read_public_own : (r : Record) (q : Request)
    → RefusesAsListed command.ReadPublic (read_public_row r q)
unfolding read_public_row
read_public_own r q = search own_steps depth 16

pub unseal_own : (r : Record) (q : Request) → RefusesAsListed command.Unseal (unseal_row r q)
unfolding unseal_row own_refusals
unseal_own r q = search own_steps depth 16

pub hmac_own : (r : Record) (q : Request) → RefusesAsListed command.Hmac (hmac_row r q)
unfolding hmac_row hmac_parameters own_refusals
hmac_own r q = search (own_scheme, own_steps) depth 16

-- ---- TPM2_EvictControl

own_eviction : (by_platform removes : Bool) (o : Object) (wanted : Handle)
    → IfErr (eviction_passes by_platform removes o wanted)
    (IsListed (own_refusals command.EvictControl))
unfolding own_refusals
own_eviction by_platform removes o wanted = search own_steps depth 16

own_evicted : (objects : Entries Object) (h : Handle) (o : Object) (wanted : Handle)
    → IfErr (objects_after_eviction objects h o wanted)
    (IsListed (own_refusals command.EvictControl))
unfolding own_refusals
own_evicted objects h o wanted = by (is_persistent h)
  where
    by : (b : Bool) → IfErr (if b then remaining_objects objects h wanted
        else objects_with_copy objects o wanted) (IsListed (own_refusals command.EvictControl))
    by true = search own_steps depth 16
    by false = search own_steps depth 16

pub evict_control_own : (r : Record) (q : Request)
    → RefusesAsListed command.EvictControl (evict_control_row r q)
unfolding evict_control_row
evict_control_own r q =
    err_bind _ (first_handle q.handles) _ (own_first _ q.handles) (λ auth.
    err_bind _ (second_handle q.handles) _ (own_second _ q.handles) (λ h.
    err_bind _ (loaded_at r h) _ (own_loaded _ r h) (λ o.
    err_bind _ (only (persistent_handle_at q.parameters)) _
    (own_only _ (persistent_handle_at q.parameters)) (λ wanted.
    err_bind _ (eviction_passes (auth.number == platform_handle.number) (is_persistent h) o wanted)
    _ (own_eviction (auth.number == platform_handle.number) (is_persistent h) o wanted) (λ passed.
    err_bind _ (objects_after_eviction r.persistent h o wanted) _
    (own_evicted r.persistent h o wanted) (λ persistent. tt))))))
