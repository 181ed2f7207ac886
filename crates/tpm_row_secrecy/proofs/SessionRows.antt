-- The rows for starting and ending sessions reveal nothing about secrets.
use Rattle.std.proofs.Common.{ap, refl, sym, ◌∙◌}
use Rattle.std.proofs.lemmas.Bool.{false≢true}
use Rattle.std.proofs.lemmas.Option.{same_Some}
use Rattle.std.specs.Prelude.{Bool, List, None, Option, Some, cond, false, is_some, length, not, ok_or, option_map, take, true, ℕ, ◌==◌, ◌||◌, ◌≡◌}
use Rattle.tpm_actions_device.specs.FlushContext.{can_be_flushed, flush_context_row, flushed_from, flushed_handle, is_loaded}
use Rattle.tpm_actions_device.specs.StartAuthSession.{Parameters, binding_of, parameters_in, parameters_pass, session_place, session_with, start_answer, start_auth_session_row}
use Rattle.tpm_bytes.specs.Reading.{refused_if}
use Rattle.tpm_object.specs.Object.{transient_byte}
use Rattle.tpm_record.specs.Entity.{auth_value_of, name_of, protection_of}
use Rattle.tpm_record.specs.Objects.{object_at, without_object}
use Rattle.tpm_record.specs.Record.{Record}
use Rattle.tpm_record.specs.rows.Answer.{nothing}
use Rattle.tpm_record.specs.rows.Refusals.{action_refusal, parameter_refusal}
use Rattle.tpm_record.specs.rows.Request.{Request, second_handle}
use Rattle.tpm_session.specs.Sessions.{session_at, session_byte, slots_without_session}
use Rattle.tpm_session.specs.declared.session.Binding.{Binding}
use Rattle.tpm_session.specs.declared.session.Protection.{Protection}
use Rattle.tpm_session.specs.declared.session.Session.{Session}
use Rattle.tpm_types_common.specs.Handle.{is_session, null_handle}
use Rattle.tpm_types_common.specs.Rc.{plain}
use Rattle.tpm_types_common.specs.declared.handle.Handle.{Handle}
use Rattle.tpm_row_secrecy.proofs.Bare.{object_again, session_again, unless_open, with_objects, with_sessions}
use Rattle.tpm_row_secrecy.proofs.Each.{is_some_of, lowest_free_each, places, set_same, without_number_same}
use Rattle.tpm_row_secrecy.proofs.Entities.{key_covered, name_bare, object_at_bare, protection_bare, session_at_bare, value_bare}
use Rattle.tpm_row_secrecy.proofs.Steps.{same_both, same_end, same_step}
use Rattle.tpm_row_secrecy.specs.Alike.{Same}
use Rattle.tpm_row_secrecy.specs.Secrecy.{CoversKeys, Secrecy, bare_binding, bare_object, bare_session, has_secret_key, has_secret_value, unless, without_secrets}
use Rattle.tpm_types_common.specs.declared.action_check.ActionCheck.TheVariants as action
use Rattle.tpm_types_common.specs.declared.rc.ResponseCode.TheVariants as code

-- If the keys of sessions that are bound to a Name are not secret, erasing the secrets does not
-- change a binding to this Name.
shown_binding : (s : Secrecy) (b : Binding) → s.bound_names b.name ≡ false → bare_binding s b ≡ b
shown_binding s b shown = ap (λ (value : List ℕ). record b { auth_value = value })
    (unless_open _ b.auth_value shown)

module _ (s : Secrecy) (covers : CoversKeys s) (r : Record) (q : Request) where
  -- ---- starting a session

  abbrev bound : (name value : List ℕ) → Protection → Binding
  bound name value protection = record { name = name; auth_value = value; protection = protection }

  -- Erasing a device's secrets does not change an entity's authorization value, unless the keys of
  -- sessions that are bound to the entity's Name are secret.
  value_open : (bind : Handle) (b : Bool) → s.bound_names (name_of r bind) ≡ b
      → unless b (auth_value_of (without_secrets s r) bind) ≡ unless b (auth_value_of r bind)
  value_open bind true is = refl
  value_open bind false is = value_bare s r bind (by (has_secret_value s r bind) refl)
    where
      by : (b : Bool) → has_secret_value s r bind ≡ b → b ≡ false
      by true secret = absurd (false≢true (sym is ∙ key_covered s covers r bind secret))
      by false secret = refl

  bound_same : (bind : Handle)
      → bare_binding s
      (bound (name_of (without_secrets s r) bind) (auth_value_of (without_secrets s r) bind)
      (protection_of (without_secrets s r) bind))
      ≡ bare_binding s (bound (name_of r bind) (auth_value_of r bind) (protection_of r bind))
  bound_same bind =
      ap (λ (name : List ℕ). bound name
      (unless (s.bound_names name) (auth_value_of (without_secrets s r) bind))
      (protection_of (without_secrets s r) bind)) (name_bare s r bind)
      ∙ ap (λ (value : List ℕ). bound (name_of r bind) value
      (protection_of (without_secrets s r) bind))
      (value_open bind (s.bound_names (name_of r bind)) refl)
      ∙ ap (bound (name_of r bind) (unless (s.bound_names (name_of r bind)) (auth_value_of r bind)))
      (protection_bare s r bind)

  binding_same : (bind : Handle)
      → option_map (bare_binding s) (binding_of (without_secrets s r) bind)
      ≡ option_map (bare_binding s) (binding_of r bind)
  unfolding binding_of
  binding_same bind = by (bind.number == null_handle.number)
    where
      by : (b : Bool) → option_map (bare_binding s)
          (cond b None
          (Some (bound (name_of (without_secrets s r) bind)
          (auth_value_of (without_secrets s r) bind)
          (protection_of (without_secrets s r) bind))))
          ≡ option_map (bare_binding s)
          (cond b None
          (Some (bound (name_of r bind) (auth_value_of r bind) (protection_of r bind))))
      by true = refl
      by false = ap (λ (b : Binding). Some b) (bound_same bind)

  abbrev new : Parameters → Option Binding → Session
  new p b = session_with p b (take (length p.nonce_caller) q.random)

  -- If two bindings differ only in secrets, the keys derived from them are equal or secret.
  key_same : (p : Parameters) (b c : Option Binding)
      → option_map (bare_binding s) b ≡ option_map (bare_binding s) c
      → unless (has_secret_key s b) (new p b).key ≡ unless (has_secret_key s c) (new p c).key
  key_same p None None same = refl
  key_same p None (Some c) same = absurd cc
  key_same p (Some b) None same = absurd cc
  key_same p (Some b) (Some c) same = by (s.bound_names b.name) refl
    where
      bares : bare_binding s b ≡ bare_binding s c
      bares = same_Some (bare_binding s b) (bare_binding s c) same

      names : s.bound_names b.name ≡ s.bound_names c.name
      names = ap (λ (x : Binding). s.bound_names x.name) bares

      by : (secret : Bool) → s.bound_names b.name ≡ secret
          → unless (s.bound_names b.name) (new p (Some b)).key
          ≡ unless (s.bound_names c.name) (new p (Some c)).key
      by true is =
          ap (λ (x : Bool). unless x (new p (Some b)).key) is
          ∙ sym (ap (λ (x : Bool). unless x (new p (Some c)).key) (sym names ∙ is))
      by false is = ap (λ (x : Binding). unless (s.bound_names x.name) (new p (Some x)).key)
          (sym (shown_binding s b is) ∙ bares ∙ shown_binding s c (sym names ∙ is))

  session_same : (p : Parameters) (b c : Option Binding)
      → option_map (bare_binding s) b ≡ option_map (bare_binding s) c
      → bare_session s (new p b) ≡ bare_session s (new p c)
  session_same p b c same =
      ap (λ (key : List ℕ). record (new p b) { key = key; binding = option_map (bare_binding s) b })
      (key_same p b c same)
      ∙ ap (λ (x : Option Binding). record (new p b) {
        key =
            unless (has_secret_key s c) (new p c).key;
        binding = x;
      }) same

  pub start_auth_session_tells : Same s (start_auth_session_row (without_secrets s r) q)
      (start_auth_session_row r q)
  unfolding start_auth_session_row
  start_auth_session_tells =
      same_step s (second_handle q.handles) _ _ (λ bind.
      same_step s (parameters_in q.parameters) _ _ (λ p.
      same_step s (parameters_pass p) _ _ (λ passed.
      same_both s (session_place (places (bare_session s) r.sessions)) (session_place r.sessions) _
      _
      (ap (λ (place : Option ℕ). ok_or place
      (action_refusal action.Fourth (plain code.SessionMemory)))
      (lowest_free_each (bare_session s) r.sessions)) (λ place.
      same_end s (start_answer p (new p (binding_of r bind)) place) _ _
      (with_sessions s r _ _
      (set_same (bare_session s) (session_again s) r.sessions place
      (Some (new p (binding_of (without_secrets s r) bind)))
      (Some (new p (binding_of r bind)))
      (ap (λ (x : Session). Some x)
      (session_same p (binding_of (without_secrets s r) bind) (binding_of r bind)
      (binding_same bind)))))))))

module _ (s : Secrecy) (r : Record) (q : Request) where
  -- ---- flushing a session or an object

  loaded_same : (handle : Handle) → is_loaded (without_secrets s r) handle ≡ is_loaded r handle
  loaded_same handle =
      ap (λ (b : Bool). b || is_some (object_at (places (bare_object s) r.objects) handle))
      (ap is_some (session_at_bare s r.sessions handle)
      ∙ is_some_of (bare_session s) (session_at r.sessions handle))
      ∙ ap (λ (b : Bool). is_some (session_at r.sessions handle) || b)
      (ap is_some (object_at_bare s r.objects handle)
      ∙ is_some_of (bare_object s) (object_at r.objects handle))

  flushed_same : (handle : Handle) (of_session : Bool)
      → without_secrets s (flushed_from (without_secrets s r) handle of_session)
      ≡ without_secrets s (flushed_from r handle of_session)
  unfolding slots_without_session without_object
  flushed_same handle true =
      with_sessions s r _ _
      (without_number_same (bare_session s) (session_again s) session_byte (λ x. refl) r.sessions
      handle.number)
  flushed_same handle false =
      with_objects s r _ _
      (without_number_same (bare_object s) (object_again s) transient_byte (λ o. refl) r.objects
      handle.number)

  pub flush_context_tells : Same s (flush_context_row (without_secrets s r) q)
      (flush_context_row r q)
  unfolding flush_context_row
  flush_context_tells =
      same_step s (flushed_handle q.parameters) _ _ (λ handle.
      same_step s
      (refused_if (not (can_be_flushed handle)) (parameter_refusal action.First 1 code.Value)) _
      _ (λ a1.
      same_both s (refused_if (not (is_loaded (without_secrets s r) handle))
      (parameter_refusal action.Second 1 code.Handle))
      (refused_if (not (is_loaded r handle)) (parameter_refusal action.Second 1 code.Handle)) _
      _ (ap (λ (b : Bool). refused_if (not b) (parameter_refusal action.Second 1 code.Handle))
      (loaded_same handle)) (λ a2.
      same_end s nothing _ _ (flushed_same handle (is_session handle)))))
