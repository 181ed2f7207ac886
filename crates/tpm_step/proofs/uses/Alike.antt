-- If two devices follow the same history, show the same view of each handle, and have the same
-- lockout state, they authorize each command in the same way.
use Rattle.std.proofs.Common.{◌≡◌, Bool, true, false, [], Option, Some, None, option_map, refl, ap, sym, subst, ◌∙◌}
use Rattle.std.specs.Option.{option_map_or}
use Rattle.tpm_session.specs.Sessions.{session_at}
use Rattle.tpm_session.specs.declared.session.Binding.{Binding}
use Rattle.tpm_session.specs.declared.session.Session.{Session}
use Rattle.tpm_types_common.specs.declared.handle.Handle.{Handle}
use Rattle.tpm_record.specs.Record.{Record}
use Rattle.tpm_types_common.specs.Handle.{hierarchy_auth_of}
use Rattle.tpm_types_common.specs.declared.handle.HierarchyAuth.{HierarchyAuth}
use Rattle.tpm_types_common.specs.declared.handle.HierarchyAuth.TheVariants as auth
use Rattle.tpm_record.specs.Entity.{AnIndex, AnObject, Entity, Permanent, auth_value_of, entity_at, entity_auth_value, hierarchy_auth_value, is_kept, permanent_auth_value}
use Rattle.tpm_step.specs.history.AuthValues.{auth_of}
use Rattle.tpm_step.specs.history.DeviceAuthValues.{HasAuthValues, auth_seen}
use Rattle.tpm_step.proofs.history.DeviceAuthValues.{kept_seen}
use Rattle.tpm_step.proofs.history.AuthParts.{auth_handle, named_is}
use Rattle.tpm_step.specs.history.View.{OfHandle, OfIndex, OfObject, entity_view}
use Rattle.tpm_step.specs.history.DeviceSessions.{SessionFacts, bound_of, session_facts}
use Rattle.tpm_step.specs.history.History.{History}
use Rattle.tpm_step.specs.history.Sessions.{Bound}
use Rattle.tpm_step.specs.history.View.{View, view_name, view_of}
use Rattle.tpm_step.specs.history.Views.{view_policy, view_protection, view_takes, view_written}
use Rattle.tpm_step.proofs.history.Views.{views_tell}
use Rattle.tpm_step.specs.uses.Alike.{AuthorizeAlike}
use Rattle.tpm_step.proofs.uses.AuthorizeAlike.{authorize_same}

-- Converts the binding in a history's session to the binding of a device's session.
unbound : Bound → Binding
unbound b = record { name = b.name; auth_value = b.auth_value; protection = b.protection }

told : SessionFacts → Session
told f = record {
  kind = f.start.kind;
  hash = f.start.hash;
  symmetric = f.start.symmetric;
  nonce_tpm = f.nonce_tpm;
  key = f.key;
  binding = option_map unbound f.start.bound;
  policy = f.policy;
}

bound_again : (b : Option Binding) → option_map unbound (option_map bound_of b) ≡ b
unfolding unbound
bound_again None = refl
bound_again (Some b) = refl

told_again : (s : Session) → told (session_facts s) ≡ s
unfolding told
told_again s = ap (λ (b : Option Binding). record s { binding = b }) (bound_again s.binding)

all_told : (found : Option Session) → option_map told (option_map session_facts found) ≡ found
all_told None = refl
all_told (Some s) = ap (λ (x : Session). Some x) (told_again s)

same_sessions : (one other : Option Session)
    → option_map session_facts one ≡ option_map session_facts other → one ≡ other
same_sessions one other is = sym (all_told one) ∙ ap (option_map told) is ∙ all_told other

-- ---- authorization values

abbrev is_viewed : View → Bool
is_viewed (OfObject public) = true
is_viewed (OfIndex public) = true
is_viewed (OfHandle handle) = false

viewed_kept : (handle : Handle) (x : Entity) → is_viewed (entity_view handle x) ≡ is_kept x
viewed_kept handle (AnObject object) = refl
viewed_kept handle (AnIndex index) = refl
viewed_kept handle Permanent = refl

kept_viewed : (r : Record) (handle : Handle)
    → is_viewed (view_of r handle) ≡ is_kept (entity_at r handle)
unfolding view_of
kept_viewed r handle = viewed_kept handle (entity_at r handle)

-- An entity that is neither an object nor an index has the authorization value of its permanent
-- handle.
permanent_value : (r : Record) (handle : Handle) (x : Entity) → is_kept x ≡ false
    → entity_auth_value r handle x ≡ permanent_auth_value r handle
permanent_value r handle (AnObject object) none = absurd cc
permanent_value r handle (AnIndex index) none = absurd cc
permanent_value r handle Permanent none = refl

other_value : (r : Record) (handle : Handle) → is_kept (entity_at r handle) ≡ false
    → auth_value_of r handle ≡ permanent_auth_value r handle
unfolding auth_value_of
other_value r handle none = permanent_value r handle (entity_at r handle) none

-- `auth_seen` finds the authorization value of each hierarchy and of lockout.
hierarchy_seen : (r : Record) (a : HierarchyAuth)
    → auth_seen r (auth_handle a) ≡ Some (permanent_auth_value r (auth_handle a))
hierarchy_seen r auth.Owner = refl
hierarchy_seen r _ = refl

module _ (one other : Record) (history : History) (ones : HasAuthValues one history)
    (others : HasAuthValues other history) where
  permanent_same : (h : Handle) → permanent_auth_value one h ≡ permanent_auth_value other h
  permanent_same h = by (hierarchy_auth_of h) refl
    where
      of : (r : Record) → HasAuthValues r history → (a : HierarchyAuth)
          → permanent_auth_value r (auth_handle a) ≡ auth_of history (auth_handle a)
      of r has a = has (auth_handle a) (permanent_auth_value r (auth_handle a)) (hierarchy_seen r a)

      by : (named : Option HierarchyAuth) → hierarchy_auth_of h ≡ named
          → permanent_auth_value one h ≡ permanent_auth_value other h
      by None is =
          ap (λ (found : Option HierarchyAuth). option_map_or
          (hierarchy_auth_value one.fixed.hierarchies) found []) is
          ∙ sym (ap
          (λ (found : Option HierarchyAuth). option_map_or
          (hierarchy_auth_value other.fixed.hierarchies) found []) is)
      by (Some a) is =
          subst (λ (x : Handle). permanent_auth_value one x ≡ permanent_auth_value other x)
          (sym (named_is h a is))
          (of one ones a ∙ sym (of other others a))

  values_same : (h : Handle) → view_of one h ≡ view_of other h
      → auth_value_of one h ≡ auth_value_of other h
  values_same h view = by (is_kept (entity_at one h)) refl
    where
      kept : is_kept (entity_at one h) ≡ is_kept (entity_at other h)
      kept = sym (kept_viewed one h) ∙ ap is_viewed view ∙ kept_viewed other h

      by : (b : Bool) → is_kept (entity_at one h) ≡ b → auth_value_of one h ≡ auth_value_of other h
      by true is =
          ones h (auth_value_of one h) (kept_seen one h is)
          ∙ sym (others h (auth_value_of other h) (kept_seen other h (sym kept ∙ is)))
      by false is = other_value one h is ∙ permanent_same h
          ∙ sym (other_value other h (sym kept ∙ is))

-- ---- two devices with one history

pub authorize_alike : AuthorizeAlike
authorize_alike one other history alike c locality =
    let ones = alike.first in
    let others = alike.second in
    authorize_same one other c locality (record {
      sessions = λ handle. same_sessions (session_at one.sessions handle)
          (session_at other.sessions handle)
          (ones.sessions.live handle ∙ sym (others.sessions.live handle));
      updates = ones.pcrs.updates ∙ sym others.pcrs.updates;
      lockout = alike.lockout;
      names = λ handle. sym (views_tell one handle).name ∙ ap view_name (alike.views handle)
          ∙ (views_tell other handle).name;
      values = λ handle. values_same one other history ones.auth_values others.auth_values handle
          (alike.views handle);
      protection = λ handle. sym (views_tell one handle).protection
          ∙ ap view_protection (alike.views handle) ∙ (views_tell other handle).protection;
      policy = λ handle. sym (views_tell one handle).policy ∙ ap view_policy (alike.views handle)
          ∙ (views_tell other handle).policy;
      written = λ handle. sym (views_tell one handle).written ∙ ap view_written (alike.views handle)
          ∙ (views_tell other handle).written;
      available = λ handle means nv_use. sym ((views_tell one handle).available means nv_use)
          ∙ ap (view_takes means nv_use) (alike.views handle)
          ∙ (views_tell other handle).available means nv_use;
    })
