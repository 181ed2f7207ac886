-- What the view of a handle shows about its entity: its Name, its policy, whether WRITTEN is set,
-- its protection against dictionary attacks, and what can authorize it. TPM 2.0 Library, Part 1,
-- sections 16 (Names), 19.2 (roles), 19.7 (policies) and 19.8 (dictionary attacks), and Part 2,
-- section 13.4 (TPMA_NV).
use Rattle.std.specs.Prelude.{◌≡◌, ℕ, ◌==◌, ◌&&◌, not, Bool, true, false, List, length, if◌then◌else◌, Option, Some, None}
use Rattle.tpm_policy.specs.Use.{EntityParts}
use Rattle.tpm_session.specs.declared.session.Protection.{Protection}
use Rattle.tpm_session.specs.declared.session.Protection.TheVariants as protection
use Rattle.tpm_types_common.specs.declared.handle.Handle.{Handle}
use Rattle.tpm_types_common.specs.declared.nv_use.NvUse.{NvUse}
use Rattle.tpm_types_common.specs.declared.nv_use.NvUse.TheVariants as does
use Rattle.tpm_types_nv.specs.NvAttributes.{has as index_has}
use Rattle.tpm_types_nv.specs.declared.nv_attributes.NvAttribute.TheVariants as mark
use Rattle.tpm_types_nv.specs.declared.nv_public.NvPublic.{NvPublic}
use Rattle.tpm_types_object.specs.ObjectAttributes.{has}
use Rattle.tpm_types_object.specs.declared.object_attributes.ObjectAttribute.TheVariants as attribute
use Rattle.tpm_types_object.specs.declared.public.Public.{Public}
use Rattle.tpm_record.specs.Entity.{is_available, name_of, names_kept, permanent_is_available, permanent_protection, policy_of, protection_of, written_of}
use Rattle.tpm_record.specs.Record.{Record}
use Rattle.tpm_record.specs.declared.entity.Means.{Means}
use Rattle.tpm_record.specs.declared.entity.Means.TheVariants as means
use Rattle.tpm_step.specs.history.View.{OfHandle, OfIndex, OfObject, View, view_name}

-- the nameAlg and the authPolicy of an object or an index; no other entity has a policy
abbrev pub view_policy : View → Option EntityParts
view_policy (OfObject public) =
    Some (record { hash = public.name_alg; digest = public.auth_policy })
view_policy (OfIndex public) =
    Some (record { hash = public.name_alg; digest = public.auth_policy })
view_policy (OfHandle handle) = None

-- the protection of an entity against dictionary attacks: an object is protected unless it has
-- noDA, and an index unless it has TPMA_NV_NO_DA. The handle of any other entity determines its
-- protection
abbrev pub view_protection : View → Protection
view_protection (OfObject public) =
    if has public.attributes attribute.NoDa then protection.None else protection.Tries
view_protection (OfIndex public) =
    if index_has public.attributes mark.NoDa then protection.None else protection.Tries
view_protection (OfHandle handle) = permanent_protection handle

-- whether an authPolicy is a policy, that is, not empty
abbrev pub is_policy : List ℕ → Bool
is_policy digest = not (length digest == 0)

-- whether an object accepts this means of authorization: its authValue if it has userWithAuth, or
-- its policy if its authPolicy is not empty
abbrev pub object_takes : Means → Public → Bool
object_takes means.AuthValue public = has public.attributes attribute.UserWithAuth
object_takes means.Policy public = is_policy public.auth_policy

-- whether an NV index accepts this means of authorization for a command that uses it in this way.
-- The authValue needs AUTHREAD for a read, and AUTHWRITE for a write. A policy must not be empty;
-- it needs POLICYREAD for a read, and POLICYWRITE for a write. The role ADMIN accepts only the
-- policy, and needs none of these attributes
abbrev pub index_takes : Means → NvUse → NvPublic → Bool
index_takes means.AuthValue does.Read public = index_has public.attributes mark.AuthRead
index_takes means.AuthValue does.Write public = index_has public.attributes mark.AuthWrite
index_takes means.AuthValue does.Administer public = false
index_takes means.Policy does.Read public =
    index_has public.attributes mark.PolicyRead && is_policy public.auth_policy
index_takes means.Policy does.Write public =
    index_has public.attributes mark.PolicyWrite && is_policy public.auth_policy
index_takes means.Policy does.Administer public = is_policy public.auth_policy

-- whether the viewed entity accepts this means of authorization, for a command that uses it in this
-- way
abbrev pub view_takes : Means → NvUse → View → Bool
view_takes means nv_use (OfObject public) = object_takes means public
view_takes means nv_use (OfIndex public) = index_takes means nv_use public
view_takes means nv_use (OfHandle handle) = permanent_is_available means

-- whether an NV index has WRITTEN set; None for every other entity
abbrev pub view_written : View → Option Bool
view_written (OfIndex public) = Some (index_has public.attributes mark.Written)
view_written other = None

-- whether the viewed entity exists. If a handle has the type of an object or an index but names no
-- entity, its view has no public area
abbrev pub is_there : View → Bool
is_there (OfHandle handle) = not (names_kept handle)
is_there _ = true

-- The view and the record agree about the entity that this handle names: its Name, its policy, its
-- protection, whether WRITTEN is set, and what can authorize it.
pub record TellsOf (view : View) (r : Record) (handle : Handle) : Type 0 where
  pub name : view_name view ≡ name_of r handle
  pub policy : view_policy view ≡ policy_of r handle
  pub protection : view_protection view ≡ protection_of r handle
  pub written : view_written view ≡ written_of r handle
  pub available : (means : Means) (nv_use : NvUse)
      → view_takes means nv_use view ≡ is_available r handle means nv_use
