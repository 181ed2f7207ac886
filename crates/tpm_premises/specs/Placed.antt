-- An example of an object that came from a saved context.
use Rattle.std.specs.Prelude.{◌≡◌, [], ◌∷◌, Some}
use Rattle.tpm_mac.specs.declared.algorithm.HashAlg.TheVariants as alg
use Rattle.tpm_object.specs.declared.object.Object.{Object}
use Rattle.tpm_types_common.specs.Handle.{numbered_handle}
use Rattle.tpm_types_common.specs.declared.handle.Handle.{Handle}
use Rattle.tpm_types_common.specs.declared.handle.HierarchyHandle.TheVariants as hierarchy
use Rattle.tpm_types_object.specs.declared.public.KeyedHashScheme.TheVariants as scheme
use Rattle.tpm_types_object.specs.declared.public.PublicParameters.TheVariants as parameters_of
use Rattle.tpm_record.specs.Objects.{object_at}
use Rattle.tpm_record.specs.Record.{manufactured}
use Rattle.tpm_step.specs.history.AuthValues.{auth_of}
use Rattle.tpm_step.specs.step.Events.{IsEvent, Placed}
use Rattle.tpm_step.specs.history.FailedRun.{zeros}
use Rattle.tpm_step.specs.history.History.{ObjectPlaced, extended_history}
use Rattle.tpm_step.specs.step.Placing.{record_with_object}

-- sealed data with the authorization value "a"; its only attributes are fixedTPM and fixedParent
abbrev pub saved_object : Object
saved_object = record {
  hierarchy = hierarchy.Owner;
  public = record {
    name_alg = alg.Sha256;
    attributes = 0x00000012;
    auth_policy = [];
    parameters = parameters_of.KeyedHash scheme.Null;
    unique = [];
  };
  auth_value = 0x61 ∷ [];
  seed_value = [];
  sensitive = 0x62 ∷ [];
  qualified_name = [];
}

-- the first transient handle
abbrev pub first_transient : Handle
first_transient = numbered_handle 0x80000000

-- `saved_object` can be placed on a new device, where it gets the first transient handle. The
-- history then records the object, and determines its authorization value, "a".
pub record IsPlaced : Type 0 where
  pub happens : IsEvent (Placed saved_object)
  pub found : object_at (record_with_object (manufactured zeros) saved_object).objects
      first_transient ≡ Some saved_object
  pub past : extended_history (manufactured zeros) (Placed saved_object) 0 []
      ≡ ObjectPlaced first_transient saved_object ∷ []
  pub auth_value : auth_of (ObjectPlaced first_transient saved_object ∷ []) first_transient
      ≡ 0x61 ∷ []
