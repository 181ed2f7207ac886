-- What everybody may read about the entity that a handle names. TPM 2.0 Library, Part 1, section 16
-- (Names), and Part 3, sections 12.4 (TPM2_ReadPublic) and 31.6 (TPM2_NV_ReadPublic).
use Rattle.std.specs.Prelude.{ℕ, List, [], slice_get}
use Rattle.std.specs.Option.{option_map_or}
use Rattle.tpm_types_name.specs.Name.{handle_name}
use Rattle.tpm_types_common.specs.declared.handle.Handle.{Handle}
use Rattle.tpm_name.specs.NvName.{nv_name}
use Rattle.tpm_types_nv.specs.declared.nv_public.NvPublic.{NvPublic}
use Rattle.tpm_name.specs.ObjectName.{object_name}
use Rattle.tpm_types_object.specs.declared.public.Public.{Public}
use Rattle.tpm_record.specs.Entity.{AnIndex, AnObject, Entity, Permanent, entity_at}
use Rattle.tpm_record.specs.Record.{Record}

-- what everybody may read about a handle: the public area of an object or of an NV index; for any
-- other handle, the handle itself
pub data View : Type 0 where
  OfObject : (public : Public) → View
  OfIndex : (public : NvPublic) → View
  OfHandle : (handle : Handle) → View

abbrev pub entity_view : Handle → Entity → View
entity_view handle (AnObject object) = OfObject object.public
entity_view handle (AnIndex index) = OfIndex index.public
entity_view handle Permanent = OfHandle handle

unfoldable pub view_of : Record → Handle → View
view_of r handle = entity_view handle (entity_at r handle)

-- the Name of the viewed entity
abbrev pub view_name : View → List ℕ
view_name (OfObject public) = object_name public
view_name (OfIndex public) = nv_name public
view_name (OfHandle handle) = handle_name handle

-- the Name of the entity at this position in these views, counted from 0
abbrev pub name_in : List View → ℕ → List ℕ
name_in views place = option_map_or view_name (slice_get views place) []
