-- How NV indices are stored in memory, which the standard leaves open. A head is an index without
-- its data. The heads are keyed by handle, and the data of all indices is in one area, in order of
-- handle. Each index occupies as many bytes as its head says, even before the first write.
use Rattle.tpm_types_common.specs.Limits.{nv_index_limit, nv_space_limit}
use Rattle.std.specs.Prelude.{◌≡◌, ℕ, ◌+◌, ◌≤◌, nat_le, Bool, true, List, [], ◌∷◌, ◌++◌, length, take, drop, Some, if◌then◌else◌, map}
use Rattle.tpm_containers.specs.SortedMap.{Ascends, Entries}
use Rattle.tpm_types_common.specs.AuthValue.{IsAuthValue}
use Rattle.tpm_types_common.specs.declared.handle.Handle.{Handle}
use Rattle.tpm_types_nv.specs.NvAttributes.{has}
use Rattle.tpm_types_nv.specs.NvPublic.{IsNvPublic}
use Rattle.tpm_types_nv.specs.declared.nv_attributes.NvAttribute.TheVariants as attribute
use Rattle.tpm_types_nv.specs.declared.nv_attributes.NvAttributes.{NvAttributes}
use Rattle.tpm_nv.specs.Clear.{is_by_platform}
use Rattle.tpm_nv.specs.Definition.{has_type_size}
use Rattle.tpm_nv.specs.Index.{NvContents, NvIndex, index_at}
use Rattle.tpm_nv.specs.Startup.{started_attributes}
use Rattle.tpm_nv.specs.declared.head.Head.{Head}

-- an index without its data
abbrev pub head_of : NvIndex → Head
head_of index = record { public = index.public; auth_value = index.auth_value }

-- the heads of all indices, keyed by handle
abbrev pub heads_of : NvContents → Entries Head
heads_of contents = map (λ e. (e.0, head_of e.1)) contents.indices

-- the index with this head and these bytes; if WRITTEN is set, the bytes are its data
abbrev pub index_with : Head → List ℕ → NvIndex
index_with head bytes = record {
  public = head.public;
  auth_value = head.auth_value;
  bytes = if has head.public.attributes attribute.Written then bytes else [];
}

-- the size of an index's data, even before the index is written
abbrev pub size_of : Head → ℕ
size_of head = head.public.data_size

-- the indices that these heads and this area represent
abbrev pub indices_of : Entries Head → List ℕ → Entries NvIndex
indices_of [] area = []
indices_of (e ∷ es) area =
    (e.0, index_with e.1 (take (size_of e.1) area)) ∷ indices_of es (drop (size_of e.1) area)

-- the number of bytes that the indices with these heads occupy
abbrev pub total : Entries Head → ℕ
total [] = 0
total (e ∷ es) = size_of e.1 + total es

-- the number of bytes that the indices with keys below this key occupy
abbrev pub start_of : Entries Head → ℕ → ℕ
start_of [] key = 0
start_of (e ∷ es) key = if nat_le key e.0 then 0 else size_of e.1 + start_of es key

-- the offset of an index's bytes in the area of all indices
abbrev pub start_in : NvContents → Handle → ℕ
start_in contents handle = start_of (heads_of contents) handle.number

-- A valid head: its key is its handle, its public area can be encoded, its type allows its size,
-- and its authorization value can be stored.
pub record IsHead (key : ℕ) (head : Head) : Type 0 where
  pub named : key ≡ head.public.nv_index.number
  pub public : IsNvPublic head.public
  pub sized : has_type_size head.public ≡ true
  pub auth_value : IsAuthValue head.auth_value

abbrev pub AreHeads : Entries Head → Type 0
AreHeads [] = Unit {0}
AreHeads (e ∷ es) = IsHead e.0 e.1 × AreHeads es

-- The heads are valid, sorted by key and within the limits, and the area is as long as the sum of
-- the sizes in the heads.
pub record AreKept (heads : Entries Head) (area : List ℕ) : Type 0 where
  pub ascends : Ascends heads
  pub few : length heads ≤ nv_index_limit
  pub whole : length area ≡ total heads
  pub small : total heads ≤ nv_space_limit
  pub each : AreHeads heads

-- a head with these attributes instead of its own
abbrev pub with_attributes : Head → NvAttributes → Head
with_attributes head attributes =
    record head { public = record head.public { attributes = attributes } }

-- The index with this handle has this head and these bytes. The head determines the number of
-- bytes, which the index's type allows. If WRITTEN is set, the bytes are the index's data.
pub record IsIndexOf (contents : NvContents) (handle : Handle) (head : Head) (bytes : List ℕ)
    : Type 0
  where
    pub long : length bytes ≡ size_of head
    pub sized : has_type_size head.public ≡ true
    pub found : index_at contents handle ≡ Some (index_with head bytes)

-- the head of an index after a startup with CLEAR
abbrev pub started_head : Head → Head
started_head head = with_attributes head (started_attributes head.public.attributes)

-- whether TPM2_Clear keeps an index
abbrev pub stays : Head → Bool
stays head = is_by_platform head.public

-- the bytes of an index if TPM2_Clear keeps the index; otherwise the empty list
abbrev pub kept_piece : Head → List ℕ → List ℕ
kept_piece head bytes = if stays head then bytes else []

-- the bytes of the indices that TPM2_Clear keeps
abbrev pub kept_bytes : Entries Head → List ℕ → List ℕ
kept_bytes [] area = []
kept_bytes (e ∷ es) area =
    kept_piece e.1 (take (size_of e.1) area) ++ kept_bytes es (drop (size_of e.1) area)
