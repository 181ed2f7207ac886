-- The NV indices of a device: a map keyed by handle, in ascending order of handle, and the largest
-- value that any counter has ever had. TPM 2.0 Library, Part 1, section 37 (non-volatile memory),
-- and Part 3, section 31 (non-volatile storage).
use Rattle.tpm_types_common.specs.Limits.{nv_index_limit, nv_space_limit}
use Rattle.std.specs.Prelude.{ℕ, ◌+◌, ◌&&◌, nat_lt, nat_le, Bool, List, [], length, Option}
use Rattle.std.specs.List.{sum_by}
use Rattle.tpm_containers.specs.SortedMap.{Entries, at_key, changed_key, key_from, with_key, without_key}
use Rattle.tpm_types_common.specs.declared.handle.Handle.{Handle}
use Rattle.tpm_types_nv.specs.declared.nv_public.NvPublic.{NvPublic}

-- an index: its public area, its authorization value, and its data, which is empty before the
-- first write
pub record NvIndex : Type 0 where
  pub public : NvPublic
  pub auth_value : List ℕ
  pub bytes : List ℕ

-- all indices by handle, and the largest value that any counter has ever had
pub record NvContents : Type 0 where
  pub indices : Entries NvIndex
  pub max_count : ℕ

abbrev pub no_indices : NvContents
no_indices = record { indices = []; max_count = 0 }

-- the index with this handle, or None
abbrev pub index_at : NvContents → Handle → Option NvIndex
index_at contents handle = at_key contents.indices handle.number

-- the contents after an index was added
abbrev pub with_index : NvContents → Handle → NvIndex → NvContents
with_index contents handle index =
    record contents { indices = with_key contents.indices handle.number index }

-- the contents after an index was replaced
abbrev pub changed_index : NvContents → Handle → NvIndex → NvContents
changed_index contents handle index =
    record contents { indices = changed_key contents.indices handle.number index }

-- the contents after an index was removed
abbrev pub without_index : NvContents → Handle → NvContents
without_index contents handle =
    record contents { indices = without_key contents.indices handle.number }

-- the lowest handle of an index at or above this number
abbrev pub next_index : NvContents → ℕ → Option ℕ
next_index contents number = key_from contents.indices number

-- the number of data bytes reserved for all indices, whether they are written or not
abbrev pub data_bytes : NvContents → ℕ
data_bytes contents = sum_by (λ e. e.1.public.data_size) contents.indices

-- whether there is room for one more index of this size
abbrev pub has_room : NvContents → ℕ → Bool
has_room contents size =
    nat_lt (length contents.indices) nv_index_limit && nat_le (data_bytes contents + size) nv_space_limit
