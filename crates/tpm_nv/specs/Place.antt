-- The location of an index in the stored state. Each call looks it up only once.
use Rattle.std.specs.Prelude.{◌≡◌, ℕ, List, IsSomeAnd}
use Rattle.tpm_types_common.specs.declared.handle.Handle.{Handle}
use Rattle.tpm_types_nv.specs.NvAttributes.{has}
use Rattle.tpm_types_nv.specs.declared.nv_attributes.NvAttribute.TheVariants as attribute
use Rattle.tpm_nv.specs.Head.{IsIndexOf, size_of, start_in}
use Rattle.tpm_nv.specs.Index.{NvContents, index_at}
use Rattle.tpm_nv.specs.declared.head.Head.{Head}
use Rattle.tpm_nv.specs.declared.pieces.Piece.{Piece}
use Rattle.tpm_nv.specs.declared.place.Found.{Found}
use Rattle.tpm_nv.specs.declared.place.DataPlace.{DataPlace}

-- the location of an index with this head, whose bytes begin at this offset
abbrev pub place_of : Head → ℕ → DataPlace
place_of head start =
    record { attributes = head.public.attributes; start = start; size = size_of head }

abbrev pub piece_at_place : DataPlace → Piece
piece_at_place place = record {
  start = place.start;
  size = place.size;
  is_written = has place.attributes attribute.Written;
}

-- The code found the head of the index with this handle, and the offset of the index's bytes.
abbrev pub IsFound : NvContents → Handle → Found → Type 0
IsFound contents handle found =
    (old : List ℕ) × IsIndexOf contents handle found.head.now old
    × (found.start ≡ start_in contents handle)

-- An index with this handle exists, and this is its location.
abbrev pub IsPlaceOf : NvContents → Handle → DataPlace → Type 0
IsPlaceOf contents handle place =
    IsSomeAnd (index_at contents handle) (λ index.
    (place.attributes ≡ index.public.attributes) × (place.size ≡ index.public.data_size))
    × (place.start ≡ start_in contents handle)
