-- PCRs, and selections of PCRs. TPM 2.0 Library, Part 2, sections 10.6.1 and 10.6.2: PCR n is bit n
-- mod 8 of octet n div 8. This is also bit n of the little-endian number that the octets encode.
use Rattle.std.specs.Prelude.{◌≡◌, ℕ, ◌≤◌, ◌<◌, ◌^◌, ◌==◌, bit_or, Bool}
use Rattle.std.specs.Prelude.{List, [], ◌∷◌, ◌++◌, take, Option, Some, None}
use Rattle.std.specs.Int.{w32, bit_at, from_le_bytes, to_le_bytes}
use Rattle.tpm_types_common.specs.declared.pcr.PcrIndex.{PcrIndex}

-- The result is the PCR with this number if the number is 0 to 23, and None otherwise.
abbrev pub SomePcr : ℕ → Option PcrIndex → Type 0
SomePcr number (Some pcr) = (number < 24) × (pcr ≡ number)
SomePcr number None = 24 ≤ number

-- the number of a selection: its three octets, followed by a zero octet, are the little-endian
-- encoding of this number
abbrev pub select_of : List ℕ → ℕ
select_of octets = from_le_bytes w32 (octets ++ 0 ∷ [])

-- the three octets of the selection with this number
abbrev pub select_text : ℕ → List ℕ
select_text select = take 3 (to_le_bytes w32 select)

-- whether the selection with this number selects a PCR
abbrev pub is_selected : ℕ → ℕ → Bool
is_selected select pcr = bit_at select pcr == 1

-- the selection with one more PCR
abbrev pub with_pcr : ℕ → ℕ → ℕ
with_pcr select pcr = bit_or select (2 ^ pcr)
