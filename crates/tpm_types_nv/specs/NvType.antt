-- The types of NV indices. TPM 2.0 Library, Part 2, section 13.2 (TPM_NT). PIN indices are not
-- supported.
use Rattle.std.specs.Prelude.{ℕ, ◌==◌, if◌then◌else◌, Option, Some, None}
use Rattle.tpm_types_nv.specs.declared.nv_type.NvType.{NvType}
use Rattle.tpm_types_nv.specs.declared.nv_type.NvType.TheVariants.{Ordinary, Counter, Bits, Extend}

abbrev pub nv_type_number : NvType → ℕ
nv_type_number Ordinary = 0
nv_type_number Counter = 1
nv_type_number Bits = 2
nv_type_number Extend = 4

-- the index type with this number, or None
abbrev pub nv_type_named : ℕ → Option NvType
nv_type_named number =
    if number == 0 then Some Ordinary
    else (if number == 1 then Some Counter
    else (if number == 2 then Some Bits
    else (if number == 4 then Some Extend
    else None)))
