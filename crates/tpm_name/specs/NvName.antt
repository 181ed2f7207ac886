-- The Name of an NV index. TPM 2.0 Library, Part 1, section 16 (Names).
use Rattle.std.specs.Prelude.{ℕ, List}
use Rattle.tpm_types_name.specs.Name.{hashed_name}
use Rattle.tpm_types_nv.specs.declared.nv_public.NvPublic.{NvPublic}
use Rattle.tpm_types_nv.specs.NvPublic.{nv_public_text}

-- the Name of an index: its nameAlg, followed by the digest of its public area with that algorithm
unfoldable pub nv_name : NvPublic → List ℕ
nv_name p = hashed_name p.name_alg (nv_public_text p)
