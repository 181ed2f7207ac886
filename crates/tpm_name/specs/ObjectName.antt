-- The Name of an object. TPM 2.0 Library, Part 1, section 16 (Names).
use Rattle.std.specs.Prelude.{ℕ, List}
use Rattle.tpm_types_name.specs.Name.{hashed_name}
use Rattle.tpm_types_object.specs.declared.public.Public.{Public}
use Rattle.tpm_types_object.specs.Public.{public_text}

-- the Name of an object: its nameAlg, followed by the digest of its public area with that algorithm
unfoldable pub object_name : Public → List ℕ
object_name p = hashed_name p.name_alg (public_text p)
