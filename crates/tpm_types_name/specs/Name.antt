-- The Names of entities. TPM 2.0 Library, Part 1, section 16 (Names), and section 26 (the qualified
-- Name of an object).
use Rattle.std.specs.Prelude.{ℕ, List, ◌++◌}
use Rattle.std.specs.Int.{w16, w32, to_be_bytes}
use Rattle.tpm_mac.specs.declared.algorithm.HashAlg.{HashAlg}
use Rattle.tpm_mac.specs.Digest.{hash_of}
use Rattle.tpm_types_common.specs.declared.handle.Handle.{Handle}
use Rattle.tpm_types_common.specs.Algorithm.{hash_number}

-- the Name of an entity without a public area: its handle
abbrev pub handle_name : Handle → List ℕ
handle_name handle = to_be_bytes w32 handle.number

-- the Name of an entity whose public area has this encoding: a hash algorithm, followed by the
-- digest of the encoding
abbrev pub hashed_name : HashAlg → List ℕ → List ℕ
hashed_name alg text = to_be_bytes w16 (hash_number alg) ++ hash_of alg text

-- the qualified Name of an object: its nameAlg, followed by the digest of two concatenated Names,
-- the parent's qualified Name and the object's own Name. The qualified Name of a hierarchy is its
-- handle
unfoldable pub qualified_name : HashAlg → (parent name : List ℕ) → List ℕ
qualified_name alg parent name = hashed_name alg (parent ++ name)
