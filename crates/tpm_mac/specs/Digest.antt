-- Digests of whole messages, as defined by the hash crates (FIPS 180-4). A message is a list of
-- bytes.
use Rattle.std.specs.Prelude.{ℕ, List}
use Rattle.std.specs.Borrow.{Bor}
use Rattle.std.specs.List.{flat_map}
use Rattle.sha1.specs.Sha1.{sha1}
use Rattle.sha2.specs.Sha256.{sha256}
use Rattle.tpm_mac.specs.declared.algorithm.HashAlg.{HashAlg}
use Rattle.tpm_mac.specs.declared.algorithm.HashAlg.TheVariants.{Sha1, Sha256}

-- the digest of a message (FIPS 180-4, 6.1 and 6.2)
abbrev pub hash_of : HashAlg → List ℕ → List ℕ
hash_of Sha1 message = sha1 message
hash_of Sha256 message = sha256 message

-- the size of a digest in bytes (FIPS 180-4, 1, figure 1)
abbrev pub digest_size : HashAlg → ℕ
digest_size Sha1 = 20
digest_size Sha256 = 32

-- the concatenation of the parts, in order
abbrev pub joined_text : List (Bor (List ℕ)) → List ℕ
joined_text parts = flat_map (λ part. part.now) parts
