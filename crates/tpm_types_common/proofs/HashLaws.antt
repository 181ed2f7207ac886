-- A read returns a hash algorithm exactly when the input starts with its encoding.
use Rattle.std.proofs.Common.{◌≡◌, ℕ, List, ◌++◌, Ok}
use Rattle.std.specs.Int.{w16, to_be_bytes}
use Rattle.tpm_bytes.proofs.Fields.{AreBytes, Takes}
use Rattle.tpm_mac.specs.declared.algorithm.HashAlg.{HashAlg}
use Rattle.tpm_types_common.specs.declared.rc.ResponseCode.TheVariants as code
use Rattle.tpm_types_common.specs.Algorithm.{hash_at, hash_named, hash_number, hash_or_null_at, hash_or_null_named, hash_or_null_number}
use Rattle.tpm_types_common.proofs.Named.{hash_named-again, hash_named-is, hash_number-small, hash_or_null_named-again, hash_or_null_named-is, hash_or_null_number-small, named_spelled}
use Rattle.tpm_types_common.proofs.Spelled.{Spelled}

pub hash_spelled : Spelled (λ hash. to_be_bytes w16 (hash_number hash)) (λ hash. Unit {0}) hash_at
unfolding hash_at
hash_spelled = named_spelled hash_number hash_named code.Hash hash_named-is hash_named-again
    hash_number-small

pub hash_takes : (bytes : List ℕ) (x : HashAlg × List ℕ) → AreBytes bytes → hash_at bytes ≡ Ok x
    → Takes bytes (to_be_bytes w16 (hash_number x.0)) x.1
hash_takes bytes x fits e = (hash_spelled.taken bytes x fits e).0

pub hash_again : (hash : HashAlg) (rest : List ℕ)
    → hash_at (to_be_bytes w16 (hash_number hash) ++ rest) ≡ Ok (hash, rest)
hash_again hash rest = hash_spelled.again hash rest tt

-- ---- hash algorithms or NULL

pub hash_or_null_spelled : Spelled (λ hash. to_be_bytes w16 (hash_or_null_number hash))
    (λ hash. Unit {0}) hash_or_null_at
unfolding hash_or_null_at
hash_or_null_spelled = named_spelled hash_or_null_number hash_or_null_named code.Hash
    hash_or_null_named-is hash_or_null_named-again hash_or_null_number-small
