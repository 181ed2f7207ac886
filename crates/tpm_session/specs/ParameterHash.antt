-- The hash of a command's parameters, and the hash of a response's parameters. TPM 2.0 Library,
-- Part 1, sections 18.7 (cpHash) and 18.8 (rpHash).
use Rattle.std.specs.Prelude.{ℕ, ◌≤◌, List, [], length, ◌++◌}
use Rattle.tpm_session.specs.declared.parameter_hash.HashedParameters as declared
use Rattle.tpm_session.specs.declared.parameter_hash.HashedParameters.TheVariants as hashed
use Rattle.std.specs.List.{flat_map}
use Rattle.std.specs.Int.{w32, to_be_bytes}
use Rattle.tpm_mac.specs.Digest.{hash_of}
use Rattle.tpm_mac.specs.declared.algorithm.HashAlg.{HashAlg}

-- cpHash: H(commandCode || Names of the handles in order || parameters)
unfoldable pub command_hash_of : HashAlg
    → (code : ℕ) (names : List (List ℕ)) (parameters : List ℕ) → List ℕ
command_hash_of hash code names parameters =
    hash_of hash (to_be_bytes w32 code ++ flat_map (λ name. name) names ++ parameters)

-- rpHash: H(responseCode || commandCode || parameters), with the response code of success
unfoldable pub response_hash_of : HashAlg → (code : ℕ) (parameters : List ℕ) → List ℕ
response_hash_of hash code parameters =
    hash_of hash (to_be_bytes w32 0 ++ to_be_bytes w32 code ++ parameters)

-- the data that cpHash or rpHash covers
pub data HashedParts : Type 0 where
  OfCommand : (code : ℕ) (names : List (List ℕ)) (parameters : List ℕ) → HashedParts
  OfResponse : (code : ℕ) (parameters : List ℕ) → HashedParts

abbrev pub hashed_parts : declared.HashedParameters → HashedParts
hashed_parts (hashed.Command code names parameters) = OfCommand code names.now parameters.now
hashed_parts (hashed.Response code parameters) = OfResponse code parameters.now

-- cpHash of a command, or rpHash of a successful response
abbrev pub parameter_hash_of : HashAlg → HashedParts → List ℕ
parameter_hash_of hash (OfCommand code names parameters) = command_hash_of hash code names parameters
parameter_hash_of hash (OfResponse code parameters) = response_hash_of hash code parameters

abbrev pub hashed_names : HashedParts → List (List ℕ)
hashed_names (OfCommand code names parameters) = names
hashed_names (OfResponse code parameters) = []

-- There are at most three Names, because a command has at most three handles.
abbrev pub HasFewNames : HashedParts → Type 0
HasFewNames parts = length (hashed_names parts) ≤ 3
