-- The use of a policy session to authorize a command. TPM 2.0 Library, Part 1, section 19.7, and
-- Part 3, section 5.6 (authorization checks). The order of the checks is a choice of this
-- implementation: the recorded values first, then the digest.
use Rattle.std.specs.Prelude.{ℕ, ◌==◌, ◌&&◌, ◌||◌, not, Bool, false, List, Option, Some, None, is_none, option_map, Result, Ok}
use Rattle.std.specs.Int.{bit_at}
use Rattle.std.specs.Str.{bytes_eq}
use Rattle.tpm_bytes.specs.Reading.{◌>>=◌, refused_if}
use Rattle.tpm_mac.specs.declared.algorithm.HashAlg.{HashAlg}
use Rattle.tpm_types_common.specs.Algorithm.{hash_number}
use Rattle.tpm_types_common.specs.Locality.{locality_number}
use Rattle.tpm_types_common.specs.SessionType.{is_trial}
use Rattle.tpm_types_common.specs.Rc.{entry_fault, plain}
use Rattle.tpm_types_common.specs.declared.rc.Rc.{Rc}
use Rattle.tpm_types_common.specs.declared.rc.ResponseCode.TheVariants as code
use Rattle.tpm_types_common.specs.declared.session_type.SessionType.{SessionType}
use Rattle.tpm_types_common.specs.declared.role.Role.{Role}
use Rattle.tpm_types_common.specs.declared.role.Role.TheVariants as role
use Rattle.tpm_policy.specs.Assertion.{is_other, is_other_hash, is_other_written}
use Rattle.tpm_policy.specs.State.{Policy}
use Rattle.tpm_policy.specs.declared.policy_use.EntityPolicy.{EntityPolicy}
use Rattle.tpm_policy.specs.declared.policy_use.Use.{Use}
use Rattle.tpm_policy.specs.declared.state.Demand.{Demand}

-- the policy of an entity: nameAlg and authPolicy
pub record EntityParts : Type 0 where
  pub hash : HashAlg
  pub digest : List ℕ

-- a use of an entity, which a policy session has to authorize
pub record UseParts : Type 0 where
  -- the number of the authorization entry
  pub entry : ℕ
  -- the type of the session
  pub kind : SessionType
  -- the hash algorithm of the session
  pub hash : HashAlg
  -- whether the entity can be authorized by a policy
  pub available : Bool
  -- the update counter of the PCRs
  pub update_count : ℕ
  -- the command code
  pub command : ℕ
  -- the role of the authorization: USER or ADMIN
  pub role : Role
  -- the cpHash of the command
  pub cp_hash : List ℕ
  -- if the entity is an NV index: whether it has been written
  pub written : Option Bool
  -- the number of the command's locality
  pub locality : ℕ
  -- the policy of the entity, if it has one
  pub entity : Option EntityParts

abbrev pub entity_parts : EntityPolicy → EntityParts
entity_parts policy = record { hash = policy.hash; digest = policy.digest.now }

abbrev pub parts_of : Use → UseParts
parts_of u = record {
  entry = u.entry;
  kind = u.kind;
  hash = u.hash;
  available = u.available;
  update_count = u.update_count;
  command = u.command;
  role = u.role;
  cp_hash = u.cp_hash.now;
  written = u.written;
  locality = locality_number u.locality;
  entity = option_map entity_parts u.entity;
}

-- whether the role is ADMIN, which requires the policy to name the command, but the policy names no
-- command
abbrev pub lacks_command : Role → Option ℕ → Bool
lacks_command role.User command = false
lacks_command role.Admin command = is_none command

-- whether a session's hash algorithm and policy digest are an entity's nameAlg and authPolicy
abbrev pub is_policy_of : HashAlg → List ℕ → Option EntityParts → Bool
is_policy_of hash digest None = false
is_policy_of hash digest (Some entity) =
    hash_number entity.hash == hash_number hash && bytes_eq digest entity.digest

-- the result of checking this use: the first fault, or what the policy demands
unfoldable pub use_passes : Policy → UseParts → Result Demand Rc
use_passes policy u = do
  trial ← refused_if (is_trial u.kind) (entry_fault u.entry code.Attributes)
  available ← refused_if (not u.available) (plain code.AuthUnavailable)
  counter ← refused_if (is_other policy.update_count u.update_count) (plain code.PcrChanged)
  command ← refused_if (is_other policy.command u.command) (entry_fault u.entry code.PolicyCc)
  call ← refused_if (lacks_command u.role policy.command || is_other_hash policy.cp_hash u.cp_hash)
      (entry_fault u.entry code.PolicyFail)
  written ← refused_if (is_other_written policy.nv_written u.written)
      (entry_fault u.entry code.PolicyFail)
  locality ← refused_if (bit_at policy.localities u.locality == 0) (plain code.Locality)
  digest ← refused_if (not (is_policy_of u.hash policy.digest u.entity))
      (entry_fault u.entry code.PolicyFail)
  Ok policy.demand
