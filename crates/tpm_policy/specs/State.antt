-- The state of a policy session. TPM 2.0 Library, Part 1, section 19.7 (enhanced authorization):
-- the policy digest, and the values that assertions record, to be compared when the session
-- authorizes a command.
use Rattle.std.specs.Prelude.{ℕ, ◌<◌, ◌≤◌, ◌^◌, IfSome, List, length, Option, None, replicate, Bool}
use Rattle.tpm_mac.specs.Digest.{digest_size}
use Rattle.tpm_mac.specs.declared.algorithm.HashAlg.{HashAlg}
use Rattle.tpm_policy.specs.declared.state.Demand.{Demand}
use Rattle.tpm_policy.specs.declared.state.Demand.TheVariants as demand

-- the state of a policy session. Timeouts, name hashes and physical presence are not supported
pub record Policy : Type 0 where
  -- the policy digest
  pub digest : List ℕ
  -- the PCRs' update counter at the last TPM2_PolicyPCR, or None if there was no TPM2_PolicyPCR
  pub update_count : Option ℕ
  -- the code of the only allowed command, if one is recorded
  pub command : Option ℕ
  -- the cpHash of the only allowed command, if one is recorded
  pub cp_hash : Option (List ℕ)
  -- whether the NV index must be written (true) or unwritten (false), if this is recorded
  pub nv_written : Option Bool
  -- the allowed localities, bit n for locality n
  pub localities : ℕ
  -- what the policy requires in the authorization entry
  pub demand : Demand

-- The conditions that every policy state satisfies: digests are at most 32 bytes long, every number
-- fits its integer type, and only localities 0 to 4 can be allowed.
pub record IsPolicy (policy : Policy) : Type 0 where
  pub digest : length policy.digest ≤ 32
  pub update_count : IfSome policy.update_count (λ count. count < 2 ^ 64)
  pub command : IfSome policy.command (λ number. number < 2 ^ 32)
  pub cp_hash : IfSome policy.cp_hash (λ hash. length hash ≤ 32)
  pub localities : policy.localities ≤ 31

-- the initial policy state of a session: the digest is all zeros, and every command from localities
-- 0 to 4 is allowed
abbrev pub starting : HashAlg → Policy
starting hash = record {
  digest = replicate (digest_size hash) 0;
  update_count = None;
  command = None;
  cp_hash = None;
  nv_written = None;
  localities = 0x1f;
  demand = demand.None;
}
