-- If a session authorizes an accepted command, the session's policy passes the checks of this use.
use Rattle.std.proofs.Common.{◌≡◌, ◌≢◌, ℕ, zero, suc, ◌<◌, arith, Bool, true, false, List, [], Option, Some, None, IfOk, refl, ap, subst}
use Rattle.std.specs.Prelude.{◌==◌, ◌&&◌, ◌||◌, not, IfSome}
use Rattle.std.specs.Int.{bit_at}
use Rattle.std.specs.Str.{bytes_eq}
use Rattle.std.proofs.lemmas.Bool.{eqb-true, not-false}
use Rattle.std.proofs.lemmas.Nat.Bits.{bit_at-lt}
use Rattle.std.proofs.lemmas.Slice.Eq.{bytes_eq-Decides}
use Rattle.tpm_bytes.specs.Reading.{refused_if}
use Rattle.tpm_bytes.proofs.Fields.{passed}
use Rattle.tpm_mac.specs.declared.algorithm.HashAlg.{HashAlg}
use Rattle.tpm_mac.specs.declared.algorithm.HashAlg.TheVariants as alg
use Rattle.tpm_policy.specs.Assertion.{is_other, is_other_hash, is_other_written}
use Rattle.tpm_policy.specs.State.{Policy}
use Rattle.tpm_policy.specs.Use.{EntityParts, UseParts, is_policy_of, lacks_command, use_passes}
use Rattle.tpm_policy.specs.declared.state.Demand.{Demand}
use Rattle.tpm_types_common.specs.Algorithm.{hash_number}
use Rattle.tpm_types_common.specs.Rc.{entry_fault, plain}
use Rattle.tpm_types_common.specs.SessionType.{is_trial}
use Rattle.tpm_types_common.specs.declared.nv_use.NvUse.{NvUse}
use Rattle.tpm_types_common.specs.declared.nv_use.NvUse.TheVariants as does
use Rattle.tpm_types_common.specs.declared.rc.ResponseCode.TheVariants as code
use Rattle.tpm_types_common.specs.declared.role.Role.{Role}
use Rattle.tpm_types_common.specs.declared.role.Role.TheVariants as role
use Rattle.tpm_record.specs.declared.entity.Means.TheVariants as means
use Rattle.tpm_step.proofs.rows.Binding.{asked, ok_bind_is}
use Rattle.tpm_step.specs.uses.Grounds.{IsPolicyOf, NamesCommand}
use Rattle.tpm_step.specs.history.Sessions.{LiveSession, policy_in}
use Rattle.tpm_step.specs.history.View.{OfHandle, OfIndex, OfObject, View}
use Rattle.tpm_step.specs.history.Views.{is_policy, view_policy, view_takes}

-- ---- the checks that a use passes

pub record Passes (policy : Policy) (u : UseParts) (demand : Demand) : Type 0 where
  pub trial : is_trial u.kind ≡ false
  pub available : u.available ≡ true
  pub counter : is_other policy.update_count u.update_count ≡ false
  pub command : is_other policy.command u.command ≡ false
  pub call : (lacks_command u.role policy.command || is_other_hash policy.cp_hash u.cp_hash) ≡ false
  pub written : is_other_written policy.nv_written u.written ≡ false
  pub locality : (bit_at policy.localities u.locality == 0) ≡ false
  pub digest : is_policy_of u.hash policy.digest u.entity ≡ true
  pub demanded : demand ≡ policy.demand

pub use_passed : (policy : Policy) (u : UseParts) → IfOk (use_passes policy u) (Passes policy u)
unfolding use_passes
use_passed policy u =
    ok_bind_is _ (refused_if (is_trial u.kind) (entry_fault u.entry code.Attributes)) _ (λ a trial.
    ok_bind_is _ (refused_if (not u.available) (plain code.AuthUnavailable)) _ (λ b available.
    ok_bind_is _ (refused_if (is_other policy.update_count u.update_count) (plain code.PcrChanged))
    _ (λ d counter.
    ok_bind_is _ (refused_if (is_other policy.command u.command)
    (entry_fault u.entry code.PolicyCc)) _ (λ f command.
    ok_bind_is _
    (refused_if (lacks_command u.role policy.command || is_other_hash policy.cp_hash u.cp_hash)
    (entry_fault u.entry code.PolicyFail)) _ (λ g call.
    ok_bind_is _ (refused_if (is_other_written policy.nv_written u.written)
    (entry_fault u.entry code.PolicyFail)) _ (λ m written.
    ok_bind_is _ (refused_if (bit_at policy.localities u.locality == 0) (plain code.Locality)) _
    (λ h locality.
    ok_bind_is _ (refused_if (not (is_policy_of u.hash policy.digest u.entity))
    (entry_fault u.entry code.PolicyFail)) _ (λ k digest.
    record {
      trial = passed _ _ a trial;
      available = asked _ _ b available;
      counter = passed _ _ d counter;
      command = passed _ _ f command;
      call = passed _ _ g call;
      written = passed _ _ m written;
      locality = passed _ _ h locality;
      digest = asked _ _ k digest;
      demanded = refl;
    }))))))))

-- ---- consequences of passing the checks of a use

pub recorded_is : (recorded : Option ℕ) (number : ℕ) → is_other recorded number ≡ false
    → IfSome recorded (λ n. n ≡ number)
recorded_is None number is = tt
recorded_is (Some n) number is = eqb-true n number (not-false (n == number) is)

pub recorded_hash : (recorded : Option (List ℕ)) (hash : List ℕ)
    → is_other_hash recorded hash ≡ false → IfSome recorded (λ h. h ≡ hash)
recorded_hash None hash is = tt
recorded_hash (Some h) hash is = (bytes_eq-Decides h hash).0 (not-false (bytes_eq h hash) is)

pub recorded_written : (recorded found : Option Bool) → is_other_written recorded found ≡ false
    → IfSome recorded (λ is_written. found ≡ Some is_written)
recorded_written None found is = tt
recorded_written (Some true) None is = absurd cc
recorded_written (Some false) None is = absurd cc
recorded_written (Some true) (Some true) is = refl
recorded_written (Some true) (Some false) is = absurd cc
recorded_written (Some false) (Some true) is = absurd cc
recorded_written (Some false) (Some false) is = refl

pub names_command : (r : Role) (command : Option ℕ) → lacks_command r command ≡ false
    → NamesCommand r command
names_command role.User command is = tt
names_command role.Admin None is = absurd cc
names_command role.Admin (Some number) is = refl

pub one_bit : (n i : ℕ) → (bit_at n i == 0) ≡ false → bit_at n i ≡ 1
one_bit n i is = by (bit_at n i) (bit_at-lt n i) is
  where
    by : (b : ℕ) → b < 2 → (b == 0) ≡ false → b ≡ 1
    by zero below is = absurd cc
    by (suc zero) below is = refl
    by (suc (suc b)) below is = absurd (omega (arith, below))

-- ---- the policy of an entity

pub hash_one : (a b : HashAlg) → (hash_number a == hash_number b) ≡ true → a ≡ b
hash_one alg.Sha1 alg.Sha1 is = refl
hash_one alg.Sha1 alg.Sha256 is = absurd cc
hash_one alg.Sha256 alg.Sha1 is = absurd cc
hash_one alg.Sha256 alg.Sha256 is = refl

both : (a b : Bool) → (a && b) ≡ true → (a ≡ true) × (b ≡ true)
both true true is = (refl, refl)
both true false is = absurd cc
both false b is = absurd cc

some_policy : (digest : List ℕ) → is_policy digest ≡ true → digest ≢ []
some_policy digest is none =
    absurd (let no : is_policy digest ≡ false = ap is_policy none in let never : ⊥ = cc in never)

-- an entity that accepts policies has an authPolicy that is not empty
pub takes_some : (nv_use : NvUse) (view : View) (entity : EntityParts)
    → view_takes means.Policy nv_use view ≡ true → view_policy view ≡ Some entity
    → entity.digest ≢ []
takes_some nv_use (OfObject public) entity takes is =
    let same : public.auth_policy ≡ entity.digest = cc in
    subst (λ (digest : List ℕ). digest ≢ []) same (some_policy public.auth_policy takes)
takes_some nv_use (OfIndex public) entity takes is =
    let same : public.auth_policy ≡ entity.digest = cc in
    subst (λ (digest : List ℕ). digest ≢ []) same (some_policy public.auth_policy (by nv_use takes))
  where
    by : (nv_use : NvUse) → view_takes means.Policy nv_use (OfIndex public) ≡ true
        → is_policy public.auth_policy ≡ true
    by does.Read takes = (both _ _ takes).1
    by does.Write takes = (both _ _ takes).1
    by does.Administer takes = takes
takes_some nv_use (OfHandle handle) entity takes is = absurd cc

pub is_its_policy : (s : LiveSession) (found : Option EntityParts)
    → ((entity : EntityParts) → found ≡ Some entity → entity.digest ≢ [])
    → is_policy_of s.hash (policy_in s).digest found ≡ true → IsPolicyOf s found
is_its_policy s None some is = absurd cc
is_its_policy s (Some entity) some is =
    let parts = both (hash_number entity.hash == hash_number s.hash)
    (bytes_eq (policy_in s).digest entity.digest) is in (
      hash_one entity.hash s.hash parts.0,
      (bytes_eq-Decides (policy_in s).digest entity.digest).0 parts.1,
      some entity refl,
    )
