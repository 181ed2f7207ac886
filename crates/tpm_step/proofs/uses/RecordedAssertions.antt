-- A session's policy records each of the session's assertions.
use Rattle.std.proofs.Common.{◌≡◌, ◌≤◌, ℕ, zero, suc, min, arith, Bool, true, false, List, [], ◌∷◌, Option, Some, None, IfSome, refl, ap, sym, ◌∙◌, inl, inr}
use Rattle.std.specs.Prelude.{bit_and, if◌then◌else◌}
use Rattle.std.specs.Int.{bit_at}
use Rattle.std.proofs.lemmas.Nat.Bits.{bit_at-lt, bit_at_and}
use Rattle.tpm_mac.specs.declared.algorithm.HashAlg.{HashAlg}
use Rattle.tpm_policy.specs.Assertion as assertion
use Rattle.tpm_policy.specs.Assertion.{Assertion, auth_value_asserted, password_asserted}
use Rattle.tpm_policy.specs.Made.{policy_with}
use Rattle.tpm_commands.specs.declared.profile.Profile.{Profile}
use Rattle.tpm_policy.specs.State.{Policy}
use Rattle.tpm_policy_meaning.specs.Asserted.{IsAmong, evaluated_policy}
use Rattle.tpm_types_common.specs.Buffer.{is_given}
use Rattle.tpm_step.specs.uses.AcceptedAssertions.{AllFind, Finds}

same_again : {X : Type 0} (recorded : Option X) (x y : X) → recorded ≡ Some x
    → IfSome recorded (λ z. z ≡ y) → Some y ≡ Some x
same_again (Some z) x y is same = ap (λ w. Some w) (sym same) ∙ is
same_again None x y is same = absurd cc

module _ (hash : HashAlg) where
  abbrev made : List Assertion → Policy
  made assertions = evaluated_policy hash false assertions

  pub command_recorded : (profile : Profile) (number : ℕ) (assertions : List Assertion)
      → AllFind hash assertions → IsAmong (assertion.CommandCode profile number) assertions → (made assertions).command ≡ Some number
  unfolding auth_value_asserted password_asserted
  command_recorded profile number [] find among = absurd among
  command_recorded profile number (one ∷ assertions) find (inl same) =
      ap (λ (b : Assertion). (policy_with hash false b (made assertions)).command) (sym same)
  command_recorded profile number (one ∷ assertions) find (inr among) =
      by one find.0.0 (command_recorded profile number assertions find.1 among)
    where
      by : (one : Assertion) → Finds one (made assertions) → (made assertions).command ≡ Some number
          → (policy_with hash false one (made assertions)).command ≡ Some number
      by (assertion.CommandCode other_profile other) found is =
          same_again (made assertions).command number other is found.0
      by (assertion.Pcr parts) found is = is
      by _ found is = is

  pub cp_hash_recorded : (cp_hash : List ℕ) (assertions : List Assertion) → AllFind hash assertions
      → IsAmong (assertion.CpHash cp_hash) assertions → (made assertions).cp_hash ≡ Some cp_hash
  unfolding auth_value_asserted password_asserted
  cp_hash_recorded cp_hash [] find among = absurd among
  cp_hash_recorded cp_hash (one ∷ assertions) find (inl same) =
      ap (λ (b : Assertion). (policy_with hash false b (made assertions)).cp_hash) (sym same)
  cp_hash_recorded cp_hash (one ∷ assertions) find (inr among) =
      by one find.0.0 (cp_hash_recorded cp_hash assertions find.1 among)
    where
      given : (b : Bool) (other : List ℕ) → (made assertions).cp_hash ≡ Some cp_hash
          → (b ≡ true → IfSome (made assertions).cp_hash (λ h. h ≡ other))
          → (if b then Some other else (made assertions).cp_hash) ≡ Some cp_hash
      given true other is found = same_again (made assertions).cp_hash cp_hash other is (found refl)
      given false other is found = is

      by : (one : Assertion) → Finds one (made assertions)
          → (made assertions).cp_hash ≡ Some cp_hash
          → (policy_with hash false one (made assertions)).cp_hash ≡ Some cp_hash
      by (assertion.CpHash other) found is =
          same_again (made assertions).cp_hash cp_hash other is found
      by (assertion.Secret parts) found is = given (is_given parts.cp_hash) parts.cp_hash is found
      by (assertion.Pcr parts) found is = is
      by _ found is = is

  pub written_recorded : (is_written : Bool) (assertions : List Assertion) → AllFind hash assertions
      → IsAmong (assertion.NvWritten is_written) assertions
      → (made assertions).nv_written ≡ Some is_written
  unfolding auth_value_asserted password_asserted
  written_recorded is_written [] find among = absurd among
  written_recorded is_written (one ∷ assertions) find (inl same) =
      ap (λ (b : Assertion). (policy_with hash false b (made assertions)).nv_written) (sym same)
  written_recorded is_written (one ∷ assertions) find (inr among) =
      by one find.0.0 (written_recorded is_written assertions find.1 among)
    where
      again : (recorded : Option Bool) (other : Bool) → recorded ≡ Some is_written
          → IfSome recorded (λ w. Some other ≡ Some w) → Some other ≡ Some is_written
      again (Some w) other is found = found ∙ is
      again None other is found = absurd cc

      by : (one : Assertion) → Finds one (made assertions)
          → (made assertions).nv_written ≡ Some is_written
          → (policy_with hash false one (made assertions)).nv_written ≡ Some is_written
      by (assertion.NvWritten other) found is = again (made assertions).nv_written other is found
      by (assertion.Pcr parts) found is = is
      by _ found is = is

  both_bits : (a b i : ℕ) → bit_at (bit_and a b) i ≡ 1 → (bit_at a i ≡ 1) × (bit_at b i ≡ 1)
  both_bits a b i is = by (bit_at a i) (bit_at b i) (bit_at-lt a i) (bit_at-lt b i)
      (sym (bit_at_and a b i) ∙ is)
    where
      by : (m n : ℕ) → suc m ≤ 2 → suc n ≤ 2 → min m n ≡ 1 → (m ≡ 1) × (n ≡ 1)
      by (suc zero) (suc zero) m2 n2 is = (refl, refl)
      by zero n m2 n2 is = absurd (grind (arith, is))
      by m zero m2 n2 is = absurd (grind (arith, is))
      by (suc (suc m)) n m2 n2 is = absurd (omega (arith, m2))
      by m (suc (suc n)) m2 n2 is = absurd (omega (arith, n2))

  pub locality_allowed : (locality localities : ℕ) (assertions : List Assertion)
      → IsAmong (assertion.Locality localities) assertions
      → bit_at (made assertions).localities locality ≡ 1 → bit_at localities locality ≡ 1
  unfolding auth_value_asserted password_asserted
  locality_allowed locality localities [] among is = absurd among
  locality_allowed locality localities (one ∷ assertions) (inl same) is =
      (both_bits (made assertions).localities localities locality
      (ap (λ (b : Assertion). bit_at (policy_with hash false b (made assertions)).localities
      locality) same ∙ is)).1
  locality_allowed locality localities (one ∷ assertions) (inr among) is =
      locality_allowed locality localities assertions among (by one is)
    where
      by : (one : Assertion) → bit_at (policy_with hash false one (made assertions)).localities
          locality ≡ 1 → bit_at (made assertions).localities locality ≡ 1
      by (assertion.Locality other) is =
          (both_bits (made assertions).localities other locality is).0
      by (assertion.Pcr parts) is = is
      by _ is = is
