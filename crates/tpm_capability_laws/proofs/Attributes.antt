-- Each bit of an attribute field says what it stands for: checked for all values of the truth values
-- of which the field is made.
use Rattle.std.proofs.Common.{◌≡◌, ℕ, ◌+◌, Bool, true, false, cond, not, ◌&&◌, ◌==◌, refl}
use Rattle.tpm_lockout.specs.Tries.{is_locked}
use Rattle.tpm_record.specs.declared.fixed.Fixed.{Fixed}
use Rattle.tpm_actions_capability.specs.Properties.{attribute_if, complete_elements, count_elements, identity_elements, is_set, limit_elements, permanent_attributes, startup_attributes}
use Rattle.tpm_capability_laws.specs.Attributes.{PermanentSays, SaysPermanent, SaysStartup, StartupSays, bit}

parts : (x y : Bool) → (x && y) ≡ true → (x ≡ true) × (y ≡ true)
parts true y is = (refl, is)
parts false y is = absurd cc

-- a test of both truth values
abbrev both : (Bool → Bool) → Bool
both p = p true && p false

each : (p : Bool → Bool) → both p ≡ true → (b : Bool) → p b ≡ true
each p is true = (parts (p true) (p false) is).0
each p is false = (parts (p true) (p false) is).1

-- whether two truth values are equal
abbrev agree : (x y : Bool) → Bool
agree true y = y
agree false y = not y

agreed : (x y : Bool) → agree x y ≡ true → x ≡ y
agreed true true is = refl
agreed true false is = absurd cc
agreed false true is = absurd cc
agreed false false is = refl

-- ---- TPMA_PERMANENT

abbrev permanent : (owner endorsement lockout disabled locked : Bool) → ℕ
permanent owner endorsement lockout disabled locked =
    attribute_if owner 1 + attribute_if endorsement 2 + attribute_if lockout 4
    + attribute_if disabled 0x100
    + attribute_if locked 0x200
    + 0x400

abbrev says : (owner endorsement lockout disabled locked : Bool) → Bool
says owner endorsement lockout disabled locked =
    let field : ℕ = permanent owner endorsement lockout disabled locked in
    agree (bit 0 field) owner
    && (agree (bit 1 field) endorsement
    && (agree (bit 2 field) lockout
    && (agree (bit 8 field) disabled && (agree (bit 9 field) locked && bit 10 field))))

all_say : (owner endorsement lockout disabled locked : Bool)
    → says owner endorsement lockout disabled locked ≡ true
all_say a b c d e =
    each (λ e. says a b c d e)
    (each (λ d. both (λ e. says a b c d e))
    (each (λ c. both (λ d. both (λ e. says a b c d e)))
    (each (λ b. both (λ c. both (λ d. both (λ e. says a b c d e))))
    (each (λ a. both (λ b. both (λ c. both (λ d. both (λ e. says a b c d e))))) refl a) b) c) d) e

permanent_is : (f : Fixed) → SaysPermanent f (permanent_attributes f)
permanent_is f =
    let owner : Bool = is_set f.hierarchies.owner.auth_value in
    let endorsement : Bool = is_set f.hierarchies.endorsement.auth_value in
    let lockout : Bool = is_set f.hierarchies.lockout_auth in
    let disabled : Bool = f.disable_clear in
    let locked : Bool = is_locked f.lockout.fields in
    let field : ℕ = permanent owner endorsement lockout disabled locked in
    let first = parts (agree (bit 0 field) owner) _
    (all_say owner endorsement lockout disabled locked) in
    let second = parts (agree (bit 1 field) endorsement) _ first.1 in
    let third = parts (agree (bit 2 field) lockout) _ second.1 in
    let fourth = parts (agree (bit 8 field) disabled) _ third.1 in
    let fifth = parts (agree (bit 9 field) locked) (bit 10 field) fourth.1 in
    record {
      owner = agreed (bit 0 field) owner first.0;
      endorsement = agreed (bit 1 field) endorsement second.0;
      lockout = agreed (bit 2 field) lockout third.0;
      disable_clear = agreed (bit 8 field) disabled fourth.0;
      in_lockout = agreed (bit 9 field) locked fifth.0;
      generated = fifth.1;
    }

pub permanent_says : PermanentSays
unfolding complete_elements identity_elements limit_elements count_elements
permanent_says r = (permanent_attributes r.fixed, refl, permanent_is r.fixed)

-- ---- TPMA_STARTUP_CLEAR

orderly_is : (b : Bool) → bit 31 (0xf + attribute_if b 0x8000_0000) ≡ b
orderly_is true = refl
orderly_is false = refl

enabled : (b : Bool) → (bit 0 (0xf + attribute_if b 0x8000_0000)
    && (bit 1 (0xf + attribute_if b 0x8000_0000)
    && (bit 2 (0xf + attribute_if b 0x8000_0000) && bit 3 (0xf + attribute_if b 0x8000_0000))))
    ≡ true
enabled true = refl
enabled false = refl

startup_is : (f : Fixed) → SaysStartup f (startup_attributes f)
startup_is f =
    let b : Bool = not (f.restart_count == 0) in
    let first = parts _ _ (enabled b) in
    let second = parts _ _ first.1 in
    let third = parts _ _ second.1 in
    record {
      platform = first.0;
      storage = second.0;
      endorsement = third.0;
      platform_nv = third.1;
      orderly = orderly_is b;
    }

pub startup_says : StartupSays
unfolding complete_elements identity_elements limit_elements count_elements
startup_says r = (startup_attributes r.fixed, refl, startup_is r.fixed)
