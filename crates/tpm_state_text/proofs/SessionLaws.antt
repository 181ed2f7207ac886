-- Decoding returns a session exactly when the bytes begin with its encoding.
use Rattle.std.proofs.Common.{◌≡◌, ℕ, ◌^◌, ◌<◌, ◌≤◌, Bool, List, length, Option, Some, None, IfSome, refl, arith}
use Rattle.std.specs.Int.{w8, w16, w32, w64, to_be_bytes}
use Rattle.std.proofs.lemmas.Bool.{leb-true, le-leb}
use Rattle.tpm_bytes.specs.Writing.{sized_text}
use Rattle.tpm_bytes.proofs.Fields.{wide8, wide32}
use Rattle.tpm_containers.specs.Slots.{AreAll}
use Rattle.tpm_mac.specs.declared.algorithm.HashAlg.{HashAlg}
use Rattle.tpm_policy.specs.State.{IsPolicy, Policy}
use Rattle.tpm_policy.specs.declared.state.Demand.{Demand}
use Rattle.tpm_policy.specs.declared.state.Demand.TheVariants as demand
use Rattle.tpm_session.specs.Session.{IsBinding, IsSession, has_hash_sizes}
use Rattle.tpm_session.specs.declared.session.Binding.{Binding}
use Rattle.tpm_session.specs.declared.session.Protection.{Protection}
use Rattle.tpm_session.specs.declared.session.Protection.TheVariants as protection
use Rattle.tpm_session.specs.declared.session.Session.{Session}
use Rattle.tpm_types_common.specs.Algorithm.{hash_number}
use Rattle.tpm_types_common.specs.Limits.{session_limit}
use Rattle.tpm_types_common.specs.Rc.{plain}
use Rattle.tpm_types_common.specs.SessionType.{session_type_at, type_named, type_number}
use Rattle.tpm_types_common.specs.Symmetric.{symmetric_at, symmetric_text}
use Rattle.tpm_types_common.specs.declared.rc.ResponseCode.TheVariants as code
use Rattle.tpm_types_common.specs.declared.session_type.SessionType.{SessionType}
use Rattle.tpm_types_common.specs.declared.session_type.SessionType.TheVariants as kind
use Rattle.tpm_types_common.specs.declared.symmetric.SymmetricDefinition.{SymmetricDefinition}
use Rattle.tpm_types_common.proofs.HashLaws.{hash_spelled}
use Rattle.tpm_types_common.proofs.Named.{link, none}
use Rattle.tpm_types_common.proofs.Spelled.{Spelled, all_read, first, respelled, seven_texts, takes, then}
use Rattle.tpm_types_common.proofs.SymmetricLaws.{symmetric_again, symmetric_takes}
use Rattle.tpm_image_text.specs.Fields.{malformed_fault, yes_no_text}
use Rattle.tpm_image_text.proofs.FieldSpelling.{auth_value_spelled, buffer_in_spelled, in_body_spelled, names_spelled, number_in_spelled, passing_spelled, three_texts, wide64, yes_no_spelled}
use Rattle.tpm_state_text.specs.Places.{optional_text}
use Rattle.tpm_state_text.specs.Policies.{are_localities, demand_in, demand_named, demand_number, localities_in, policy_in, policy_text}
use Rattle.tpm_state_text.specs.Sessions.{binding_in, binding_text, protection_in, protection_named, protection_number, session_fields_in, session_in, session_text, sessions_in, sessions_text}
use Rattle.tpm_state_text.proofs.PlaceLaws.{optional_spelled, places_spelled}

-- ---- policies

demand_spelled : Spelled (λ one. to_be_bytes w8 (demand_number one)) (λ one. Unit {0}) demand_in
unfolding demand_in
demand_spelled = names_spelled w8 (2 ^ 8) wide8 demand_number demand_named malformed_fault
    malformed_fault is again small
  where
    is : (number : ℕ) (one : Demand) → demand_named number ≡ Some one → number ≡ demand_number one
    is number one =
        link demand_number number demand.None _ one
        λ a. link demand_number number demand.AuthValue _ a
        λ b. link demand_number number demand.Password None b (none demand_number number)

    again : (one : Demand) → demand_named (demand_number one) ≡ Some one
    again demand.None = refl
    again demand.AuthValue = refl
    again demand.Password = refl

    small : (one : Demand) → demand_number one < 2 ^ 8
    small demand.None = omega arith
    small demand.AuthValue = omega arith
    small demand.Password = omega arith

localities_spelled : Spelled (to_be_bytes w8) (λ n. n ≤ 31) localities_in
unfolding localities_in
localities_spelled =
    respelled (passing_spelled are_localities (number_in_spelled w8 (2 ^ 8) wide8)) (λ n. refl)
    (λ n is. leb-true n 31 is.1)
    (λ n few. (omega (arith, few), le-leb n 31 few))

abbrev PolicyFields : Type 0
PolicyFields = (((((List ℕ × Option ℕ) × Option ℕ) × Option (List ℕ)) × Option Bool) × ℕ) × Demand

abbrev policy_fields : Policy → PolicyFields
policy_fields p =
    ((((((p.digest, p.update_count), p.command), p.cp_hash), p.nv_written), p.localities), p.demand)

abbrev policy_of : PolicyFields → Policy
policy_of f = record {
  digest = f.0.0.0.0.0.0;
  update_count = f.0.0.0.0.0.1;
  command =
      f.0.0.0.0.1;
  cp_hash = f.0.0.0.1;
  nv_written = f.0.0.1;
  localities = f.0.1;
  demand = f.1;
}

pub policy_spelled : Spelled policy_text IsPolicy policy_in
unfolding policy_in policy_text
policy_spelled =
    let digest = buffer_in_spelled 32 (omega arith) in
    let count = optional_spelled (number_in_spelled w64 (2 ^ 64) wide64) in
    let command = optional_spelled (number_in_spelled w32 (2 ^ 32) wide32) in
    let last =
    then localities_spelled
    (then demand_spelled (all_read policy_fields policy_of (λ _. refl) (λ _. refl))) in
    respelled
    (first digest
    (then count
    (then command
    (then (optional_spelled digest) (then (optional_spelled yes_no_spelled) last)))))
    (λ p. seven_texts (sized_text p.digest) (optional_text (to_be_bytes w64) p.update_count)
    (optional_text (to_be_bytes w32) p.command) (optional_text sized_text p.cp_hash)
    (optional_text yes_no_text p.nv_written) (to_be_bytes w8 p.localities)
    (to_be_bytes w8 (demand_number p.demand)))
    (λ p is. record {
      digest = is.0;
      update_count = is.1.0;
      command = is.1.1.0;
      cp_hash =
          is.1.1.1.0;
      localities = is.1.1.1.1.1.0;
    })
    (λ p is. (
      is.digest,
      (
        is.update_count,
        (is.command, (is.cp_hash, (any p.nv_written, (is.localities, (tt, tt))))),
      ),
    ))
  where
    any : (value : Option Bool) → IfSome value (λ is_yes. Unit {0})
    any None = tt
    any (Some is_yes) = tt

-- ---- what a session is bound to

protection_spelled : Spelled (λ one. to_be_bytes w8 (protection_number one)) (λ one. Unit {0})
    protection_in
unfolding protection_in
protection_spelled = names_spelled w8 (2 ^ 8) wide8 protection_number protection_named
    malformed_fault malformed_fault is again small
  where
    is : (number : ℕ) (one : Protection) → protection_named number ≡ Some one
        → number ≡ protection_number one
    is number one =
        link protection_number number protection.None _ one
        λ a. link protection_number number protection.Tries _ a
        λ b. link protection_number number protection.Lockout None b (none protection_number number)

    again : (one : Protection) → protection_named (protection_number one) ≡ Some one
    again protection.None = refl
    again protection.Tries = refl
    again protection.Lockout = refl

    small : (one : Protection) → protection_number one < 2 ^ 8
    small protection.None = omega arith
    small protection.Tries = omega arith
    small protection.Lockout = omega arith

abbrev binding_fields : Binding → (List ℕ × List ℕ) × Protection
binding_fields b = ((b.name, b.auth_value), b.protection)

abbrev binding_of : (List ℕ × List ℕ) × Protection → Binding
binding_of f = record { name = f.0.0; auth_value = f.0.1; protection = f.1 }

binding_spelled : Spelled binding_text IsBinding binding_in
unfolding binding_in binding_text
binding_spelled =
    respelled (first (buffer_in_spelled 34 (omega arith))
    (then auth_value_spelled
    (then protection_spelled (all_read binding_fields binding_of (λ _. refl) (λ _. refl)))))
    (λ b. three_texts (sized_text b.name) (sized_text b.auth_value)
    (to_be_bytes w8 (protection_number b.protection)))
    (λ b is. record { name = is.0; auth_value = is.1.0 })
    (λ b is. (is.name, (is.auth_value, (tt, tt))))

-- ---- sessions

type_spelled : Spelled (λ one. to_be_bytes w8 (type_number one)) (λ one. Unit {0}) session_type_at
unfolding session_type_at
type_spelled = names_spelled w8 (2 ^ 8) wide8 type_number type_named (plain code.Insufficient)
    (plain code.Value) is again small
  where
    is : (number : ℕ) (one : SessionType) → type_named number ≡ Some one → number ≡ type_number one
    is number one =
        link type_number number kind.Hmac _ one
        λ a. link type_number number kind.Policy _ a
        λ b. link type_number number kind.Trial None b (none type_number number)

    again : (one : SessionType) → type_named (type_number one) ≡ Some one
    again kind.Hmac = refl
    again kind.Policy = refl
    again kind.Trial = refl

    small : (one : SessionType) → type_number one < 2 ^ 8
    small kind.Hmac = omega arith
    small kind.Policy = omega arith
    small kind.Trial = omega arith

symmetric_spelled : Spelled symmetric_text (λ symmetric. Unit {0}) symmetric_at
symmetric_spelled = record {
  taken =
      λ bytes x fits e. (
        takes bytes (symmetric_text x.0) x.1 fits (symmetric_takes bytes x fits e),
        tt,
      );
  again = λ x rest is. symmetric_again x rest;
}

abbrev SessionFields : Type 0
SessionFields =
    (((((SessionType × HashAlg) × SymmetricDefinition) × List ℕ) × List ℕ) × Option Binding)
    × Policy

abbrev session_fields : Session → SessionFields
session_fields s = ((((((s.kind, s.hash), s.symmetric), s.nonce_tpm), s.key), s.binding), s.policy)

abbrev session_of : SessionFields → Session
session_of f = record {
  kind = f.0.0.0.0.0.0;
  hash = f.0.0.0.0.0.1;
  symmetric =
      f.0.0.0.0.1;
  nonce_tpm = f.0.0.0.1;
  key = f.0.0.1;
  binding = f.0.1;
  policy = f.1;
}

session_spelled : Spelled session_text IsSession session_in
unfolding session_in session_fields_in session_text
session_spelled =
    let last = then (buffer_in_spelled 32 (omega arith))
    (then (optional_spelled binding_spelled)
    (then policy_spelled (all_read session_fields session_of (λ _. refl) (λ _. refl)))) in
    let fields = first (in_body_spelled type_spelled)
    (then (in_body_spelled hash_spelled)
    (then (in_body_spelled symmetric_spelled)
    (then (buffer_in_spelled 32 (omega arith)) last))) in
    respelled (passing_spelled has_hash_sizes fields)
    (λ s. seven_texts (to_be_bytes w8 (type_number s.kind)) (to_be_bytes w16 (hash_number s.hash))
    (symmetric_text s.symmetric) (sized_text s.nonce_tpm) (sized_text s.key)
    (optional_text binding_text s.binding) (policy_text s.policy))
    (λ s is. record {
      sizes = is.1;
      nonce_tpm = is.0.1.1.1.0;
      key = is.0.1.1.1.1.0;
      binding =
          is.0.1.1.1.1.1.0;
      policy = is.0.1.1.1.1.1.1.0;
    })
    (λ s is. ((tt, (tt, (tt, (is.nonce_tpm, (is.key, (is.binding, (is.policy, tt))))))), is.sizes))

pub sessions_spelled : Spelled sessions_text
    (λ sessions. (length sessions ≡ session_limit) × AreAll IsSession sessions) sessions_in
unfolding sessions_in sessions_text
sessions_spelled = places_spelled session_spelled session_limit
