-- The hierarchies of an image: decoding returns them exactly when the bytes begin with their
-- encoding.
use Rattle.std.proofs.Common.{◌≡◌, ℕ, ◌≤◌, List, [], ◌∷◌, ◌++◌, length, refl, arith, length-append}
use Rattle.tpm_bytes.specs.Writing.{sized_text}
use Rattle.tpm_types_common.proofs.Spelled.{Spelled, all_read, first, respelled, six_texts, then, two_texts}
use Rattle.tpm_record.specs.Hierarchy.{IsHierarchies, IsHierarchy, IsSecrets}
use Rattle.tpm_record.specs.declared.hierarchy.Hierarchies.{Hierarchies}
use Rattle.tpm_record.specs.declared.hierarchy.Hierarchy.{Hierarchy}
use Rattle.tpm_record.specs.declared.hierarchy.Secrets.{Secrets}
use Rattle.tpm_image_text.specs.Body.{hierarchies_in, hierarchies_text, hierarchy_in, hierarchy_text, secrets_in, secrets_text}
use Rattle.tpm_image_text.proofs.FieldSpelling.{auth_value_spelled, buffer_in_spelled, bytes_spelled, then_always}

-- ---- a hierarchy

abbrev secrets_fields : Secrets → List ℕ × List ℕ
secrets_fields s = (s.seed, s.proof)

abbrev secrets_of : List ℕ × List ℕ → Secrets
secrets_of f = record { seed = f.0; proof = f.1 }

pub secrets_spelled : Spelled secrets_text IsSecrets secrets_in
unfolding secrets_in
secrets_spelled =
    respelled
    (first (bytes_spelled 32)
    (then (bytes_spelled 32) (all_read secrets_fields secrets_of (λ _. refl) (λ _. refl))))
    (λ s. two_texts s.seed s.proof)
    (λ s is. record { seed = is.0; proof = is.1.0 })
    (λ s is. (is.seed, (is.proof, tt)))

abbrev hierarchy_fields : Hierarchy → List ℕ × Secrets
hierarchy_fields h = (h.auth_value, h.secrets)

abbrev hierarchy_of : List ℕ × Secrets → Hierarchy
hierarchy_of f = record { auth_value = f.0; secrets = f.1 }

pub hierarchy_spelled : Spelled hierarchy_text IsHierarchy hierarchy_in
unfolding hierarchy_in
hierarchy_spelled =
    respelled
    (first auth_value_spelled
    (then secrets_spelled (all_read hierarchy_fields hierarchy_of (λ _. refl) (λ _. refl))))
    (λ h. two_texts (sized_text h.auth_value) (secrets_text h.secrets))
    (λ h is. record { auth_value = is.0; secrets = is.1.0 })
    (λ h is. (is.auth_value, (is.secrets, tt)))

-- ---- all hierarchies

abbrev Fields : Type 0
Fields = (((Hierarchy × Hierarchy) × Hierarchy) × Secrets) × List ℕ

abbrev fields_of : Hierarchies → Fields
fields_of h = ((((h.owner, h.endorsement), h.platform), h.null), h.lockout_auth)

abbrev hierarchies_of : Fields → Hierarchies
hierarchies_of f = record {
  owner = f.0.0.0.0;
  endorsement = f.0.0.0.1;
  platform = f.0.0.1;
  null =
      f.0.1;
  lockout_auth = f.1;
}

none_in : (bytes : List ℕ) → length bytes ≤ 0 → bytes ≡ []
none_in [] few = refl
none_in (byte ∷ bytes) few = absurd (omega (arith, few))

pub hierarchies_spelled : Spelled hierarchies_text IsHierarchies hierarchies_in
unfolding hierarchies_in hierarchies_text
hierarchies_spelled =
    let null_auth = then_always [] (omega arith) none_in (buffer_in_spelled 0 (omega arith)) in
    let lockout_auth =
    then auth_value_spelled (all_read fields_of hierarchies_of (λ _. refl) (λ _. refl)) in
    let fields =
    first hierarchy_spelled
    (then hierarchy_spelled
    (then hierarchy_spelled (null_auth (then secrets_spelled lockout_auth)))) in
    respelled fields
    (λ h. six_texts (hierarchy_text h.owner) (hierarchy_text h.endorsement)
    (hierarchy_text h.platform) (sized_text []) (secrets_text h.null)
    (sized_text h.lockout_auth))
    (λ h is. record {
      owner = is.0;
      endorsement = is.1.0;
      platform = is.1.1.0;
      null =
          is.1.1.1.0;
      lockout_auth = is.1.1.1.1.0;
    })
    (λ h is. (is.owner, (is.endorsement, (is.platform, (is.null, (is.lockout_auth, tt))))))

-- ---- the largest size of the encoded hierarchies

secrets_small : (s : Secrets) → IsSecrets s → length (secrets_text s) ≤ 64
secrets_small s is = omega (arith, is.seed, is.proof, length-append s.seed s.proof)

hierarchy_small : (h : Hierarchy) → IsHierarchy h → length (hierarchy_text h) ≤ 98
hierarchy_small h is =
    omega (
      arith,
      is.auth_value.0,
      secrets_small h.secrets is.secrets,
      length-append (sized_text h.auth_value) (secrets_text h.secrets),
    )

pub hierarchies_small : (h : Hierarchies) → IsHierarchies h → length (hierarchies_text h) ≤ 394
unfolding hierarchies_text
hierarchies_small h is =
    let two = hierarchy_text h.owner ++ hierarchy_text h.endorsement in
    let three = two ++ hierarchy_text h.platform in
    let four = three ++ sized_text [] in
    let five = four ++ secrets_text h.null in
    omega (
      arith,
      hierarchy_small h.owner is.owner,
      hierarchy_small h.endorsement is.endorsement,
      hierarchy_small h.platform is.platform,
      secrets_small h.null is.null,
      is.lockout_auth.0,
      length-append (hierarchy_text h.owner) (hierarchy_text h.endorsement),
      length-append two (hierarchy_text h.platform),
      length-append three (sized_text []),
      length-append four (secrets_text h.null),
      length-append five (sized_text h.lockout_auth),
    )
