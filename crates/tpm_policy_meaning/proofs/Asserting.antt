-- If an assertion of a policy and an assertion of a session have the same encoding, the session
-- asserted what the policy requires.
use Rattle.std.proofs.Common.{◌≡◌, ◌⊎◌, ◌<◌, ◌^◌, ℕ, Bool, true, false, List, [], ◌∷◌, ◌++◌, take, drop, ◌==◌, Some, refl, ap, sym, ◌∙◌, inl}
use Rattle.std.proofs.lemmas.Bool.{false≢true}
use Rattle.std.proofs.lemmas.Nat.{from_be_bytes-to_be_bytes_2, from_be_bytes-to_be_bytes_4}
use Rattle.std.proofs.lemmas.Option.{same_Some}
use Rattle.std.specs.Int.{w16, w32, from_be_bytes, to_be_bytes}
use Rattle.std.specs.List.{flat_map}
use Rattle.tpm_mac.proofs.DigestSize.{length-hash_of}
use Rattle.tpm_mac.specs.Digest.{hash_of}
use Rattle.tpm_mac.specs.declared.algorithm.HashAlg.{HashAlg}
use Rattle.tpm_policy.specs.Assertion as assertion
use Rattle.tpm_policy.specs.Assertion.{Assertion, NvParts, yes_no_text}
use Rattle.tpm_types_common.specs.Operation.{operation_named, operation_number}
use Rattle.tpm_types_common.specs.PcrSelection.{selection_text}
use Rattle.tpm_types_common.specs.declared.operation.Operation.{Operation}
use Rattle.tpm_types_common.specs.declared.operation.Operation.TheVariants as operation
use Rattle.tpm_policy_meaning.specs.Asserted.{Says, HasWidths, IsAmong, update_by}
use Rattle.tpm_policy_meaning.specs.Expression.{PolicyAssertion, PolicyPcr, PolicyAuthValue, PolicyPassword, PolicyCommandCode, PolicyLocality, PolicyCpHash, PolicyNvWritten, PolicySecret, PolicyNv}
use Rattle.tpm_policy_meaning.specs.Meaning.{IsPolicyAssertion}
use Rattle.tpm_policy_meaning.specs.PolicyDigest.{nv_arguments_text, or_update, update_of, update_text}
use Rattle.tpm_policy_meaning.proofs.Chains.{Breaking, Said, same_backs, same_fronts, same_hashed, unless_broken}
use Rattle.tpm_policy_meaning.proofs.Spelled.{said_of}

-- ---- encodings that determine their values

yes_no_same : (a b : Bool) → yes_no_text a ≡ yes_no_text b → a ≡ b
yes_no_same true true is = refl
yes_no_same false false is = refl
yes_no_same true false is = absurd cc
yes_no_same false true is = absurd cc

operation_in : (one : Operation)
    → operation_named (from_be_bytes w16 (to_be_bytes w16 (operation_number one))) ≡ Some one
operation_in operation.Equal = refl
operation_in _ = refl

operation_same : (a b : Operation) → to_be_bytes w16 (operation_number a)
    ≡ to_be_bytes w16 (operation_number b) → a ≡ b
operation_same a b is =
    same_Some a b (sym (operation_in a)
    ∙ ap (λ (text : List ℕ). operation_named (from_be_bytes w16 text)) is ∙ operation_in b)

number_same_2 : (a b : ℕ) → a < 2 ^ 16 → b < 2 ^ 16 → to_be_bytes w16 a ≡ to_be_bytes w16 b → a ≡ b
number_same_2 a b small less is =
    sym (from_be_bytes-to_be_bytes_2 a small) ∙ ap (from_be_bytes w16) is
    ∙ from_be_bytes-to_be_bytes_2 b less

number_same_4 : (a b : ℕ) → a < 2 ^ 32 → b < 2 ^ 32 → to_be_bytes w32 a ≡ to_be_bytes w32 b → a ≡ b
number_same_4 a b small less is =
    sym (from_be_bytes-to_be_bytes_4 a small) ∙ ap (from_be_bytes w32) is
    ∙ from_be_bytes-to_be_bytes_4 b less

same_octet : (a b : ℕ) (xs ys : List ℕ) → a ∷ xs ≡ b ∷ ys → a ≡ b
same_octet a b xs ys is = cc

abbrev ArgumentsAre : NvParts → (operand : List ℕ) (offset : ℕ) (operation : Operation) → Type 0
ArgumentsAre parts operand offset operation =
    (parts.operand ≡ operand) × (parts.offset ≡ offset) × (parts.operation ≡ operation)

arguments_same : (parts : NvParts) (operand : List ℕ) (offset : ℕ) (operation : Operation)
    → parts.offset < 2 ^ 16 → offset < 2 ^ 16
    → nv_arguments_text operand offset operation
    ≡ nv_arguments_text parts.operand parts.offset parts.operation
    → ArgumentsAre parts operand offset operation
arguments_same parts operand offset operation small less is =
    let outer = same_backs (operand ++ to_be_bytes w16 offset)
    (to_be_bytes w16 (operation_number operation))
    (parts.operand ++ to_be_bytes w16 parts.offset)
    (to_be_bytes w16 (operation_number parts.operation)) refl is in
    let inner = same_backs operand (to_be_bytes w16 offset) parts.operand
    (to_be_bytes w16 parts.offset) refl outer.0 in (
      sym inner.0,
      number_same_2 parts.offset offset small less (sym inner.1),
      operation_same parts.operation operation (sym outer.1),
    )

-- the command code at the start of the bytes
abbrev code_in : List ℕ → ℕ
code_in text = from_be_bytes w32 (take 4 text)

module _ (hash : HashAlg) (Broken : Type 0) (One Other : List ℕ → Type 0)
    (breaking : Breaking hash Broken One Other) where
  nv_asserts : (name operand : List ℕ) (offset : ℕ) (operation : Operation) (parts : NvParts)
      → offset < 2 ^ 16 → parts.offset < 2 ^ 16 → One (nv_arguments_text operand offset operation)
      → Other (nv_arguments_text parts.operand parts.offset parts.operation)
      → hash_of hash (nv_arguments_text operand offset operation) ++ name
      ≡ hash_of hash (nv_arguments_text parts.operand parts.offset parts.operation) ++ parts.name
      → Says (assertion.Nv parts) (PolicyNv name operand offset operation) ⊎ Broken
  nv_asserts name operand offset operation parts small less one other is =
      let ours = nv_arguments_text operand offset operation in
      let theirs = nv_arguments_text parts.operand parts.offset parts.operation in
      let halves = same_fronts (hash_of hash ours) name (hash_of hash theirs) parts.name
      (length-hash_of hash ours ∙ sym (length-hash_of hash theirs)) is in
      unless_broken (same_hashed hash Broken One Other breaking ours theirs one other halves.0)
      (λ same. by halves.1 (arguments_same parts operand offset operation less small same))
    where
      by : name ≡ parts.name → ArgumentsAre parts operand offset operation
          → Says (assertion.Nv parts) (PolicyNv name operand offset operation) ⊎ Broken
      by named are = inl (sym named, are.0, are.1, are.2)

  -- If an assertion of a policy and an assertion of a session have the same encoding and policyRef,
  -- they assert the same condition.
  text_asserts : (written : PolicyAssertion) (one : Assertion) → IsPolicyAssertion hash written
      → HasWidths hash one → ((t : List ℕ) → IsAmong t (update_of hash written).apart → One t)
      → ((t : List ℕ) → IsAmong t (update_by hash one).apart → Other t)
      → update_text (update_of hash written) ≡ update_text (update_by hash one)
      → (update_of hash written).reference ≡ (update_by hash one).reference
      → Says one written ⊎ Broken
  text_asserts (PolicyPcr selection digest) (assertion.Pcr parts) fits widths ours theirs is refs =
      let halves = same_backs (selection_text selection) digest parts.selection parts.digest
      (fits ∙ sym widths) (ap (drop 4) is) in
      inl (sym halves.0, sym halves.1)
  text_asserts PolicyAuthValue assertion.AuthValue fits widths ours theirs is refs = inl tt
  text_asserts PolicyAuthValue assertion.Password fits widths ours theirs is refs = inl tt
  text_asserts PolicyPassword assertion.AuthValue fits widths ours theirs is refs = inl tt
  text_asserts PolicyPassword assertion.Password fits widths ours theirs is refs = inl tt
  text_asserts (PolicyCommandCode number) (assertion.CommandCode profile asserted) fits widths ours theirs
      is refs =
      inl (number_same_4 asserted number widths fits (ap (drop 4) (sym is)))
  text_asserts (PolicyLocality localities) (assertion.Locality asserted) fits widths ours theirs is
      refs =
      inl (same_octet asserted localities [] [] (ap (drop 4) (sym is)))
  text_asserts (PolicyCpHash cp_hash) (assertion.CpHash asserted) fits widths ours theirs is refs =
      inl (ap (drop 4) (sym is))
  text_asserts (PolicyNvWritten is_written) (assertion.NvWritten asserted) fits widths ours theirs
      is refs =
      inl (yes_no_same asserted is_written (ap (drop 4) (sym is)))
  text_asserts (PolicySecret name reference) (assertion.Secret parts) fits widths ours theirs is
      refs =
      inl (ap (drop 4) (sym is), same_Some parts.reference reference (sym refs))
  text_asserts (PolicyNv name operand offset operation) (assertion.Nv parts) fits widths ours theirs
      is refs =
      nv_asserts name operand offset operation parts fits widths (ours _ (inl refl))
      (theirs _ (inl refl)) (ap (drop 4) is)
  text_asserts written one fits widths ours theirs is refs =
      absurd
      (false≢true
      (sym (ap (λ (t : List ℕ). code_in t == code_in (update_text (update_of hash written)))
      is)))

  pub said_asserts : (written : PolicyAssertion) (one : Assertion) → IsPolicyAssertion hash written
      → HasWidths hash one → ((t : List ℕ) → IsAmong t (update_of hash written).apart → One t)
      → ((t : List ℕ) → IsAmong t (update_by hash one).apart → Other t)
      → said_of (update_of hash written) ≡ said_of (update_by hash one) → Says one written ⊎ Broken
  said_asserts written one fits widths ours theirs is =
      text_asserts written one fits widths ours theirs (ap (λ (said : Said). said.1) is)
      (ap (λ (said : Said). said.0) is)

-- ---- TPM2_PolicyOR

-- The assertion is a TPM2_PolicyOR, and the concatenation of its digests equals the concatenation
-- of these digests.
abbrev pub IsOrOf : (digests : List (List ℕ)) → Assertion → Type 0
IsOrOf digests one =
    (given : List (List ℕ)) × (one ≡ assertion.Or given)
    × (flat_map (λ (digest : List ℕ). digest) digests
    ≡ flat_map (λ (digest : List ℕ). digest) given)

or_text : (hash : HashAlg) (digests : List (List ℕ)) (one : Assertion)
    → update_text (or_update digests) ≡ update_text (update_by hash one) → IsOrOf digests one
or_text hash digests (assertion.Or given) is = (given, refl, ap (drop 4) is)
or_text hash digests one is = absurd (false≢true (sym (ap (λ (t : List ℕ). code_in t == 0x171) is)))

pub said_is_or : (hash : HashAlg) (digests : List (List ℕ)) (one : Assertion)
    → said_of (or_update digests) ≡ said_of (update_by hash one) → IsOrOf digests one
said_is_or hash digests one is = or_text hash digests one (ap (λ (said : Said). said.1) is)
