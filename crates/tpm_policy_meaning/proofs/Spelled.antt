-- The assertions of a policy form a chain of steps with the same digest and the same hash inputs as
-- the policy. The same holds for the assertions of a session.
use Rattle.std.proofs.Common.{◌≡◌, ℕ, List, [], ◌∷◌, ◌++◌, append_assoc, Option, Some, None, refl, ap, ◌∙◌, inl, inr}
use Rattle.std.specs.Int.{w32, to_be_bytes}
use Rattle.std.specs.List.{flat_map}
use Rattle.tpm_mac.specs.Digest.{hash_of}
use Rattle.tpm_mac.specs.declared.algorithm.HashAlg.{HashAlg}
use Rattle.tpm_policy.specs.Assertion as assertion
use Rattle.tpm_policy.specs.Assertion.{Assertion, auth_value_asserted, nv_arguments, or_digest, password_asserted, yes_no_text}
use Rattle.tpm_commands.specs.CommandCode.{code_number}
use Rattle.tpm_commands.specs.declared.command_code.CommandCode.{CommandCode}
use Rattle.tpm_commands.specs.declared.command_code.CommandCode.TheVariants as command
use Rattle.tpm_policy_meaning.specs.Asserted.{IsAmong, SessionHashesTexts, digest_before, session_digest, session_texts, update_by}
use Rattle.tpm_policy_meaning.specs.Expression.{PolicyAssertion, PolicySecret, PolicyExpression, Nothing, Then, PolicyOr}
use Rattle.tpm_policy_meaning.specs.PolicyDigest.{PolicyUpdate, branch_digests, digest_after, or_update, policy_digest, policy_texts, texts_after, update_of, update_text, with_reference, zeros}
use Rattle.tpm_policy_meaning.proofs.Chains.{AllFit, Fits, Said, all_steps, among_either, chain, chain_texts, digest_of_steps, texts_of_steps}

abbrev pub said_of : PolicyUpdate → Said
said_of update = (update.reference, update_text update)

-- ---- the steps of a policy

abbrev pub policy_said : HashAlg → PolicyExpression → List Said
policy_said hash Nothing = []
policy_said hash (Then before written) = said_of (update_of hash written) ∷ policy_said hash before
policy_said hash (PolicyOr branches) = said_of (or_update (branch_digests hash branches)) ∷ []

written_fits : (hash : HashAlg) (written : PolicyAssertion)
    → Fits (said_of (update_of hash written))
written_fits hash (PolicySecret name reference) = refl
written_fits hash _ = refl

pub policy_fits : (hash : HashAlg) (policy : PolicyExpression) → AllFit (policy_said hash policy)
policy_fits hash Nothing = tt
policy_fits hash (Then before written) = (written_fits hash written, policy_fits hash before)
policy_fits hash (PolicyOr branches) = (refl, tt)

pub policy_chain : (hash : HashAlg) (policy : PolicyExpression)
    → policy_digest hash policy ≡ chain hash (all_steps (policy_said hash policy))
policy_chain hash Nothing = refl
policy_chain hash (Then before written) =
    let update = update_of hash written in
    digest_of_steps hash update.reference (update_text update) (policy_digest hash before)
    (all_steps (policy_said hash before)) update.apart (policy_texts hash before)
    (policy_chain hash before)
policy_chain hash (PolicyOr branches) = refl

pub policy_chain_texts : (hash : HashAlg) (policy : PolicyExpression) (text : List ℕ)
    → IsAmong text (chain_texts hash (all_steps (policy_said hash policy)))
    → IsAmong text (policy_texts hash policy)
policy_chain_texts hash Nothing text among = absurd among
policy_chain_texts hash (Then before written) text among =
    let update = update_of hash written in
    among_either text (texts_after hash (policy_digest hash before) update)
    (policy_texts hash before)
    (texts_of_steps hash update.reference (update_text update) (policy_digest hash before)
    (all_steps (policy_said hash before)) update.apart (policy_chain hash before) text among)
    (policy_chain_texts hash before text)
policy_chain_texts hash (PolicyOr branches) text (inl is) = inl is
policy_chain_texts hash (PolicyOr branches) text (inr among) = absurd among

-- ---- the steps of a session

-- the earlier assertions that still count after this assertion: all of them, or none after a
-- TPM2_PolicyOR
abbrev pub said_before : Assertion → List Said → List Said
said_before (assertion.Or digests) said = []
said_before _ said = said

abbrev pub session_said : HashAlg → List Assertion → List Said
session_said hash [] = []
session_said hash (latest ∷ earlier) =
    said_of (update_by hash latest) ∷ said_before latest (session_said hash earlier)

asserted_fits : (hash : HashAlg) (one : Assertion) → Fits (said_of (update_by hash one))
asserted_fits hash (assertion.Secret parts) = refl
asserted_fits hash _ = refl

before_fits : (latest : Assertion) (said : List Said) → AllFit said
    → AllFit (said_before latest said)
before_fits (assertion.Or digests) said fit = tt
before_fits _ said fit = fit

pub session_fits : (hash : HashAlg) (assertions : List Assertion)
    → AllFit (session_said hash assertions)
session_fits hash [] = tt
session_fits hash (latest ∷ earlier) = (
  asserted_fits hash latest,
  before_fits latest (session_said hash earlier)
      (session_fits hash earlier),
)

-- The session's digest after an assertion is the hash of the last input that the session hashes for
-- this assertion.
module _ (hash : HashAlg) where
  grouped : (digest : List ℕ) (code : CommandCode) (about : List ℕ)
      → hash_of hash (digest ++ to_be_bytes w32 (code_number code) ++ about)
      ≡ hash_of hash (digest ++ (to_be_bytes w32 (code_number code) ++ about))
  grouped digest code about =
      ap (hash_of hash) (append_assoc digest (to_be_bytes w32 (code_number code)) about)

  pub digest_made : (latest : Assertion) (earlier : List Assertion)
      → session_digest hash (latest ∷ earlier)
      ≡ digest_after hash
      (texts_after hash (digest_before hash latest earlier) (update_by hash latest))
  unfolding or_digest auth_value_asserted password_asserted
  digest_made (assertion.Or digests) earlier =
      grouped (zeros hash) command.PolicyOr (flat_map (λ digest. digest) digests)
  digest_made (assertion.Pcr parts) earlier =
      grouped (session_digest hash earlier) command.PolicyPcr (parts.selection ++ parts.digest)
  digest_made assertion.AuthValue earlier =
      grouped (session_digest hash earlier) command.PolicyAuthValue []
  digest_made assertion.Password earlier =
      grouped (session_digest hash earlier) command.PolicyAuthValue []
  digest_made (assertion.CommandCode profile number) earlier =
      grouped (session_digest hash earlier) command.PolicyCommandCode (to_be_bytes w32 number)
  digest_made (assertion.Locality localities) earlier =
      grouped (session_digest hash earlier) command.PolicyLocality (localities ∷ [])
  digest_made (assertion.CpHash cp_hash) earlier =
      grouped (session_digest hash earlier) command.PolicyCpHash cp_hash
  digest_made (assertion.NvWritten is_written) earlier =
      grouped (session_digest hash earlier) command.PolicyNvWritten (yes_no_text is_written)
  digest_made (assertion.Secret parts) earlier =
      ap (λ (d : List ℕ). hash_of hash (d ++ parts.reference))
      (grouped (session_digest hash earlier) command.PolicySecret parts.name)
  digest_made (assertion.Nv parts) earlier =
      grouped (session_digest hash earlier) command.PolicyNv (nv_arguments hash parts ++ parts.name)

before_chain : (hash : HashAlg) (latest : Assertion) (earlier : List Assertion)
    → session_digest hash earlier ≡ chain hash (all_steps (session_said hash earlier))
    → digest_before hash latest earlier
    ≡ chain hash (all_steps (said_before latest (session_said hash earlier)))
before_chain hash (assertion.Or digests) earlier is = refl
before_chain hash _ earlier is = is

front_digest : (hash : HashAlg) (r : Option (List ℕ)) (text : List ℕ) (apart more : List (List ℕ))
    → digest_after hash (with_reference hash r text ++ apart)
    ≡ digest_after hash (with_reference hash r text ++ apart ++ more)
front_digest hash None text apart more = refl
front_digest hash (Some reference) text apart more = refl

pub session_hashes_texts : SessionHashesTexts
session_hashes_texts hash [] = refl
session_hashes_texts hash (latest ∷ earlier) =
    let update = update_by hash latest in
    digest_made hash latest earlier
    ∙ front_digest hash update.reference (digest_before hash latest earlier ++ update_text update)
    update.apart (session_texts hash earlier)

pub session_chain : (hash : HashAlg) (assertions : List Assertion)
    → session_digest hash assertions ≡ chain hash (all_steps (session_said hash assertions))
session_chain hash [] = refl
session_chain hash (latest ∷ earlier) =
    let update = update_by hash latest in
    session_hashes_texts hash (latest ∷ earlier)
    ∙ digest_of_steps hash update.reference (update_text update) (digest_before hash latest earlier)
    (all_steps (said_before latest (session_said hash earlier))) update.apart
    (session_texts hash earlier) (before_chain hash latest earlier (session_chain hash earlier))

before_texts : (hash : HashAlg) (latest : Assertion) (said : List Said) (text : List ℕ)
    → IsAmong text (chain_texts hash (all_steps (said_before latest said)))
    → IsAmong text (chain_texts hash (all_steps said))
before_texts hash (assertion.Or digests) said text among = absurd among
before_texts hash _ said text among = among

pub session_chain_texts : (hash : HashAlg) (assertions : List Assertion) (text : List ℕ)
    → IsAmong text (chain_texts hash (all_steps (session_said hash assertions)))
    → IsAmong text (session_texts hash assertions)
session_chain_texts hash [] text among = absurd among
session_chain_texts hash (latest ∷ earlier) text among =
    let update = update_by hash latest in
    let digest = digest_before hash latest earlier in
    let said = session_said hash earlier in
    among_either text (texts_after hash digest update) (session_texts hash earlier)
    (texts_of_steps hash update.reference (update_text update) digest
    (all_steps (said_before latest said)) update.apart
    (before_chain hash latest earlier (session_chain hash earlier)) text among)
    (λ elsewhere. session_chain_texts hash earlier text
    (before_texts hash latest said text elsewhere))
