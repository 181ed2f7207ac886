-- Suppose that an object has no userWithAuth, and that its policy is a single TPM2_PolicyCpHash.
-- Unless the hash is broken, only commands with that cpHash use the object.
use Rattle.std.proofs.Common.{◌≡◌, ◌⊎◌, ℕ, List, refl, ap, sym, ◌∙◌, inl, inr}
use Rattle.tpm_mac.specs.declared.algorithm.HashAlg.{HashAlg}
use Rattle.tpm_policy_meaning.specs.Expression.{PolicyExpression, Nothing, Then, PolicyCpHash}
use Rattle.tpm_policy_meaning.specs.Meaning.{BreaksHash, IsMet}
use Rattle.tpm_step.specs.uses.EntryHmacs.{cp_hash_in}
use Rattle.tpm_step.specs.history.History.{AcceptedCommand, History}
use Rattle.tpm_step.specs.uses.PolicyReviews.{IsUsedBySession, NeedsItsPolicy, OfEachAccepted}
use Rattle.tpm_step.specs.uses.PolicyUses.{IsMetBy, PolicyUse}
use Rattle.tpm_step.proofs.uses.PolicyReviews.{each_needs_its_policy}
use Rattle.tpm_session_laws.specs.CpHash.{NeedsCpHash}

module _ (history : History) (c : AcceptedCommand) (place : ℕ) (hash : HashAlg)
    (cp_hash : List ℕ) where
  abbrev policy : PolicyExpression
  policy = Then Nothing (PolicyCpHash cp_hash)

  abbrev its_use : IsUsedBySession history c place hash policy (λ u. IsMet (IsMetBy u) policy)
      → PolicyUse
  its_use by = record {
    history = history;
    command = c;
    place = place;
    handle = by.handle;
    entry =
        by.entry;
    session = by.session;
  }

  has_cp_hash : IsUsedBySession history c place hash policy (λ u. IsMet (IsMetBy u) policy)
      → IsUsedBySession history c place hash policy (λ u. cp_hash_in c hash ≡ cp_hash)
  has_cp_hash by = record {
    handle = by.handle;
    used = by.used;
    entry = by.entry;
    given = by.given;
    session = by.session;
    lives = by.lives;
    kind = by.kind;
    session_hash = by.session_hash;
    holds = either by.holds;
  }
    where
      either : IsMet (IsMetBy (its_use by)) policy ⊎ BreaksHash hash policy by.session.assertions
          → (cp_hash_in c hash ≡ cp_hash) ⊎ BreaksHash hash policy by.session.assertions
      either (inl met) = inl (sym (ap (cp_hash_in c) by.session_hash) ∙ met.1)
      either (inr broken) = inr broken

needs_cp_hash : (history : History) (c : AcceptedCommand) → NeedsItsPolicy history c
    → NeedsCpHash history c
needs_cp_hash history c needs place public cp_hash uses is =
    has_cp_hash history c place public.name_alg cp_hash
    (needs place public (Then Nothing (PolicyCpHash cp_hash)) uses is)

pub each_needs_cp_hash : OfEachAccepted NeedsCpHash
each_needs_cp_hash can random executions new leads after c before is =
    needs_cp_hash before c (each_needs_its_policy can random executions new leads after c before is)
