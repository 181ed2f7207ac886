-- A disk's key stays secret until its policy is satisfied, unless the hash is broken.
use Rattle.tpm_types_object.specs.ObjectAttributes.{has}
use Rattle.std.proofs.Common.{ap, inl, inr, refl, subst, sym, ◌∙◌}
use Rattle.std.specs.List.{concat, flat_map}
use Rattle.std.specs.Prelude.{Bool, List, [], Some, false, if◌then◌else◌, slice_get, ℕ, ◌≡◌, ◌⊎◌}
use Rattle.tpm_commands.specs.declared.command_code.CommandCode.TheVariants as command
use Rattle.tpm_step.specs.history.View.{OfObject}
use Rattle.tpm_mac.proofs.DigestSize.{length-hash_of}
use Rattle.tpm_mac.specs.Digest.{hash_of}
use Rattle.tpm_mac.specs.declared.algorithm.HashAlg.{HashAlg}
use Rattle.tpm_policy_meaning.proofs.Chains.{is_same_or_not}
use Rattle.tpm_policy_meaning.specs.Expression.{PolicyExpression}
use Rattle.tpm_policy_meaning.specs.Meaning.{BreaksHash, IsMet, IsPolicyExpression}
use Rattle.tpm_policy_meaning.specs.PolicyDigest.{policy_digest}
use Rattle.tpm_step.specs.uses.AssertedBy.{ShowsSecret}
use Rattle.tpm_step.specs.history.Executions.{history_after}
use Rattle.tpm_step.specs.history.History.{AcceptedCommand, History}
use Rattle.tpm_step.specs.history.Pcrs.{digest_in, values_in}
use Rattle.tpm_step.specs.uses.PolicyReviews.{HavePcrValues, IsUsedBySession}
use Rattle.tpm_step.specs.uses.PolicyUses.{HasPcrsNow, IsMetBy, PolicyUse, ShowsAuthValue}
use Rattle.tpm_types_common.proofs.Named.{none}
use Rattle.tpm_types_common.specs.declared.pcr_selection.BankSelection.{BankSelection}
use Rattle.tpm_types_object.specs.declared.public.Public.{Public}
use Rattle.tpm_secrecy.proofs.SealedData.{all_stay, history_followed}
use Rattle.tpm_secrecy.specs.SealedData.{DiskKeyStaysSecret, FollowedDiskKeyStaysSecret, IsDiskKey, OpensDiskKey, ReadsSealed, disk_policy}
use Rattle.tpm_types_object.specs.declared.object_attributes.ObjectAttribute.TheVariants as attribute

module _ (public : Public) (selection : List BankSelection) (values name reference : List ℕ) where
  abbrev policy : PolicyExpression
  policy = disk_policy public.name_alg selection values name reference

  policy_text : IsPolicyExpression public.name_alg policy
  policy_text = (((tt, length-hash_of public.name_alg values), tt), ((tt, tt), tt))

  -- the selected PCRs have the values that the policy requires
  have_values : (history : History) (u : PolicyUse) → u.history ≡ history
      → u.session.hash ≡ public.name_alg → HasPcrsNow u selection (hash_of public.name_alg values)
      → HavePcrValues history public.name_alg selection values
  have_values history u now same met =
      elim (is_same_or_not (concat (flat_map (values_in history) selection)) values) [
        | inl is ↦ inl is
        | inr apart ↦ inr (apart, digest)
      ]
    where
      digest : digest_in history public.name_alg selection ≡ hash_of public.name_alg values
      digest =
          ap (λ (h : History). digest_in h public.name_alg selection) (sym now)
          ∙ ap (λ (a : HashAlg). digest_in u.history a selection) (sym same)
          ∙ met.now

  abbrev Opens : History → PolicyUse → Type 0
  Opens history u = HavePcrValues history public.name_alg selection values × ShowsAuthValue u
      ⊎ ShowsSecret history u.entry.session name reference

  met_opens : (history : History) (u : PolicyUse) → u.history ≡ history
      → u.session.hash ≡ public.name_alg → IsMet (IsMetBy u) policy → Opens history u
  met_opens history u now same (inl met) = inl (have_values history u now same met.0.1, met.1)
  met_opens history u now same (inr (inl met)) =
      inr (subst (λ (h : History). ShowsSecret h u.entry.session name reference) now met.1)
  met_opens history u now same (inr (inr met)) = absurd met

  abbrev Shown : History → AcceptedCommand → Type 0
  Shown history c = IsUsedBySession history c 0 public.name_alg policy (Opens history)

  opens : (history : History) (c : AcceptedCommand)
      → IsUsedBySession history c 0 public.name_alg policy (λ u. IsMet (IsMetBy u) policy)
      → Shown history c
  opens history c by = record {
    handle = by.handle;
    used = by.used;
    entry = by.entry;
    given = by.given;
    session = by.session;
    lives = by.lives;
    kind = by.kind;
    session_hash = by.session_hash;
    holds = either by.holds;
  }
    where
      u : PolicyUse
      u = record {
        history = history;
        command = c;
        place = 0;
        handle = by.handle;
        entry =
            by.entry;
        session = by.session;
      }

      either : IsMet (IsMetBy u) policy ⊎ BreaksHash public.name_alg policy by.session.assertions
          → Opens history u ⊎ BreaksHash public.name_alg policy by.session.assertions
      either (inl met) = inl (met_opens history u refl by.session_hash met)
      either (inr broken) = inr broken

  -- a command that reads the sealed data of an object with this public area reads the disk's key
  reads_public : (p : Public) → p ≡ public → has public.attributes attribute.Sign ≡ false
      → has public.attributes attribute.UserWithAuth ≡ false
      → public.auth_policy ≡ policy_digest public.name_alg policy
      → (history : History) (c : AcceptedCommand) → slice_get c.views 0 ≡ Some (OfObject p)
      → c.command.code ≡ (if has p.attributes attribute.Sign then command.Hmac else command.Unseal)
      → ((policy : PolicyExpression) → has p.attributes attribute.UserWithAuth ≡ false
      → p.auth_policy ≡ policy_digest p.name_alg policy → IsPolicyExpression p.name_alg policy
      → IsUsedBySession history c 0 p.name_alg policy (λ u. IsMet (IsMetBy u) policy))
      → OpensDiskKey public selection values name reference history c
  reads_public p is no_sign no_user_with_auth auth_policy history c viewed code needs = record {
    code =
        subst (λ (p : Public). c.command.code
        ≡ (if has p.attributes attribute.Sign then command.Hmac else command.Unseal)) is code
        ∙ ap (λ (sign : Bool). if sign then command.Hmac else command.Unseal) no_sign;
    viewed = viewed ∙ ap (λ (p : Public). Some (OfObject p)) is;
    by =
        opens history c
        (subst (λ (p : Public). (policy : PolicyExpression)
        → has p.attributes attribute.UserWithAuth ≡ false
        → p.auth_policy ≡ policy_digest p.name_alg policy → IsPolicyExpression p.name_alg policy
        → IsUsedBySession history c 0 p.name_alg policy (λ u. IsMet (IsMetBy u) policy)) is
        needs policy no_user_with_auth auth_policy policy_text);
  }

  pub reading_opens : (objects : Public → Bool)
      → IsDiskKey public objects selection values name reference
      → (history : History) (c : AcceptedCommand) → ReadsSealed objects history c
      → OpensDiskKey public selection values name reference history c
  reading_opens objects key history c reads =
      reads_public reads.public (key.one reads.public reads.secret) key.no_sign
      key.no_user_with_auth key.auth_policy
      history c reads.viewed reads.code reads.policy

pub followed_disk_key_stays_secret : FollowedDiskKeyStaysSecret
followed_disk_key_stays_secret public objects selection values name reference key can old history
    follows executions new led none =
    all_stay objects can (OpensDiskKey public selection values name reference)
    (λ past c reads. reading_opens public selection values name reference objects key past c reads)
    old history follows executions new led none

pub disk_key_stays_secret : DiskKeyStaysSecret
disk_key_stays_secret public objects selection values name reference key can random before old leads
    executions new led none =
    followed_disk_key_stays_secret public objects selection values name reference key can old
    (history_after [] before) (history_followed can random before old leads) executions new led
    none
