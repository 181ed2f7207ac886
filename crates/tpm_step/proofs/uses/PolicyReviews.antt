-- What common kinds of policies require when their entity is used.
use Rattle.std.proofs.Common.{◌≡◌, ◌≢◌, ◌⊎◌, ℕ, arith, false, List, [], ◌∷◌, ◌++◌, Option, Some, None, option_and_then, slice_get, refl, ap, sym, subst, ◌∙◌, inl, inr}
use Rattle.std.specs.List.{concat, flat_map}
use Rattle.std.specs.Option.{option_map_or}
use Rattle.std.proofs.lemmas.Bool.{false≢true}
use Rattle.std.proofs.lemmas.Option.{same_Some}
use Rattle.tpm_mac.proofs.DigestSize.{length-hash_of}
use Rattle.tpm_mac.specs.Digest.{hash_of}
use Rattle.tpm_mac.specs.declared.algorithm.HashAlg.{HashAlg}
use Rattle.tpm_policy.specs.Use.{EntityParts}
use Rattle.tpm_policy_meaning.proofs.Chains.{is_same_or_not}
use Rattle.tpm_policy_meaning.specs.Expression.{PolicyExpression, Nothing, Then, PolicyAuthValue, PolicyNvWritten, PolicyNv}
use Rattle.tpm_policy_meaning.specs.Meaning.{BreaksHash, IsMet, IsPolicyExpression}
use Rattle.tpm_policy_meaning.specs.PolicyDigest.{policy_digest}
use Rattle.tpm_types_common.specs.declared.handle.Handle.{Handle}
use Rattle.tpm_types_common.specs.declared.nv_use.NvUse.{NvUse}
use Rattle.tpm_types_common.specs.declared.operation.Operation.TheVariants as operation
use Rattle.tpm_types_common.specs.declared.pcr_selection.BankSelection.{BankSelection}
use Rattle.tpm_types_command.specs.AuthEntry.{Entry}
use Rattle.tpm_commands.specs.CommandCode.{nv_use_at}
use Rattle.tpm_types_nv.specs.NvAttributes.{has as index_has}
use Rattle.tpm_types_nv.specs.declared.nv_attributes.NvAttribute.TheVariants as mark
use Rattle.tpm_types_nv.specs.declared.nv_public.NvPublic.{NvPublic}
use Rattle.tpm_types_object.specs.declared.public.Public.{Public}
use Rattle.tpm_record.specs.declared.entity.Means.TheVariants as means
use Rattle.tpm_step.specs.uses.AssertedBy.{ComparesIndex, ShowsSecret}
use Rattle.tpm_step.specs.uses.EntryHmacs.{used_in}
use Rattle.tpm_step.specs.uses.Grounds.{ByHmac, ByPassword, ByPolicy, Ground, IsPolicyOf, allows, allows_in, policy_at, written_at}
use Rattle.tpm_step.specs.history.History.{AcceptedCommand, Done, History, ObjectPlaced, PowerCycled}
use Rattle.tpm_step.specs.history.Pcrs.{digest_in, values_in}
use Rattle.tpm_step.specs.uses.PolicyReviews.{HavePcrValues, IsUsedBySession, IsWrittenOnce, NeedsCount, NeedsItsPolicy, NeedsPcrs, NeedsPcrsAndPin, NeedsPinOrSecret, OfEachAccepted, UsesObject, WritesIndex, by_pcrs, by_pin_or_secret}
use Rattle.tpm_step.specs.uses.PolicyUses.{AllMeetPolicies, HasAuthPolicy, HasPcrsNow, IsMetBy, MeetsPolicies, PolicyUse, ShowsAuthValue, UsesMeetPolicies}
use Rattle.tpm_step.specs.history.Sessions.{LiveSession}
use Rattle.tpm_step.specs.history.View.{OfIndex, View}
use Rattle.tpm_step.specs.history.Views.{view_policy, view_written}
use Rattle.tpm_step.proofs.history.Following.{policies_manufactured}

-- ---- each accepted command

at_past : (after : History) (c : AcceptedCommand) (before : History)
    → AllMeetPolicies (after ++ Done c ∷ before) → UsesMeetPolicies before c
at_past [] c before meet = meet.0
at_past (Done other ∷ after) c before meet = at_past after c before meet.1
at_past (PowerCycled ∷ after) c before meet = at_past after c before meet
at_past (ObjectPlaced at object ∷ after) c before meet = at_past after c before meet

-- A property that follows from `UsesMeetPolicies` holds for each accepted command.
pub of_each : (Holds : History → AcceptedCommand → Type 0)
    → ((history : History) (c : AcceptedCommand) → UsesMeetPolicies history c → Holds history c)
    → OfEachAccepted Holds
of_each Holds so can random executions new leads after c before is =
    so before c
    (at_past after c before
    (subst AllMeetPolicies is (policies_manufactured can random executions new leads)))

-- ---- entities that only policy sessions authorize

its_hash : (s : LiveSession) (found : Option EntityParts) (hash : HashAlg) (digest : List ℕ)
    → IsPolicyOf s found → found ≡ Some (record { hash = hash; digest = digest }) → s.hash ≡ hash
its_hash s None hash digest its is = absurd cc
its_hash s (Some entity) hash digest its is =
    sym its.0 ∙ ap (λ (x : EntityParts). x.hash)
    (same_Some entity (record { hash = hash; digest = digest }) is)

module _ (history : History) (c : AcceptedCommand) (place : ℕ) (handle : Handle) (hash : HashAlg)
    (policy : PolicyExpression) (used : used_in c.command place ≡ Some handle)
    (not_by_value : allows_in means.AuthValue c place ≡ false)
    (has : HasAuthPolicy c place hash policy) where
  by_ground : (e : Entry) → slice_get c.command.entries place ≡ Some e
      → (ground : Ground history c place e) → MeetsPolicies history c place handle e ground
      → IsUsedBySession history c place hash policy (λ u. IsMet (IsMetBy u) policy)
  by_ground e given (ByPassword names takes shows) meets =
      absurd (false≢true (sym not_by_value ∙ takes))
  by_ground e given (ByHmac s lives kind takes shows) meets =
      absurd (false≢true (sym not_by_value ∙ takes))
  by_ground e given (ByPolicy s lives kind its shows) meets = record {
    handle = handle;
    used = used;
    entry = e;
    given = given;
    session = s;
    lives = lives;
    kind = kind;
    session_hash = its_hash s (policy_at c place) hash (policy_digest hash policy) its.policy
        has.auth_policy;
    holds = meets hash policy has;
  }

  by_policy : UsesMeetPolicies history c
      → IsUsedBySession history c place hash policy (λ u. IsMet (IsMetBy u) policy)
  by_policy meet =
      let (e, given, ground, meets) = meet place handle used in
      by_ground e given ground meets

follows_so : (history : History) (c : AcceptedCommand) (place : ℕ) (hash : HashAlg)
    (policy : PolicyExpression) (P Q : PolicyUse → Type 0)
    → ((u : PolicyUse) → u.history ≡ history → u.command ≡ c → u.place ≡ place
    → u.session.hash ≡ hash → P u → Q u) → IsUsedBySession history c place hash policy P
    → IsUsedBySession history c place hash policy Q
follows_so history c place hash policy P Q so by = record {
  handle = by.handle;
  used = by.used;
  entry = by.entry;
  given = by.given;
  session = by.session;
  lives = by.lives;
  kind = by.kind;
  session_hash = by.session_hash;
  holds = either by.holds;
}
  where
    either : P (record {
      history = history;
      command = c;
      place = place;
      handle = by.handle;
      entry =
          by.entry;
      session = by.session;
    }) ⊎ BreaksHash hash policy by.session.assertions
        → Q (record {
          history = history;
          command = c;
          place = place;
          handle = by.handle;
          entry =
              by.entry;
          session = by.session;
        }) ⊎ BreaksHash hash policy by.session.assertions
    either (inl met) = inl (so _ refl refl refl by.session_hash met)
    either (inr broken) = inr broken

-- ---- objects

module _ (history : History) (c : AcceptedCommand) (meet : UsesMeetPolicies history c) where
  pub object_needs : (place : ℕ) (public : Public) (policy : PolicyExpression)
      → UsesObject c place public policy → IsPolicyExpression public.name_alg policy
      → IsUsedBySession history c place public.name_alg policy (λ u. IsMet (IsMetBy u) policy)
  object_needs place public policy uses is =
      by_policy history c place uses.handle public.name_alg policy uses.used
      (ap (λ (found : Option View). option_map_or
      (allows means.AuthValue (nv_use_at c.command.code place)) found false) uses.viewed
      ∙ uses.no_user_with_auth)
      (record {
        is_policy = is;
        auth_policy =
            ap (option_and_then view_policy) uses.viewed
            ∙ ap (λ (digest : List ℕ). let x : Option EntityParts =
            Some (record { hash = public.name_alg; digest = digest }) in x) uses.auth_policy;
      })
      meet

  pcr_values : (hash : HashAlg) (selection : List BankSelection) (values : List ℕ) (u : PolicyUse)
      → u.history ≡ history → u.session.hash ≡ hash → HasPcrsNow u selection (hash_of hash values)
      → HavePcrValues history hash selection values
  pcr_values hash selection values u now same met =
      by (is_same_or_not (concat (flat_map (values_in history) selection)) values)
    where
      digest : digest_in history hash selection ≡ hash_of hash values
      digest = ap (λ (h : History). digest_in h hash selection) (sym now)
          ∙ ap (λ (a : HashAlg). digest_in u.history a selection) (sym same) ∙ met.now

      by : (concat (flat_map (values_in history) selection) ≡ values)
          ⊎ (concat (flat_map (values_in history) selection) ≢ values)
          → HavePcrValues history hash selection values
      by (inl is) = inl is
      by (inr apart) = inr (apart, digest)

  pub needs_pcrs : NeedsPcrs history c
  needs_pcrs place public selection values uses =
      follows_so history c place public.name_alg (by_pcrs public.name_alg selection values)
      (λ u. IsMet (IsMetBy u) (by_pcrs public.name_alg selection values))
      (λ u. HavePcrValues history public.name_alg selection values)
      (λ u now same at hash met. pcr_values public.name_alg selection values u now hash met.1)
      (object_needs place public (by_pcrs public.name_alg selection values) uses
      (tt, length-hash_of public.name_alg values))

  pub needs_pcrs_and_pin : NeedsPcrsAndPin history c
  needs_pcrs_and_pin place public selection values uses =
      let policy : PolicyExpression =
      Then (by_pcrs public.name_alg selection values) PolicyAuthValue in
      follows_so history c place public.name_alg policy (λ u. IsMet (IsMetBy u) policy) _
      (λ u now same at hash met. (
        pcr_values public.name_alg selection values u now hash met.0.1,
        met.1,
      ))
      (object_needs place public policy uses ((tt, length-hash_of public.name_alg values), tt))

  pub needs_pin_or_secret : NeedsPinOrSecret history c
  needs_pin_or_secret place public name reference uses =
      let policy : PolicyExpression = by_pin_or_secret name reference in
      follows_so history c place public.name_alg policy (λ u. IsMet (IsMetBy u) policy) _
      (λ u now same at hash met. by u now met)
      (object_needs place public policy uses ((tt, tt), ((tt, tt), tt)))
    where
      by : (u : PolicyUse) → u.history ≡ history
          → IsMet (IsMetBy u) (by_pin_or_secret name reference)
          → ShowsAuthValue u ⊎ ShowsSecret history u.entry.session name reference
      by u now (inl met) = inl met.1
      by u now (inr (inl met)) =
          inr (subst (λ (h : History). ShowsSecret h u.entry.session name reference) now met.1)
      by u now (inr (inr met)) = absurd met

  pub needs_count : NeedsCount history c
  needs_count place public name number uses =
      let policy : PolicyExpression =
      Then Nothing (PolicyNv name number 0 operation.UnsignedGreaterOrEqual) in
      follows_so history c place public.name_alg policy (λ u. IsMet (IsMetBy u) policy) _
      (λ u now same at hash met.
      subst (λ (h : History). ComparesIndex h u.entry.session name number 0
      operation.UnsignedGreaterOrEqual) now met.1)
      (object_needs place public policy uses (tt, omega arith))

  -- ---- NV indices

  index_needs : (place : ℕ) (public : NvPublic) (policy : PolicyExpression)
      → WritesIndex c place public policy → IsPolicyExpression public.name_alg policy
      → IsUsedBySession history c place public.name_alg policy (λ u. IsMet (IsMetBy u) policy)
  index_needs place public policy uses is =
      by_policy history c place uses.handle public.name_alg policy uses.used
      (ap (λ (found : Option View). option_map_or
      (allows means.AuthValue (nv_use_at c.command.code place)) found false) uses.viewed
      ∙ ap (λ (nv_use : NvUse). allows means.AuthValue nv_use (OfIndex public)) uses.writes
      ∙ uses.no_auth_write)
      (record {
        is_policy = is;
        auth_policy =
            ap (option_and_then view_policy) uses.viewed
            ∙ ap (λ (digest : List ℕ). let x : Option EntityParts =
            Some (record { hash = public.name_alg; digest = digest }) in x) uses.auth_policy;
      })
      meet

  pub is_written_once : IsWrittenOnce history c
  is_written_once place public uses =
      let policy : PolicyExpression = Then Nothing (PolicyNvWritten false) in
      follows_so history c place public.name_alg policy (λ u. IsMet (IsMetBy u) policy) _
      (λ u now same at hash met. unwritten u same at met.1)
      (index_needs place public policy uses (tt, tt))
    where
      unwritten : (u : PolicyUse) → u.command ≡ c → u.place ≡ place
          → written_at u.command u.place ≡ Some false
          → index_has public.attributes mark.Written ≡ false
      unwritten u same at written =
          same_Some (index_has public.attributes mark.Written) false
          (sym (ap (option_and_then view_written) uses.viewed)
          ∙ sym (ap (λ (d : AcceptedCommand). written_at d place) same)
          ∙ sym (ap (written_at u.command) at) ∙ written)

pub each_needs_its_policy : OfEachAccepted NeedsItsPolicy
each_needs_its_policy = of_each NeedsItsPolicy object_needs

pub each_needs_pcrs : OfEachAccepted NeedsPcrs
each_needs_pcrs = of_each NeedsPcrs needs_pcrs

pub each_needs_pcrs_and_pin : OfEachAccepted NeedsPcrsAndPin
each_needs_pcrs_and_pin = of_each NeedsPcrsAndPin needs_pcrs_and_pin

pub each_needs_pin_or_secret : OfEachAccepted NeedsPinOrSecret
each_needs_pin_or_secret = of_each NeedsPinOrSecret needs_pin_or_secret

pub each_needs_count : OfEachAccepted NeedsCount
each_needs_count = of_each NeedsCount needs_count

pub each_is_written_once : OfEachAccepted IsWrittenOnce
each_is_written_once = of_each IsWrittenOnce is_written_once
