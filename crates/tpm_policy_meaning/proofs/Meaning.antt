-- If a policy session's digest equals the digest of a policy, either the session made the
-- assertions that the policy requires, or the hash is broken.
use Rattle.std.proofs.Common.{◌≡◌, ◌≢◌, ◌⊎◌, ℕ, List, [], ◌∷◌, ◌++◌, append_assoc, length, refl, ap, sym, subst, ◌∙◌, inl, inr}
use Rattle.tpm_mac.specs.Digest.{digest_size}
use Rattle.tpm_mac.specs.declared.algorithm.HashAlg.{HashAlg}
use Rattle.tpm_mac.specs.declared.algorithm.HashAlg.TheVariants as alg
use Rattle.tpm_policy.specs.Assertion as assertion
use Rattle.tpm_policy.specs.Assertion.{Assertion}
use Rattle.tpm_policy_meaning.specs.Asserted.{AreAccepted, Says, IsAmong, IsAsserted, digest_before, session_digest, session_digests, session_texts, update_by}
use Rattle.tpm_policy_meaning.specs.Expression.{PolicyAssertion, PolicyExpression, Nothing, Then, PolicyOr, PolicyBranches, NoBranch, Branch}
use Rattle.tpm_policy_meaning.specs.Meaning.{ArePolicyBranches, BreaksHash, AstrideBranches, Collision, HashOfZeros, DigestMeans, IsMet, IsOneMet, IsPolicyExpression, branch_lists, lists_within}
use Rattle.tpm_policy_meaning.specs.PolicyDigest.{branch_digests, branch_texts, policy_digest, policy_texts, texts_after, update_of, update_text, with_reference}
use Rattle.tpm_policy_meaning.proofs.Asserting.{IsOrOf, said_asserts, said_is_or}
use Rattle.tpm_policy_meaning.proofs.Astride.{HaveSize, joined, stands_astride}
use Rattle.tpm_policy_meaning.proofs.Chains.{Breaking, Said, aligned, all_steps, among_back, among_front, is_among_or_not, length-chain, same_chain, unless_broken}
use Rattle.tpm_policy_meaning.proofs.Spelled.{policy_chain, policy_chain_texts, policy_fits, policy_said, said_before, said_of, session_chain, session_chain_texts, session_fits, session_said}

-- The byte string `whole` contains the digest.
abbrev StandsIn : (digest whole : List ℕ) → Type 0
StandsIn digest whole = (front : List ℕ) × (back : List ℕ) × (whole ≡ front ++ digest ++ back)

stands_behind : (one digest whole : List ℕ) → StandsIn digest whole → StandsIn digest (one ++ whole)
stands_behind one digest whole (front, back, is) = (
  one ++ front,
  back,
  ap (λ (text : List ℕ). one ++ text) is
      ∙ sym (append_assoc one (front ++ digest) back)
      ∙ ap (λ (text : List ℕ). text ++ back) (sym (append_assoc one front digest)),
)

among_stands : (digest : List ℕ) (digests : List (List ℕ)) → IsAmong digest digests
    → StandsIn digest (joined digests)
among_stands digest [] among = absurd among
among_stands digest (one ∷ digests) (inl is) =
    ([], joined digests, ap (λ (text : List ℕ). text ++ joined digests) (sym is))
among_stands digest (one ∷ digests) (inr among) =
    stands_behind one digest (joined digests) (among_stands digest digests among)

same_latest : (x y : Said) (xs ys : List Said) → x ∷ xs ≡ y ∷ ys → (x ≡ y) × (xs ≡ ys)
same_latest x y xs ys is = (cc, cc)

none_said : (x : Said) (xs : List Said) → x ∷ xs ≡ [] → ⊥
none_said x xs is = absurd cc

-- A session's assertion that asserts the same as an assertion of a policy expression is not a
-- TPM2_PolicyOR. Therefore it discards no earlier assertion.
earlier_said : (one : Assertion) (written : PolicyAssertion) (said : List Said) → Says one written
    → said_before one said ≡ said
earlier_said (assertion.Or digests) written said asserts = absurd asserts
earlier_said _ written said asserts = refl

some_size : (hash : HashAlg) → digest_size hash ≢ 0
some_size alg.Sha1 none = absurd cc
some_size alg.Sha256 none = absurd cc

module _ (hash : HashAlg) (whole : PolicyExpression) (all : List Assertion) where
  abbrev Broken : Type 0
  Broken = BreaksHash hash whole all

  abbrev One : List ℕ → Type 0
  One text = IsAmong text (policy_texts hash whole)

  abbrev Other : List ℕ → Type 0
  Other text = IsAmong text (session_texts hash all)

  breaking : Breaking hash Broken One Other
  breaking = record { collision = Collision; of_zeros = HashOfZeros }

  -- ---- parts of the policy, and the assertions of the session at an earlier time

  record Within (policy : PolicyExpression) : Type 0 where
    pub written : IsPolicyExpression hash policy
    pub texts : (text : List ℕ) → IsAmong text (policy_texts hash policy) → One text
    pub lists : (digests : List (List ℕ)) → IsAmong digests (branch_lists hash policy)
        → IsAmong digests (branch_lists hash whole)

  record AreWithin (branches : PolicyBranches) : Type 0 where
    pub written : ArePolicyBranches hash branches
    pub texts : (text : List ℕ) → IsAmong text (branch_texts hash branches) → One text
    pub lists : (digests : List (List ℕ)) → IsAmong digests (lists_within hash branches)
        → IsAmong digests (branch_lists hash whole)

  record UpTo (assertions : List Assertion) : Type 0 where
    pub accepted : AreAccepted hash assertions
    pub texts : (text : List ℕ) → IsAmong text (session_texts hash assertions) → Other text
    pub digests : (digest : List ℕ) → IsAmong digest (session_digests hash assertions)
        → IsAmong digest (session_digests hash all)
    pub among : (one : Assertion) → IsAmong one assertions → IsAmong one all

  before_within : (before : PolicyExpression) (written : PolicyAssertion)
      → Within (Then before written) → Within before
  before_within before written within = record {
    written = within.written.0;
    texts = λ text among. within.texts text
        (among_back text (texts_after hash (policy_digest hash before) (update_of hash written))
        (policy_texts hash before) among);
    lists = within.lists;
  }

  apart_within : (before : PolicyExpression) (written : PolicyAssertion)
      → Within (Then before written) → (text : List ℕ) → IsAmong text (update_of hash written).apart
      → One text
  apart_within before written within text among =
      let update = update_of hash written in
      let first = with_reference hash update.reference
      (policy_digest hash before ++ update_text update) in
      within.texts text
      (among_front text (first ++ update.apart) (policy_texts hash before)
      (among_back text first update.apart among))

  branches_within : (branches : PolicyBranches) → Within (PolicyOr branches) → AreWithin branches
  branches_within branches within = record {
    written = within.written;
    texts = λ text among. within.texts text (inr among);
    lists = λ digests among. within.lists digests (inr among);
  }

  first_within : (policy : PolicyExpression) (branches : PolicyBranches)
      → AreWithin (Branch policy branches) → Within policy
  first_within policy branches within = record {
    written = within.written.0;
    texts = λ text among. within.texts text
        (among_front text (policy_texts hash policy) (branch_texts hash branches) among);
    lists = λ digests among. within.lists digests
        (among_front digests (branch_lists hash policy) (lists_within hash branches) among);
  }

  others_within : (policy : PolicyExpression) (branches : PolicyBranches)
      → AreWithin (Branch policy branches) → AreWithin branches
  others_within policy branches within = record {
    written = within.written.1;
    texts = λ text among. within.texts text
        (among_back text (policy_texts hash policy) (branch_texts hash branches) among);
    lists = λ digests among. within.lists digests
        (among_back digests (branch_lists hash policy) (lists_within hash branches) among);
  }

  up_to_earlier : (latest : Assertion) (earlier : List Assertion) → UpTo (latest ∷ earlier)
      → UpTo earlier
  up_to_earlier latest earlier up = record {
    accepted = up.accepted.2;
    texts = λ text among. up.texts text
        (among_back text
        (texts_after hash (digest_before hash latest earlier) (update_by hash latest))
        (session_texts hash earlier) among);
    digests = λ digest among. up.digests digest (inr among);
    among = λ one among. up.among one (inr among);
  }

  apart_up_to : (latest : Assertion) (earlier : List Assertion) → UpTo (latest ∷ earlier)
      → (text : List ℕ) → IsAmong text (update_by hash latest).apart → Other text
  apart_up_to latest earlier up text among =
      let update = update_by hash latest in
      let first = with_reference hash update.reference
      (digest_before hash latest earlier ++ update_text update) in
      up.texts text (among_front text (first ++ update.apart) (session_texts hash earlier)
      (among_back text first update.apart among))

  latest_digest : (assertions : List Assertion)
      → IsAmong (session_digest hash assertions) (session_digests hash assertions)
  latest_digest [] = inl refl
  latest_digest (latest ∷ earlier) = inl refl

  -- ---- equal digests come from the same assertions

  same_said : (policy : PolicyExpression) (assertions : List Assertion) → Within policy
      → UpTo assertions → session_digest hash assertions ≡ policy_digest hash policy
      → (policy_said hash policy ≡ session_said hash assertions) ⊎ Broken
  same_said policy assertions within up is =
      unless_broken
      (same_chain hash Broken One Other breaking (all_steps (policy_said hash policy))
      (all_steps (session_said hash assertions))
      (λ text among. within.texts text (policy_chain_texts hash policy text among))
      (λ text among. up.texts text (session_chain_texts hash assertions text among))
      (sym (policy_chain hash policy) ∙ sym is ∙ session_chain hash assertions))
      (λ steps. inl (aligned (policy_said hash policy) (session_said hash assertions)
      (policy_fits hash policy) (session_fits hash assertions) steps))

  -- ---- the assertions of the policy, one by one

  then_holds : (before : PolicyExpression) (written : PolicyAssertion) (latest : Assertion)
      (earlier : List Assertion) → Within (Then before written) → UpTo (latest ∷ earlier)
      → (said_of (update_of hash written) ≡ said_of (update_by hash latest))
      × (policy_said hash before ≡ said_before latest (session_said hash earlier))
      → (policy_said hash before ≡ session_said hash earlier → IsMet (IsAsserted all) before
      ⊎ Broken) → IsMet (IsAsserted all) (Then before written) ⊎ Broken
  then_holds before written latest earlier within up same next =
      unless_broken
      (said_asserts hash Broken One Other breaking written latest within.written.1 up.accepted.0
      (apart_within before written within) (apart_up_to latest earlier up) same.0)
      (λ asserts. unless_broken
      (next (same.1 ∙ earlier_said latest written (session_said hash earlier) asserts))
      (λ holds. inl (holds, (latest, up.among latest (inl refl), asserts))))

  sizes : (branches : PolicyBranches) (digest : List ℕ) → length digest ≡ digest_size hash
      → HaveSize (length digest) (branch_digests hash branches)
  sizes NoBranch digest size = tt
  sizes (Branch policy branches) digest size = (
    ap length (policy_chain hash policy)
        ∙ length-chain hash (all_steps (policy_said hash policy)) ∙ sym size,
    sizes branches digest size,
  )

  some_digest : (digest : List ℕ) → length digest ≡ digest_size hash → digest ≢ []
  some_digest digest size none = some_size hash (sym size ∙ ap length none)

  one_or_astride : (branches : PolicyBranches) (earlier : List Assertion) → UpTo earlier
      → IsAmong (branch_digests hash branches) (branch_lists hash whole)
      → StandsIn (session_digest hash earlier) (joined (branch_digests hash branches))
      → IsAmong (session_digest hash earlier) (branch_digests hash branches) ⊎ Broken
  one_or_astride branches earlier up list (front, back, stands) =
      by (is_among_or_not (session_digest hash earlier) (branch_digests hash branches))
    where
      size : length (session_digest hash earlier) ≡ digest_size hash
      size = ap length (session_chain hash earlier)
          ∙ length-chain hash (all_steps (session_said hash earlier))

      by : IsAmong (session_digest hash earlier) (branch_digests hash branches)
          ⊎ (IsAmong (session_digest hash earlier) (branch_digests hash branches) → ⊥)
          → IsAmong (session_digest hash earlier) (branch_digests hash branches) ⊎ Broken
      by (inl among) = inl among
      by (inr none) =
          inr (AstrideBranches (session_digest hash earlier) (branch_digests hash branches)
          (up.digests _ (latest_digest earlier)) list
          (stands_astride (session_digest hash earlier) (branch_digests hash branches) front back
          (sizes branches (session_digest hash earlier) size)
          (some_digest (session_digest hash earlier) size) none stands))

  or_finds : (branches : PolicyBranches) (latest : Assertion) (earlier : List Assertion)
      → UpTo (latest ∷ earlier) → IsAmong (branch_digests hash branches) (branch_lists hash whole)
      → IsOrOf (branch_digests hash branches) latest
      → IsAmong (session_digest hash earlier) (branch_digests hash branches) ⊎ Broken
  or_finds branches latest earlier up list (given, is, same) =
      let here : UpTo (assertion.Or given ∷ earlier) =
      subst (λ (one : Assertion). UpTo (one ∷ earlier)) is up in
      let (front, back, stands) =
      among_stands (session_digest hash earlier) given here.accepted.1 in
      one_or_astride branches earlier (up_to_earlier latest earlier up) list
      (front, back, same ∙ stands)

  mutual
    holds : (policy : PolicyExpression) → Within policy → (assertions : List Assertion)
        → UpTo assertions → policy_said hash policy ≡ session_said hash assertions
        → IsMet (IsAsserted all) policy ⊎ Broken
    holds Nothing within assertions up is = inl tt
    holds (Then before written) within [] up is = absurd (none_said _ _ is)
    holds (Then before written) within (latest ∷ earlier) up is =
        then_holds before written latest earlier within up (same_latest _ _ _ _ is)
        (λ same. holds before (before_within before written within) earlier
        (up_to_earlier latest earlier up) same)
    holds (PolicyOr branches) within [] up is = absurd (none_said _ _ is)
    holds (PolicyOr branches) within (latest ∷ earlier) up is =
        unless_broken
        (or_finds branches latest earlier up
        (within.lists (branch_digests hash branches) (inl refl))
        (said_is_or hash (branch_digests hash branches) latest (same_latest _ _ _ _ is).0))
        (λ among. one_holds branches (branches_within branches within) earlier
        (up_to_earlier latest earlier up) among)

    one_holds : (branches : PolicyBranches) → AreWithin branches → (assertions : List Assertion)
        → UpTo assertions → IsAmong (session_digest hash assertions) (branch_digests hash branches)
        → IsOneMet (IsAsserted all) branches ⊎ Broken
    one_holds NoBranch within assertions up among = absurd among
    one_holds (Branch policy branches) within assertions up (inl is) =
        unless_broken (same_said policy assertions (first_within policy branches within) up is)
        (λ same. unless_broken
        (holds policy (first_within policy branches within) assertions up same)
        (λ held. inl (inl held)))
    one_holds (Branch policy branches) within assertions up (inr among) =
        unless_broken (one_holds branches (others_within policy branches within) assertions up
        among)
        (λ held. inl (inr held))

pub digest_means : DigestMeans
digest_means hash policy assertions written accepted is =
    let within : Within hash policy assertions policy = record {
      written = written;
      texts = λ text among. among;
      lists = λ digests among. among;
    } in
    let up : UpTo hash policy assertions assertions = record {
      accepted = accepted;
      texts = λ text among. among;
      digests = λ digest among. among;
      among = λ one among. among;
    } in
    unless_broken (same_said hash policy assertions policy assertions within up is)
    (λ same. holds hash policy assertions policy within assertions up same)
