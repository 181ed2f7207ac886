-- If two chains of hashes end in the same digest, either they have the same steps or the hash is
-- broken.
use Rattle.std.proofs.Common.{◌≡◌, ◌≢◌, ◌⊎◌, ℕ, arith, Bool, true, false, cond, List, [], ◌∷◌, ◌++◌, length, length-append, take, drop, Option, Some, None, is_some, refl, ap, sym, ◌∙◌, inl, inr}
use Rattle.std.proofs.lemmas.Bool.{false≢true}
use Rattle.std.proofs.lemmas.List.{drop_at, length-replicate, take_at}
use Rattle.std.proofs.lemmas.Slice.Eq.{bytes_eq-Decides}
use Rattle.std.specs.Int.{w32, to_be_bytes}
use Rattle.std.specs.Str.{bytes_eq}
use Rattle.tpm_mac.proofs.DigestSize.{length-hash_of}
use Rattle.tpm_mac.specs.Digest.{digest_size, hash_of}
use Rattle.tpm_mac.specs.declared.algorithm.HashAlg.{HashAlg}
use Rattle.tpm_policy_meaning.specs.Asserted.{IsAmong}
use Rattle.tpm_policy_meaning.specs.PolicyDigest.{digest_after, with_reference, zeros}

-- ---- lists of byte strings

-- If two equal byte strings are split at the same offset, their first parts are equal, and so are
-- their second parts.
pub same_fronts : (a b c d : List ℕ) → length a ≡ length c → a ++ b ≡ c ++ d → (a ≡ c) × (b ≡ d)
same_fronts a b c d size is = (
  sym (take_at a b (length a) refl) ∙ ap (take (length a)) is ∙ take_at c d (length a) (sym size),
  sym (drop_at a b (length a) refl) ∙ ap (drop (length a)) is ∙ drop_at c d (length a) (sym size),
)

pub same_backs : (a b c d : List ℕ) → length b ≡ length d → a ++ b ≡ c ++ d → (a ≡ c) × (b ≡ d)
same_backs a b c d size is =
    same_fronts a b c d (omega (arith, length-append a b, length-append c d, size, ap length is)) is

pub among_front : {X : Type 0} (x : X) (front back : List X) → IsAmong x front
    → IsAmong x (front ++ back)
among_front x [] back among = absurd among
among_front x (y ∷ front) back (inl is) = inl is
among_front x (y ∷ front) back (inr among) = inr (among_front x front back among)

pub among_back : {X : Type 0} (x : X) (front back : List X) → IsAmong x back
    → IsAmong x (front ++ back)
among_back x [] back among = among
among_back x (y ∷ front) back among = inr (among_back x front back among)

pub among_either : {X Elsewhere : Type 0} (x : X) (front back : List X)
    → IsAmong x front ⊎ Elsewhere → (Elsewhere → IsAmong x back) → IsAmong x (front ++ back)
among_either x front back (inl among) there = among_front x front back among
among_either x front back (inr elsewhere) there = among_back x front back (there elsewhere)

-- Two byte strings are either equal or different.
pub is_same_or_not : (t u : List ℕ) → (t ≡ u) ⊎ (t ≢ u)
is_same_or_not t u = by (bytes_eq t u) refl
  where
    by : (same : Bool) → bytes_eq t u ≡ same → (t ≡ u) ⊎ (t ≢ u)
    by true is = inl ((bytes_eq-Decides t u).0 is)
    by false is = inr (λ same. false≢true (sym is ∙ (bytes_eq-Decides t u).1 same))

none_among : (t u : List ℕ) (texts : List (List ℕ)) → t ≢ u → (IsAmong t texts → ⊥)
    → IsAmong t (u ∷ texts) → ⊥
none_among t u texts apart none (inl is) = apart is
none_among t u texts apart none (inr among) = none among

-- A byte string is either in a list or not.
pub is_among_or_not : (t : List ℕ) (texts : List (List ℕ)) → IsAmong t texts ⊎ (IsAmong t texts → ⊥)
is_among_or_not t [] = inr (λ among. among)
is_among_or_not t (u ∷ texts) = by (is_same_or_not t u) (is_among_or_not t texts)
  where
    by : (t ≡ u) ⊎ (t ≢ u) → IsAmong t texts ⊎ (IsAmong t texts → ⊥)
        → IsAmong t (u ∷ texts) ⊎ (IsAmong t (u ∷ texts) → ⊥)
    by (inl is) rest = inl (inl is)
    by (inr apart) (inl among) = inl (inr among)
    by (inr apart) (inr none) = inr (none_among t u texts apart none)

-- If A holds unless the hash is broken, and A implies B unless the hash is broken, then B holds
-- unless the hash is broken.
pub unless_broken : {A B Broken : Type 0} → A ⊎ Broken → (A → B ⊎ Broken) → B ⊎ Broken
unless_broken (inl a) next = next a
unless_broken (inr broken) next = inr broken

-- ---- chains of steps

-- the digest of a chain of steps (latest first)
abbrev pub chain : HashAlg → List (List ℕ) → List ℕ
chain hash [] = zeros hash
chain hash (step ∷ earlier) = hash_of hash (chain hash earlier ++ step)

-- the inputs that are hashed for the digest of a chain of steps. Both lists have the latest element
-- first
abbrev pub chain_texts : HashAlg → List (List ℕ) → List (List ℕ)
chain_texts hash [] = []
chain_texts hash (step ∷ earlier) = (chain hash earlier ++ step) ∷ chain_texts hash earlier

pub length-chain : (hash : HashAlg) (steps : List (List ℕ))
    → length (chain hash steps) ≡ digest_size hash
length-chain hash [] = length-replicate (digest_size hash) 0
length-chain hash (step ∷ earlier) = length-hash_of hash _

-- The hash is broken in two cases: an input in `One` and a different input in `Other` have the same
-- hash; or the hash of an input in `One` or `Other` is all zeros.
pub record Breaking (hash : HashAlg) (Broken : Type 0) (One Other : List ℕ → Type 0) : Type 0 where
  pub collision : (t u : List ℕ) → One t → Other u → t ≢ u → hash_of hash t ≡ hash_of hash u
      → Broken
  pub of_zeros : (t : List ℕ) → One t ⊎ Other t → hash_of hash t ≡ zeros hash → Broken

module _ (hash : HashAlg) (Broken : Type 0) (One Other : List ℕ → Type 0)
    (breaking : Breaking hash Broken One Other) where
  -- If two inputs have the same hash, either they are equal or the hash is broken.
  pub same_hashed : (t u : List ℕ) → One t → Other u → hash_of hash t ≡ hash_of hash u
      → (t ≡ u) ⊎ Broken
  same_hashed t u one other is = by (is_same_or_not t u)
    where
      by : (t ≡ u) ⊎ (t ≢ u) → (t ≡ u) ⊎ Broken
      by (inl same) = inl same
      by (inr apart) = inr (breaking.collision t u one other apart is)

  pub same_chain : (xs ys : List (List ℕ))
      → ((t : List ℕ) → IsAmong t (chain_texts hash xs) → One t)
      → ((t : List ℕ) → IsAmong t (chain_texts hash ys) → Other t) → chain hash xs ≡ chain hash ys
      → (xs ≡ ys) ⊎ Broken
  same_chain [] [] one other is = inl refl
  same_chain [] (y ∷ ys) one other is =
      inr (breaking.of_zeros (chain hash ys ++ y) (inr (other _ (inl refl))) (sym is))
  same_chain (x ∷ xs) [] one other is =
      inr (breaking.of_zeros (chain hash xs ++ x) (inl (one _ (inl refl))) is)
  same_chain (x ∷ xs) (y ∷ ys) one other is =
      unless_broken (same_hashed (chain hash xs ++ x) (chain hash ys ++ y) (one _ (inl refl))
      (other _ (inl refl)) is)
      (λ same. by (same_fronts (chain hash xs) x (chain hash ys) y
      (length-chain hash xs ∙ sym (length-chain hash ys)) same)
      (same_chain xs ys (λ t among. one t (inr among)) (λ t among. other t (inr among))))
    where
      by : (chain hash xs ≡ chain hash ys) × (x ≡ y)
          → (chain hash xs ≡ chain hash ys → (xs ≡ ys) ⊎ Broken) → (x ∷ xs ≡ y ∷ ys) ⊎ Broken
      by halves earlier =
          unless_broken (earlier halves.0)
          (λ same. inl (ap (λ (step : List ℕ). step ∷ xs) halves.1
          ∙ ap (λ (steps : List (List ℕ)). y ∷ steps) same))

-- ---- steps of assertions

-- what an assertion contributes to the digest: its policyRef, if any, and its encoding
abbrev pub Said : Type 0
Said = Option (List ℕ) × List ℕ

abbrev pub steps_of : Option (List ℕ) → List ℕ → List (List ℕ)
steps_of None text = text ∷ []
steps_of (Some reference) text = reference ∷ text ∷ []

abbrev pub all_steps : List Said → List (List ℕ)
all_steps [] = []
all_steps (said ∷ earlier) = steps_of said.0 said.1 ++ all_steps earlier

-- whether an encoding begins with the code of TPM2_PolicySecret, the only command with a policyRef
abbrev pub is_secret : List ℕ → Bool
is_secret text = bytes_eq (take 4 text) (to_be_bytes w32 0x151)

abbrev pub Fits : Said → Type 0
Fits said = is_secret said.1 ≡ is_some said.0

abbrev pub AllFit : List Said → Type 0
AllFit [] = Unit {0}
AllFit (said ∷ earlier) = Fits said × AllFit earlier

-- whether the latest step is a TPM2_PolicySecret, whose policyRef must be the next step
abbrev awaits : List (List ℕ) → Bool
awaits [] = false
awaits (step ∷ earlier) = cond (awaits earlier) false (is_secret step)

awaits_after : (r : Option (List ℕ)) (t : List ℕ) (steps : List (List ℕ)) → is_secret t ≡ is_some r
    → awaits steps ≡ false → awaits (steps_of r t ++ steps) ≡ false
awaits_after None t steps secret none = rw (none, secret) refl
awaits_after (Some r) t steps secret none = rw (none, secret) refl

awaits_none : (said : List Said) → AllFit said → awaits (all_steps said) ≡ false
awaits_none [] fit = refl
awaits_none (one ∷ earlier) fit =
    awaits_after one.0 one.1 (all_steps earlier) fit.0 (awaits_none earlier fit.1)

some_steps : (r : Option (List ℕ)) (t : List ℕ) (steps : List (List ℕ)) → steps_of r t ++ steps ≡ []
    → ⊥
some_steps None t steps is = absurd cc
some_steps (Some r) t steps is = absurd cc

latest_aligned : (r q : Option (List ℕ)) (t u : List ℕ) (xs ys : List (List ℕ))
    → is_secret t ≡ is_some r → is_secret u ≡ is_some q → awaits xs ≡ false → awaits ys ≡ false
    → steps_of r t ++ xs ≡ steps_of q u ++ ys → (r ≡ q) × (t ≡ u) × (xs ≡ ys)
latest_aligned None None t u xs ys st su ax ay is = (refl, cc, cc)
latest_aligned (Some r) (Some q) t u xs ys st su ax ay is = (cc, cc, cc)
latest_aligned None (Some q) t u xs ys st su ax ay is =
    let rest : xs ≡ u ∷ ys = cc in
    absurd (false≢true (sym ax ∙ ap awaits rest ∙ rw (ay, su) refl))
latest_aligned (Some r) None t u xs ys st su ax ay is =
    let rest : t ∷ xs ≡ ys = cc in
    absurd (false≢true (sym ay ∙ ap awaits (sym rest) ∙ rw (ax, st) refl))

-- Two lists of assertions are equal if their steps are the same.
pub aligned : (xs ys : List Said) → AllFit xs → AllFit ys → all_steps xs ≡ all_steps ys → xs ≡ ys
aligned [] [] fx fy is = refl
aligned [] (y ∷ ys) fx fy is = absurd (some_steps y.0 y.1 (all_steps ys) (sym is))
aligned (x ∷ xs) [] fx fy is = absurd (some_steps x.0 x.1 (all_steps xs) is)
aligned (x ∷ xs) (y ∷ ys) fx fy is =
    let latest = latest_aligned x.0 y.0 x.1 y.1 (all_steps xs) (all_steps ys) fx.0 fy.0
    (awaits_none xs fx.1) (awaits_none ys fy.1) is in
    ap (λ (r : Option (List ℕ)). (r, x.1) ∷ xs) latest.0
    ∙ ap (λ (t : List ℕ). (y.0, t) ∷ xs) latest.1
    ∙ ap (λ (said : List Said). y ∷ said) (aligned xs ys fx.1 fy.1 latest.2)

-- ---- the hash inputs of an assertion are the hash inputs of its steps

module _ (hash : HashAlg) where
  pub digest_of_steps : (r : Option (List ℕ)) (t digest : List ℕ) (steps apart more : List (List ℕ))
      → digest ≡ chain hash steps
      → digest_after hash (with_reference hash r (digest ++ t) ++ apart ++ more)
      ≡ chain hash (steps_of r t ++ steps)
  digest_of_steps None t digest steps apart more is = ap (λ (d : List ℕ). hash_of hash (d ++ t)) is
  digest_of_steps (Some r) t digest steps apart more is =
      ap (λ (d : List ℕ). hash_of hash (hash_of hash (d ++ t) ++ r)) is

  pub texts_of_steps : (r : Option (List ℕ)) (t digest : List ℕ) (steps apart : List (List ℕ))
      → digest ≡ chain hash steps → (text : List ℕ)
      → IsAmong text (chain_texts hash (steps_of r t ++ steps))
      → IsAmong text (with_reference hash r (digest ++ t) ++ apart)
      ⊎ IsAmong text (chain_texts hash steps)
  texts_of_steps None t digest steps apart is text (inl same) =
      inl (inl (same ∙ ap (λ (d : List ℕ). d ++ t) (sym is)))
  texts_of_steps None t digest steps apart is text (inr among) = inr among
  texts_of_steps (Some r) t digest steps apart is text (inl same) =
      inl (inl (same ∙ ap (λ (d : List ℕ). hash_of hash (d ++ t) ++ r) (sym is)))
  texts_of_steps (Some r) t digest steps apart is text (inr (inl same)) =
      inl (inr (inl (same ∙ ap (λ (d : List ℕ). d ++ t) (sym is))))
  texts_of_steps (Some r) t digest steps apart is text (inr (inr among)) = inr among
