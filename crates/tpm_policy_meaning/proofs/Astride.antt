-- If a digest occurs in a concatenation of digests of the same size, either it is one of these
-- digests, or it occurs across the boundary between two neighbouring digests.
use Rattle.std.proofs.Common.{◌≡◌, ◌≢◌, ◌⊎◌, ℕ, arith, List, [], ◌∷◌, ◌++◌, append_assoc, length, length-append, refl, ap, sym, ◌∙◌, inl, inr}
use Rattle.std.proofs.lemmas.List.{append-nil}
use Rattle.std.specs.List.{flat_map}
use Rattle.tpm_policy_meaning.specs.Asserted.{IsAmong}
use Rattle.tpm_policy_meaning.specs.Meaning.{IsAstride}

abbrev pub joined : List (List ℕ) → List ℕ
joined digests = flat_map (λ (digest : List ℕ). digest) digests

abbrev pub HaveSize : ℕ → List (List ℕ) → Type 0
HaveSize size [] = Unit {0}
HaveSize size (digest ∷ digests) = (length digest ≡ size) × HaveSize size digests

same_first : (x y : ℕ) (xs ys : List ℕ) → x ∷ xs ≡ y ∷ ys → (x ≡ y) × (xs ≡ ys)
same_first x y xs ys is = (cc, cc)

has_first : (x : ℕ) (xs : List ℕ) → x ∷ xs ≡ [] → ⊥
has_first x xs is = absurd cc

-- One byte string is split in two ways, as `front ++ back` and as `short ++ rest`, and `front`
-- starts with `short`.
abbrev GoesOn : (front back short rest : List ℕ) → Type 0
GoesOn front back short rest = (more : List ℕ) × (front ≡ short ++ more) × (more ++ back ≡ rest)

one_more : (x y : ℕ) (a b c d : List ℕ) → x ≡ y → GoesOn a b c d ⊎ GoesOn c d a b
    → GoesOn (x ∷ a) b (y ∷ c) d ⊎ GoesOn (y ∷ c) d (x ∷ a) b
one_more x y a b c d same (inl (more, is, rest)) = inl (more, cc, rest)
one_more x y a b c d same (inr (more, is, rest)) = inr (more, cc, rest)

two_ways : (a b c d : List ℕ) → a ++ b ≡ c ++ d → GoesOn a b c d ⊎ GoesOn c d a b
two_ways a b [] d is = inl (a, refl, is)
two_ways [] b (y ∷ c) d is = inr (y ∷ c, refl, sym is)
two_ways (x ∷ a) b (y ∷ c) d is =
    let halves = same_first x y (a ++ b) (c ++ d) is in
    one_more x y a b c d halves.0 (two_ways a b c d halves.1)

-- If a byte string occurs within another byte string of the same size, the two are equal.
is_whole : (whole front text rest : List ℕ) → whole ≡ front ++ (text ++ rest)
    → length whole ≡ length text → text ≡ whole
is_whole whole [] text [] is size = sym (is ∙ append-nil text)
is_whole whole [] text (x ∷ rest) is size =
    absurd (omega (arith, ap length is, length-append text (x ∷ rest), size))
is_whole whole (x ∷ front) text rest is size =
    absurd (omega (
      arith,
      ap length is,
      length-append front (text ++ rest),
      length-append text rest,
      size,
    ))

behind_first : (text first : List ℕ) (digests : List (List ℕ))
    → (IsAmong text (first ∷ digests) → ⊥) → IsAstride text digests
    → IsAstride text (first ∷ digests)
behind_first text first digests none astride = record {
  before = first ∷ astride.before;
  after = astride.after;
  front = astride.front;
  end = astride.end;
  beginning = astride.beginning;
  back = astride.back;
  neighbours = ap (λ (ds : List (List ℕ)). first ∷ ds) astride.neighbours;
  spelled = astride.spelled;
  has_end = astride.has_end;
  has_beginning = astride.has_beginning;
  is_none = none;
}

-- Suppose that a byte string has the size of the digests in a list, but is not in the list. If, in
-- the concatenated digests, it starts within the first digest and ends after this digest, it occurs
-- across the boundary between two neighbouring digests.
next_begins : (text first front : List ℕ) (x y : ℕ) (end beginning : List ℕ)
    (digests : List (List ℕ)) (back : List ℕ) → (IsAmong text (first ∷ digests) → ⊥)
    → HaveSize (length text) digests → first ≡ front ++ x ∷ end → text ≡ (x ∷ end) ++ y ∷ beginning
    → joined digests ≡ (y ∷ beginning) ++ back → IsAstride text (first ∷ digests)
next_begins text first front x y end beginning [] back none sizes is spelled stands =
    absurd (has_first y (beginning ++ back) (sym stands))
next_begins text first front x y end beginning (next ∷ digests) back none sizes is spelled stands =
    by (two_ways next (joined digests) (y ∷ beginning) back stands)
  where
    by : GoesOn next (joined digests) (y ∷ beginning) back
        ⊎ GoesOn (y ∷ beginning) back next (joined digests)
        → IsAstride text (first ∷ next ∷ digests)
    by (inl (more, same, rest)) = record {
      before = [];
      after = digests;
      front = front;
      end = x ∷ end;
      beginning = y ∷ beginning;
      back = more;
      neighbours = ap (λ (d : List ℕ). d ∷ next ∷ digests) is
          ∙ ap (λ (d : List ℕ). (front ++ x ∷ end) ∷ d ∷ digests) same;
      spelled = spelled;
      has_end = has_first x end;
      has_beginning = has_first y beginning;
      is_none = none;
    }
    by (inr (more, same, rest)) =
        absurd
        (omega (
          arith,
          sizes.0,
          ap length same,
          length-append next more,
          ap length spelled,
          length-append (x ∷ end) (y ∷ beginning),
        ))

pub stands_astride : (text : List ℕ) (digests : List (List ℕ)) (front back : List ℕ)
    → HaveSize (length text) digests → text ≢ [] → (IsAmong text digests → ⊥)
    → joined digests ≡ front ++ text ++ back → IsAstride text digests
stands_astride text [] front back sizes some none stands =
    absurd (nothing text front back some stands)
  where
    nothing : (text front back : List ℕ) → text ≢ [] → [] ≡ front ++ text ++ back → ⊥
    nothing [] front back some stands = some refl
    nothing (x ∷ text) front back some stands =
        absurd
        (omega (
          arith,
          ap length stands,
          length-append (front ++ x ∷ text) back,
          length-append front (x ∷ text),
        ))
stands_astride text (first ∷ digests) front back sizes some none stands =
    by (two_ways first (joined digests) front (text ++ back)
    (stands ∙ append_assoc front text back))
    (λ earlier same. stands_astride text digests earlier back sizes.1 some
    (λ among. none (inr among)) (same ∙ sym (append_assoc earlier text back)))
  where
    cut : (more rest : List ℕ) → first ≡ front ++ more → text ≡ more ++ rest
        → rest ++ back ≡ joined digests → (joined digests ≡ text ++ back → IsAstride text digests)
        → IsAstride text (first ∷ digests)
    cut [] rest is spelled same later =
        behind_first text first digests none
        (later (sym same ∙ ap (λ (t : List ℕ). t ++ back) (sym spelled)))
    cut (x ∷ more) [] is spelled same later =
        absurd
        (none
        (inl
        (is_whole first front text []
        (is ∙ ap (λ (t : List ℕ). front ++ t)
        (sym (append-nil (x ∷ more)) ∙ sym spelled ∙ sym (append-nil text))) sizes.0)))
    cut (x ∷ more) (y ∷ rest) is spelled same later =
        next_begins text first front x y more rest digests back none sizes.1 is spelled (sym same)

    within : (more : List ℕ) → first ≡ front ++ more → GoesOn more (joined digests) text back
        ⊎ GoesOn text back more (joined digests)
        → (joined digests ≡ text ++ back → IsAstride text digests)
        → IsAstride text (first ∷ digests)
    within more is (inl (rest, same, behind)) later =
        absurd
        (none
        (inl (is_whole first front text rest (is ∙ ap (λ (t : List ℕ). front ++ t) same)
        sizes.0)))
    within more is (inr (rest, spelled, behind)) later = cut more rest is spelled behind later

    by : GoesOn first (joined digests) front (text ++ back)
        ⊎ GoesOn front (text ++ back) first (joined digests)
        → ((earlier : List ℕ) → joined digests ≡ earlier ++ (text ++ back) → IsAstride text digests)
        → IsAstride text (first ∷ digests)
    by (inl (more, is, behind)) next =
        within more is (two_ways more (joined digests) text back behind) (λ same. next [] same)
    by (inr (more, is, behind)) next = behind_first text first digests none (next more (sym behind))
