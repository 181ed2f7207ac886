-- The journal of the echoing device satisfies what a keeper requires.
use Rattle.std.proofs.Common.{◌≡◌, ℕ, zero, suc, ◌+◌, ◌<◌, true, List, [], ◌∷◌, ◌++◌, length, take, Some, refl, sym, ap, ◌∙◌, arith}
use Rattle.std.proofs.lemmas.List.{append-nil}
use Rattle.tpm_keeping.specs.Journal.{IsJournal, Spot, entries, first_spot, trail}
use Rattle.tpm_keeping_tests.specs.Echo.{echo, followed_at, headed_at, is_empty, nothing, opened_at, salvaged_at}

none : (text : List ℕ) → is_empty text ≡ true → text ≡ []
none [] is = refl
none (b ∷ text) is = absurd cc

-- No command changes the position.
still : (cs : List (List ℕ)) → trail echo nothing cs ≡ nothing
still [] = refl
still (c ∷ cs) = still cs

followed : (p : Spot) (cs : List (List ℕ))
    → followed_at p (entries echo p cs) ≡ Some (trail echo p cs, length (entries echo p cs))
followed p [] = refl
followed p (c ∷ cs) =
    ap (λ (q : Spot). Some (q, suc (length (entries echo nothing cs)))) (sym (still cs))

opened : (b : ℕ) (p : Spot) (cs : List (List ℕ))
    → opened_at (b ∷ entries echo p cs) ≡ Some (nothing, suc (length (entries echo p cs)))
opened b p [] = refl
opened b p (c ∷ cs) = refl

salvages : (text : List ℕ) (p : Spot) (size : ℕ) → salvaged_at text ≡ Some (p, size)
    → opened_at (take size text) ≡ Some (p, size)
salvages [] p size is = absurd cc
salvages (b ∷ text) p size is =
    let one : 1 ≡ size = size_is (nothing, 1) (p, size) is in
    ap (λ (n : ℕ). opened_at (take n (b ∷ text))) (sym one) ∙ is
  where
    size_is : (a b : Spot × ℕ) → Some a ≡ Some b → a.1 ≡ b.1
    size_is a b e = let same : a ≡ b = cc in ap (λ (x : Spot × ℕ). x.1) same

begun : (s : List ℕ) → is_empty s ≡ true → first_spot echo s ≡ nothing
begun s is = ap (λ (x : List ℕ). first_spot echo x) (none s is)

-- A head is one byte, and the position after it is `nothing`.
head_is : (head : List ℕ) (p : Spot) → headed_at head ≡ Some p
    → (b : ℕ) × (head ≡ b ∷ []) × (p ≡ nothing)
head_is [] p is = absurd cc
head_is (b ∷ []) p is = (b, refl, (let same : nothing ≡ p = cc in sym same))
head_is (b ∷ c ∷ text) p is = absurd cc

short : (k : ℕ) → k < 1 → is_empty (take k (101 ∷ [])) ≡ true
short zero le = refl
short (suc k) le = absurd (omega (arith, le))

littered : (tail : List ℕ) (k : ℕ) (litter : List ℕ)
    → is_empty tail ≡ true → is_empty litter ≡ true → is_empty (take k tail ++ litter) ≡ true
littered [] zero litter torn is = is
littered [] (suc k) litter torn is = is
littered (b ∷ tail) k litter torn is = absurd cc

pub echo_is_a_journal : IsJournal echo
echo_is_a_journal = record {
  begins = λ seed s is. begins seed s is;
  leads = λ s c is. refl;
  heads = λ s is. ap (λ (p : Spot). Some p) (sym (begun s is));
  opens = λ head p cs tail after lives entered torn. (
      let is = head_is head p after in
      let all = entries echo p cs in
      let text : all ++ tail ≡ all =
      ap (λ (x : List ℕ). all ++ x) (none tail torn) ∙ append-nil all in
      let size : suc (length all) ≡ length head + length all = omega (arith, ap length is.1) in
      let end : nothing ≡ trail echo p cs =
      sym (still cs) ∙ ap (λ (q : Spot). trail echo q cs) (sym is.2) in
      ap (λ (x : List ℕ). opened_at (x ++ (all ++ tail))) is.1
      ∙ (ap (λ (x : List ℕ). opened_at (is.0 ∷ x)) text
      ∙ (opened is.0 p cs
      ∙ (ap (λ (n : ℕ). Some (nothing, n)) size
      ∙ ap (λ (q : Spot). Some (q, length head + length all)) end)))
      );
  follows = λ p cs tail lives entered torn. (
      let all = entries echo p cs in
      let text : all ++ tail ≡ all =
      ap (λ (x : List ℕ). all ++ x) (none tail torn) ∙ append-nil all in
      ap (followed_at p) text ∙ followed p cs
      );
  salvages = λ text p size is. salvages text p size is;
  nothing = λ p. refl;
  front = λ p c k lives entered le. short k le;
  littered = λ p tail k litter torn is. littered tail k litter torn is;
  clean = refl;
}
  where
    begins : (seed s : List ℕ) → echo.begun seed ≡ Some s → is_empty s ≡ true
    begins seed s is = let e : [] ≡ s = cc in ap is_empty (sym e)
