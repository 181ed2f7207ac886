-- The small journal of `specs/Lines` satisfies a keeper's requirements.
use Rattle.std.proofs.Common.{◌≡◌, ◌⊎◌, ℕ, zero, suc, ◌+◌, ◌<◌, true, List, [], ◌∷◌, ◌++◌, length, take, Option, Some, None, refl, sym, ap, ◌∙◌, arith, inl, inr, append_assoc, length-append}
use Rattle.std.proofs.lemmas.List.{append-nil}
use Rattle.tpm_keeping.specs.Journal.{IsJournal, Spot, entries, next_spot, trail}
use Rattle.tpm_keeping.specs.Lines.{headed_by, is_unended, is_zeros, line, line_at, lines, marked_bytes, opened_by, spot_at, spot_if_all, walk, with_first}

line_again : (s rest : List ℕ) → line_at (line s ++ rest) ≡ Some (s, rest)
line_again [] rest = refl
line_again (b ∷ s) rest = ap (with_first b) (line_again s rest)

line_size : (c : List ℕ) → length (line c) ≡ suc (length c)
line_size [] = refl
line_size (b ∷ c) = ap suc (line_size c)

walk_line : (c state part rest : List ℕ) (taken far : ℕ)
    → walk state part taken far (line c ++ rest)
    ≡ walk (state ++ (part ++ marked_bytes c)) [] (far + length (line c))
    (far + length (line c)) rest
walk_line [] state part rest taken far =
    let one : suc far ≡ far + 1 = omega arith in
    ap (λ (x : List ℕ). walk (state ++ x) [] (suc far) (suc far) rest) (sym (append-nil part))
    ∙ ap (λ (n : ℕ). walk (state ++ (part ++ [])) [] n n rest) one
walk_line (b ∷ c) state part rest taken far =
    let more : suc far + length (line c) ≡ far + length (line (b ∷ c)) =
    omega (arith, line_size c, line_size (b ∷ c)) in
    walk_line c state (part ++ suc (suc b) ∷ []) rest taken (suc far)
    ∙ (ap (λ (x : List ℕ). walk (state ++ x) [] (suc far + length (line c))
    (suc far + length (line c)) rest)
    (append_assoc part (suc (suc b) ∷ []) (marked_bytes c))
    ∙ ap (λ (n : ℕ). walk (state ++ (part ++ marked_bytes (b ∷ c))) [] n n rest) more)

walk_torn : (tail state part : List ℕ) (taken far : ℕ) → is_unended tail ≡ true
    → walk state part taken far tail ≡ (state, taken)
walk_torn [] state part taken far torn = refl
walk_torn (zero ∷ tail) state part taken far torn =
    walk_torn tail state (part ++ zero ∷ []) taken (suc far) torn
walk_torn (suc zero ∷ tail) state part taken far torn = absurd cc
walk_torn (suc (suc b) ∷ tail) state part taken far torn =
    walk_torn tail state (part ++ suc (suc b) ∷ []) taken (suc far) torn

walk_all : (cs : List (List ℕ)) (p : Spot) (tail : List ℕ) (far : ℕ) → is_unended tail ≡ true
    → walk p.state [] far far (entries lines p cs ++ tail)
    ≡ ((trail lines p cs).state, far + length (entries lines p cs))
walk_all [] p tail far torn =
    let same : far ≡ far + 0 = omega arith in
    walk_torn tail p.state [] far far torn ∙ ap (λ (n : ℕ). (p.state, n)) same
walk_all (c ∷ cs) p tail far torn =
    let next = next_spot lines p c in
    let rest = entries lines next cs in
    let size : (far + length (line c)) + length rest ≡ far + length (line c ++ rest) =
    omega (arith, length-append (line c) rest) in
    ap (walk p.state [] far far) (append_assoc (line c) rest tail)
    ∙ (walk_line c p.state [] (rest ++ tail) far far
    ∙ (walk_all cs next tail (far + length (line c)) torn
    ∙ ap (λ (n : ℕ). ((trail lines next cs).state, n)) size))

same_chain : (p : Spot) (cs : List (List ℕ))
    → spot_at p.chain (trail lines p cs).state ≡ trail lines p cs
same_chain p [] = refl
same_chain p (c ∷ cs) = same_chain (next_spot lines p c) cs

front_unended : (c : List ℕ) (k : ℕ) → k < length (line c) → is_unended (take k (line c)) ≡ true
front_unended c zero le = refl
front_unended [] (suc k) le = absurd (omega arith)
front_unended (b ∷ c) (suc k) le =
    front_unended c k (omega (arith, le, line_size c, line_size (b ∷ c)))

zeros_unended : (litter : List ℕ) → is_zeros litter ≡ true → is_unended litter ≡ true
zeros_unended [] is = refl
zeros_unended (zero ∷ litter) is = zeros_unended litter is
zeros_unended (suc b ∷ litter) is = absurd cc

cut_unended : (tail : List ℕ) (k : ℕ) (litter : List ℕ) → is_unended tail ≡ true
    → is_zeros litter ≡ true → is_unended (take k tail ++ litter) ≡ true
cut_unended tail zero litter torn is = zeros_unended litter is
cut_unended [] (suc k) litter torn is = zeros_unended litter is
cut_unended (zero ∷ tail) (suc k) litter torn is = cut_unended tail k litter torn is
cut_unended (suc zero ∷ tail) (suc k) litter torn is = absurd cc
cut_unended (suc (suc b) ∷ tail) (suc k) litter torn is = cut_unended tail k litter torn is

-- ---- heads

some_is : (a b : List ℕ × List ℕ) → Some a ≡ Some b → a ≡ b
some_is a b is = cc

-- if a byte is put before a line's content, the result begins with this byte
with_first_is : (b : ℕ) (o : Option (List ℕ × List ℕ)) (s rest : List ℕ)
    → with_first b o ≡ Some (s, rest)
    → (part : List ℕ) × (s ≡ b ∷ part) × (o ≡ Some (part, rest))
with_first_is b None s rest is = absurd cc
with_first_is b (Some found) s rest is =
    let same = some_is (b ∷ found.0, found.1) (s, rest) is in (
      found.0,
      sym (ap (λ (x : List ℕ × List ℕ). x.0) same),
      ap (λ (x : List ℕ). Some (found.0, x)) (ap (λ (x : List ℕ × List ℕ). x.1) same),
    )

-- the bytes consist of their first line and the remaining bytes
first_line : (text s rest : List ℕ) → line_at text ≡ Some (s, rest) → text ≡ line s ++ rest
first_line [] s rest is = absurd cc
first_line (zero ∷ text) s rest is = absurd cc
first_line (suc zero ∷ text) s rest is =
    let same = some_is ([], text) (s, rest) is in
    ap (λ (x : List ℕ). 1 ∷ x) (ap (λ (x : List ℕ × List ℕ). x.1) same)
    ∙ ap (λ (x : List ℕ). line x ++ rest) (ap (λ (x : List ℕ × List ℕ). x.0) same)
first_line (suc (suc b) ∷ text) s rest is =
    let part = with_first_is b (line_at text) s rest is in
    ap (λ (x : List ℕ). suc (suc b) ∷ x) (first_line text part.0 rest part.2)
    ∙ ap (λ (x : List ℕ). line x ++ rest) (sym part.1)

-- if bytes decode as a head, they are a single line, and its content is the state
head_is : (o : Option (List ℕ × List ℕ)) (p : Spot) → headed_by o ≡ Some p
    → (o ≡ Some (p.state, [])) × (spot_at 0 p.state ≡ p)
head_is None p is = absurd cc
head_is (Some found) p is = by found.1 refl is
  where
    by : (rest : List ℕ) → found.1 ≡ rest → spot_if_all found.0 rest ≡ Some p
        → (Some found ≡ Some (p.state, [])) × (spot_at 0 p.state ≡ p)
    by [] none is =
        let same : spot_at 0 found.0 ≡ p = cc in
        let state : found.0 ≡ p.state = ap (λ (q : Spot). q.state) same in (
          ap (λ (x : List ℕ). Some (found.0, x)) none ∙ ap (λ (x : List ℕ). Some (x, [])) state,
          ap (spot_at 0) (sym state) ∙ same,
        )
    by (b ∷ rest) some is = absurd cc

-- ---- the salvaged part

-- If no line ends in the bytes, nothing is executed. Otherwise, executing some prefix of the bytes
-- alone gives the same state, and the size of this prefix is returned.
walk_front : (text state part : List ℕ) (taken far : ℕ)
    → (walk state part taken far text ≡ (state, taken))
    ⊎ ((count : ℕ) × ((walk state part taken far text).1 ≡ far + count)
    × (walk state part taken far (take count text) ≡ walk state part taken far text))
walk_front [] state part taken far = inl refl
walk_front (zero ∷ text) state part taken far =
    elim (walk_front text state (part ++ zero ∷ []) taken (suc far)) [
      | inl none ↦ inl none
      | inr front ↦ inr (suc front.0, omega (arith, front.1), front.2)
    ]
walk_front (suc zero ∷ text) state part taken far =
    elim (walk_front text (state ++ part) [] (suc far) (suc far)) [
      | inl none ↦ inr (1, ap (λ (r : List ℕ × ℕ). r.1) none ∙ omega arith, sym none)
      | inr front ↦ inr (suc front.0, omega (arith, front.1), front.2)
    ]
walk_front (suc (suc b) ∷ text) state part taken far =
    elim (walk_front text state (part ++ suc (suc b) ∷ []) taken (suc far)) [
      | inl none ↦ inl none
      | inr front ↦ inr (suc front.0, omega (arith, front.1), front.2)
    ]

walk_again : (state text : List ℕ) → walk state [] 0 0 (take (walk state [] 0 0 text).1 text)
    ≡ walk state [] 0 0 text
walk_again state text =
    let all = walk state [] 0 0 text in
    elim (walk_front text state [] 0 0) [
      | inl none ↦ ap (λ (r : List ℕ × ℕ). walk state [] 0 0 (take r.1 text)) none ∙ sym none
      | inr front ↦ (
          let same : all.1 ≡ front.0 = omega (arith, front.1) in
          ap (λ (n : ℕ). walk state [] 0 0 (take n text)) same ∙ front.2
          )
    ]

take_behind : (front rest : List ℕ) (m n : ℕ) → n ≡ length front + m
    → take n (front ++ rest) ≡ front ++ take m rest
take_behind [] rest m n is = let same : n ≡ m =
    omega (arith, is) in ap (λ (i : ℕ). take i rest) same
take_behind (b ∷ front) rest m zero is = absurd (omega (arith, is))
take_behind (b ∷ front) rest m (suc n) is =
    ap (λ (x : List ℕ). b ∷ x) (take_behind front rest m n (omega (arith, is)))

opened_front : (text : List ℕ) (p : Spot) (size : ℕ) → opened_by (line_at text) ≡ Some (p, size)
    → opened_by (line_at (take size text)) ≡ Some (p, size)
opened_front text p size is = by (line_at text) refl is
  where
    opened_at : (s : List ℕ) → List ℕ × ℕ → Option (Spot × ℕ)
    opened_at s r = Some (spot_at 0 r.0, suc (length s) + r.1)

    by : (o : Option (List ℕ × List ℕ)) → line_at text ≡ o → opened_by o ≡ Some (p, size)
        → opened_by (line_at (take size text)) ≡ Some (p, size)
    by None found is = absurd cc
    by (Some (s, rest)) found is =
        let all = walk s [] 0 0 rest in
        let size' : size ≡ suc (length s) + all.1 =
        sym (pair_is (spot_at 0 all.0, suc (length s) + all.1) (p, size) is) in
        let front : take size text ≡ line s ++ take all.1 rest =
        ap (take size) (first_line text s rest found)
        ∙ take_behind (line s) rest all.1 size (omega (arith, size', line_size s)) in
        ap (λ (x : List ℕ). opened_by (line_at x)) front
        ∙ (ap opened_by (line_again s (take all.1 rest))
        ∙ (ap (opened_at s) (walk_again s rest) ∙ is))
      where
        pair_is : (a b : Spot × ℕ) → Some a ≡ Some b → a.1 ≡ b.1
        pair_is a b e = let same : a ≡ b = cc in ap (λ (x : Spot × ℕ). x.1) same

pub lines_are_a_journal : IsJournal lines
lines_are_a_journal = record {
  begins = λ seed s is. refl;
  leads = λ s c is. refl;
  heads = λ s is. (
      let all = line_again s [] in
      ap headed_by (ap line_at (sym (append-nil (line s))) ∙ all)
      );
  opens = λ head p cs tail after lives entered torn. (
      let is = head_is (line_at head) p after in
      let s = p.state in
      let line' : head ≡ line s = first_line head s [] is.0 ∙ append-nil (line s) in
      let n = length (entries lines p cs) in
      let all = walk_all cs p tail 0 torn in
      let size : suc (length s) + (0 + n) ≡ length head + n =
      omega (arith, line_size s, ap length line') in
      let chain : 0 ≡ p.chain = ap (λ (q : Spot). q.chain) is.1 in
      let end : spot_at 0 (trail lines p cs).state ≡ trail lines p cs =
      ap (λ (m : ℕ). spot_at m (trail lines p cs).state) chain ∙ same_chain p cs in
      ap (λ (x : List ℕ). opened_by (line_at (x ++ (entries lines p cs ++ tail)))) line'
      ∙ (ap opened_by (line_again s (entries lines p cs ++ tail))
      ∙ (ap (λ (r : List ℕ × ℕ). Some (spot_at 0 r.0, suc (length s) + r.1)) all
      ∙ (ap (λ (q : Spot). Some (q, suc (length s) + (0 + n))) end
      ∙ ap (λ (m : ℕ). Some (trail lines p cs, m)) size)))
      );
  follows = λ p cs tail lives entered torn. (
      let n = length (entries lines p cs) in
      let same : 0 + n ≡ n = omega arith in
      ap (λ (r : List ℕ × ℕ). Some (spot_at p.chain r.0, r.1)) (walk_all cs p tail 0 torn)
      ∙ (ap (λ (q : Spot). Some (q, 0 + n)) (same_chain p cs)
      ∙ ap (λ (m : ℕ). Some (trail lines p cs, m)) same)
      );
  salvages = λ text p size is. opened_front text p size is;
  nothing = λ s. refl;
  front = λ s c k lives entered le. front_unended c k le;
  littered = λ s tail k litter torn is. cut_unended tail k litter torn is;
  clean = refl;
}
