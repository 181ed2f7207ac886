-- A damaged journal that is truncated at the damage can be executed to its end.
use Rattle.std.proofs.Common.{◌≡◌, ◌≤◌, ℕ, zero, suc, arith, List, [], ◌∷◌, length, take, drop, refl, ap, ◌∙◌, inl}
use Rattle.std.proofs.lemmas.List.{drop_all, length-take}
use Rattle.tpm_journal_text.specs.Journal.{IsTorn}
use Rattle.tpm_journal_laws.specs.Damage.{FrontIsFollowed}

take_whole : (n : ℕ) (xs : List ℕ) → length xs ≤ n → take n xs ≡ xs
take_whole zero [] le = refl
take_whole zero (x ∷ xs) le = absurd (let never : ⊥ = omega (arith, le) in never)
take_whole (suc n) [] le = refl
take_whole (suc n) (x ∷ xs) le = ap (λ (l : List ℕ). x ∷ l) (take_whole n xs (omega (arith, le)))

whole_front : (n : ℕ) (xs : List ℕ) → take n (take n xs) ≡ take n xs
whole_front n xs = take_whole n (take n xs) (omega (arith, length-take n xs))

nothing_is_torn : (sum : ℕ) (left : List ℕ) → left ≡ [] → IsTorn sum left
nothing_is_torn sum left none =
    record { front = []; zeros = 0; is = none; cut_off = inl (omega arith) }

pub front_is_followed : FrontIsFollowed
front_is_followed can before old text taken after new replays =
    let r = replays.repeats in
    record {
      repeats = record {
        performances = r.performances;
        are = r.are;
        within = omega (arith, length-take taken text, r.within);
        front = whole_front taken text ∙ r.front;
        leads = r.leads;
        answers = r.answers;
      };
      ends = nothing_is_torn after.sum (drop taken (take taken text))
          (drop_all taken (take taken text) (omega (arith, length-take taken text)));
    }
