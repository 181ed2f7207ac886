-- Lemmas about writing elements one after another. At each point, the bytes written so far,
-- followed by the encodings of the remaining elements, are the final output.
use Rattle.tpm_image_text.specs.Sizes.{text_size}
use Rattle.std.proofs.Math.Nat.{mul-le-mul_left}
use Rattle.std.proofs.Common.{arith, ◌*◌, ◌^◌, ◌≤◌, ◌≡◌, ℕ, ◌+◌, ◌<◌, List, ◌++◌, length, drop, get_or, sym, ap, ◌∙◌, append_assoc, refl}
use Rattle.std.specs.List.{flat_map}
use Rattle.std.proofs.lemmas.List.{drop_more}
use Rattle.std.proofs.lemmas.List.Concat.{flat_map-cons}

-- writing one more element does not change the final output
pub written_more : {X : Type 0} (text_of : X → List ℕ) (text new whole : List ℕ) (xs : List X)
    (i : ℕ) (d : X) → i < length xs → new ≡ text ++ text_of (get_or xs i d)
    → text ++ flat_map text_of (drop i xs) ≡ whole
    → new ++ flat_map text_of (drop (i + 1) xs) ≡ whole
written_more text_of text new whole xs i d below more so_far =
    let x = get_or xs i d in
    let left = drop (i + 1) xs in
    ap (λ (l : List ℕ). l ++ flat_map text_of left) more
    ∙ append_assoc text (text_of x) (flat_map text_of left)
    ∙ ap (λ (l : List ℕ). text ++ l) (sym (flat_map-cons text_of x left))
    ∙ ap (λ (l : List _). text ++ flat_map text_of l) (sym (drop_more xs i d below))
    ∙ so_far

-- writing five encodings one after another writes their concatenation
pub five_written : (t a b c d e p q r s u : List ℕ) → a ≡ t ++ p → b ≡ a ++ q → c ≡ b ++ r
    → d ≡ c ++ s → e ≡ d ++ u → e ≡ t ++ (p ++ (q ++ (r ++ (s ++ u))))
five_written t a b c d e p q r s u first second third fourth fifth =
    rw (fifth, fourth, third, second, first) (simp append_assoc refl)

-- if sixteen elements of the same size fit, each of them fits
pub one_fits : (size i length start : ℕ) → size ≤ 32 → i < 16 → start + 16 * size ≤ text_size
    → length ≡ start + i * size → (size * 1 < 2 ^ 63) × (length + size ≤ text_size)
one_fits size i length start few below room is =
    let up_to : size * (i + 1) ≤ size * 16 = mul-le-mul_left size (omega (arith, below)) in
    (omega (arith, few), omega (arith, up_to, room, is))
