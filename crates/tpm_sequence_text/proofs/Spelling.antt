-- Exact decoders that are composed of other decoders. A decoder is exact if it returns a value if
-- and only if the bytes begin with the value's encoding.
use Rattle.std.proofs.Common.{◌≡◌, ℕ, ◌^◌, ◌<◌, List, ◌++◌, Result, Ok, refl, sym, ap, subst, ◌∙◌}
use Rattle.std.specs.Int.{w32, w64, to_be_bytes}
use Rattle.std.specs.List.{flat_map}
use Rattle.std.proofs.lemmas.List.Elements.{All-from_recursion, recursion_from_All}
use Rattle.tpm_bytes.proofs.Fields.{Takes, bind_ok, ok_is, wide32}
use Rattle.tpm_bytes.specs.Many.{many_at}
use Rattle.tpm_bytes.specs.Reading.{◌>>=◌}
use Rattle.tpm_image_text.proofs.FieldSpelling.{many_spelled, number_in_spelled, wide64}
use Rattle.tpm_image_text.specs.Fields.{number_in}
use Rattle.tpm_image_text.specs.declared.fault.Malformed.{Malformed}
use Rattle.tpm_types_common.proofs.Spelled.{Spelled, all_read, first, respelled, then, two_texts}
use Rattle.tpm_sequence_text.specs.HashState.{AreWords}
use Rattle.tpm_sequence_text.specs.Slot.{both_in}

-- if the decoded value of an exact decoder is also converted, the decoder is still exact, provided
-- that the conversion keeps valid values valid, keeps their encodings, and yields every valid
-- result
pub made_from : {A B E : Type 0} {text : A → List ℕ} {Is : A → Type 0}
    {at : List ℕ → Result (A × List ℕ) E} (made : A → B) (other : B → List ℕ) (Are : B → Type 0)
    → ((x : A) → Is x → Are (made x)) → ((x : A) → other (made x) ≡ text x)
    → ((y : B) → Are y → (x : A) × (made x ≡ y) × Is x) → Spelled text Is at
    → Spelled other Are (λ bytes. at bytes >>= λ x. Ok (made x.0, x.1))
made_from {A} {B} {E} {text} {Is} {at} made other Are to same from law = record {
  taken = λ bytes y fits e.
      let a = bind_ok (at bytes) (λ x. Ok (made x.0, x.1)) y e in
      let t = law.taken bytes a.0 fits a.1 in
      let spelled : Takes bytes (other (made a.0.0)) a.0.1 =
      subst (λ (l : List ℕ). Takes bytes l a.0.1) (sym (same a.0.0)) t.0 in
      let done : B × List ℕ = (made a.0.0, a.0.1) in
      subst (λ (z : B × List ℕ). Takes bytes (other z.0) z.1 × Are z.0) (ok_is done y a.2)
      (spelled, to a.0.0 t.1);
  again = λ y rest are.
      let f = from y are in
      ap (λ (l : List ℕ). at (l ++ rest) >>= λ x. Ok (made x.0, x.1))
      (ap other (sym f.1) ∙ same f.0)
      ∙ ap (λ (r : Result (A × List ℕ) E). r >>= λ x. Ok (made x.0, x.1)) (law.again f.0 rest f.2)
      ∙ ap (λ (z : B). let done : Result (B × List ℕ) E = Ok (z, rest) in done) f.1;
}

-- the decoder of two values, one after the other, is exact if the decoder of each value is exact
pub both_spelled : {X Y : Type 0} {text : X → List ℕ} {other : Y → List ℕ} {Is : X → Type 0}
    {Are : Y → Type 0} {at : List ℕ → Result (X × List ℕ) Malformed}
    {second : List ℕ → Result (Y × List ℕ) Malformed} → Spelled text Is at
    → Spelled other Are second
    → Spelled (λ (p : X × Y). text p.0 ++ other p.1) (λ p. Is p.0 × Are p.1) (both_in at second)
both_spelled {X} {Y} {text} {other} law next =
    respelled (first law (then next (all_read (λ (p : X × Y). p) (λ p. p) (λ _. refl) (λ _. refl))))
    (λ p. two_texts (text p.0) (other p.1))
    (λ p is. (is.0, is.1.0))
    (λ p is. (is.0, (is.1, tt)))

pub n64 : Spelled (to_be_bytes w64) (λ n. n < 2 ^ 64) (number_in w64)
n64 = number_in_spelled w64 (2 ^ 64) wide64

-- the decoder of `count` words is exact (`Spelled`)
pub words_spelled : (count : ℕ) → Spelled (flat_map (to_be_bytes w32)) (AreWords count)
    (many_at (number_in w32) count)
words_spelled count =
    respelled (many_spelled count (number_in_spelled w32 (2 ^ 32) wide32)) (λ xs. refl)
    (λ xs is. (is.0, All-from_recursion (λ word. word < 2 ^ 32) xs is.1))
    (λ xs is. (is.0, recursion_from_All (λ word. word < 2 ^ 32) xs is.1))
