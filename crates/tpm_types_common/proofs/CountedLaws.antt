-- If the count at the start of a list is accepted, a read returns the list exactly when the input
-- starts with the list's encoding.
use Rattle.std.proofs.Common.{◌≡◌, ℕ, ◌^◌, ◌<◌, Bool, false, List, ◌++◌, length, Result, Ok, sym, ap, subst, ◌∙◌, append_assoc, refl}
use Rattle.std.specs.Int.{w32, to_be_bytes}
use Rattle.std.specs.List.{flat_map, AllByRecursion}
use Rattle.tpm_bytes.specs.Many.{many_at}
use Rattle.tpm_bytes.specs.Reading.{◌>>=◌, number_at, or_fault, refused_if}
use Rattle.tpm_bytes.proofs.Fields.{AreBytes, Takes, Takes-then, bind_ok, number_or_again, number_or_takes, passed, wide32}
use Rattle.tpm_bytes.proofs.Spelling.{IsAgain, IsTaken, many_again, many_taken}
use Rattle.tpm_types_common.specs.declared.rc.Rc.{Rc}
use Rattle.tpm_types_common.specs.declared.rc.ResponseCode.TheVariants as code
use Rattle.tpm_types_common.specs.Rc.{plain}

abbrev pub counted_text : {A : Type 0} → (A → List ℕ) → List A → List ℕ
counted_text text items = to_be_bytes w32 (length items) ++ flat_map text items

abbrev pub counted_at : {A : Type 0} → (ℕ → Bool) → (List ℕ → Result (A × List ℕ) Rc) → List ℕ
    → Result (List A × List ℕ) Rc
counted_at is_refused at bytes = do
  count ← or_fault (number_at w32 bytes) (plain code.Insufficient)
  sized ← refused_if (is_refused count.0) (plain code.Size)
  many_at at count.0 count.1

pub counted_takes : {A : Type 0} (is_refused : ℕ → Bool) (text : A → List ℕ) (Is : A → Type 0)
    (at : List ℕ → Result (A × List ℕ) Rc) → IsTaken text Is at
    → (bytes : List ℕ) (x : List A × List ℕ) → AreBytes bytes
    → counted_at is_refused at bytes ≡ Ok x → (bytes ≡ counted_text text x.0 ++ x.1)
    × (is_refused (length x.0) ≡ false) × AllByRecursion Is x.0
counted_takes is_refused text Is at taken bytes x fits e =
    let a = bind_ok (or_fault (number_at w32 bytes) (plain code.Insufficient))
    (λ count. refused_if (is_refused count.0) (plain code.Size)
    >>= λ sized. many_at at count.0 count.1) x e in
    let b = bind_ok (refused_if (is_refused a.0.0) (plain code.Size))
    (λ sized. many_at at a.0.0 a.0.1) x a.2 in
    let passes : is_refused a.0.0 ≡ false = passed (is_refused a.0.0) (plain code.Size) b.0 b.1 in
    let t0 = number_or_takes w32 (2 ^ 32) wide32 (plain code.Insufficient) bytes a.0 fits a.1 in
    let t1 = many_taken text Is at taken a.0.0 a.0.1 x t0.0.rest_fits b.2 in
    let both = Takes-then bytes (to_be_bytes w32 a.0.0) a.0.1 (flat_map text x.0) x.1 t0.0 t1.0 in
    let counted : Takes bytes (counted_text text x.0) x.1 =
    subst (λ (n : ℕ). Takes bytes (to_be_bytes w32 n ++ flat_map text x.0) x.1) (sym t1.1)
    both in
    (counted.parts, ap is_refused t1.1 ∙ passes, t1.2)

pub counted_again : {A : Type 0} (is_refused : ℕ → Bool) (text : A → List ℕ) (Is : A → Type 0)
    (at : List ℕ → Result (A × List ℕ) Rc) → IsAgain text Is at → (items : List A) (rest : List ℕ)
    → length items < 2 ^ 32 → is_refused (length items) ≡ false → AllByRecursion Is items
    → counted_at is_refused at (counted_text text items ++ rest) ≡ Ok (items, rest)
counted_again is_refused text Is at again items rest narrow passes each =
    ap (counted_at is_refused at)
    (append_assoc (to_be_bytes w32 (length items)) (flat_map text items) rest)
    ∙ rw (
      number_or_again w32 (2 ^ 32) wide32 (plain code.Insufficient) (length items)
          (flat_map text items ++ rest) narrow,
      passes,
      many_again text Is at again items rest each,
    )
    refl
