-- Derives the contracts of the read functions from `Spelled`, which says that a read returns a
-- value exactly when the input starts with the value's encoding.
use Rattle.std.proofs.Common.{◌≡◌, ℕ, List, ◌++◌, Result, Ok, Err, ap, subst, ◌∙◌}
use Rattle.std.specs.Prelude.{IfOk}
use Rattle.tpm_bytes.specs.Reading.{Reads}
use Rattle.tpm_bytes.proofs.Fields.{AreBytes}
use Rattle.tpm_types_common.proofs.Spelled.{Spelled}

pub read_found : {X Y E : Type 0} (view : X → Y) (read : List ℕ → Result (Y × List ℕ) E)
    (text_of : Y → List ℕ) (HasText : Y → Type 0)
    → ((bytes : List ℕ) (x : Y × List ℕ) → AreBytes bytes → read bytes ≡ Ok x
    → (bytes ≡ text_of x.0 ++ x.1) × HasText x.0)
    → (old : List ℕ) (result : Result X E) (new : List ℕ) → AreBytes old
    → Reads view (read old) old result new
    → IfOk result (λ x. HasText (view x) × (old ≡ text_of (view x) ++ new))
read_found view read text_of HasText takes old (Ok x) new fits reads = let t =
    takes old (view x, new) fits reads in (t.1, t.0)
read_found view read text_of HasText takes old (Err e) new fits reads = tt

pub read_only : {X Y E : Type 0} (view : X → Y) (read : List ℕ → Result (Y × List ℕ) E)
    (old text : List ℕ) (y : Y) (rest : List ℕ) (result : Result X E) (new : List ℕ)
    → read text ≡ Ok (y, rest) → old ≡ text → Reads view (read old) old result new
    → Reads view (Ok (y, rest)) old result new
read_only view read old text y rest result new again is reads =
    subst (λ (r : Result (_ × List ℕ) _). Reads view r old result new) (ap read is ∙ again) reads

-- for a type whose values can all be encoded: if a read succeeds, the input starts with the
-- encoding of the returned value
pub read_spelled : {Y E : Type 0} (read : List ℕ → Result (Y × List ℕ) E) (text_of : Y → List ℕ)
    → ((bytes : List ℕ) (x : Y × List ℕ) → AreBytes bytes → read bytes ≡ Ok x
    → bytes ≡ text_of x.0 ++ x.1) → (old : List ℕ) (result : Result Y E) (new : List ℕ)
    → AreBytes old → Reads (λ y. y) (read old) old result new
    → IfOk result (λ y. old ≡ text_of y ++ new)
read_spelled read text_of takes old (Ok y) new fits reads = takes old (y, new) fits reads
read_spelled read text_of takes old (Err e) new fits reads = tt

-- ---- the contracts of reads for which `Spelled` is proved

pub spelled_found : {X Y E : Type 0} {text : Y → List ℕ} {Is : Y → Type 0}
    {at : List ℕ → Result (Y × List ℕ) E} → Spelled text Is at
    → (view : X → Y) (old : List ℕ) (result : Result X E) (new : List ℕ) → AreBytes old
    → Reads view (at old) old result new
    → IfOk result (λ x. Is (view x) × (old ≡ text (view x) ++ new))
spelled_found {X} {Y} {E} {text} {Is} {at} law view old result new fits reads =
    read_found view at text Is (λ bytes x are e. let t =
    law.taken bytes x are e in (t.0.parts, t.1)) old result new fits reads

pub spelled_only : {X Y E : Type 0} {text : Y → List ℕ} {Is : Y → Type 0}
    {at : List ℕ → Result (Y × List ℕ) E} → Spelled text Is at
    → (view : X → Y) (old : List ℕ) (y : Y) (rest : List ℕ) (result : Result X E) (new : List ℕ)
    → Is y → old ≡ text y ++ rest → Reads view (at old) old result new
    → Reads view (Ok (y, rest)) old result new
spelled_only {X} {Y} {E} {text} {Is} {at} law view old y rest result new is same reads =
    read_only view at old (text y ++ rest) y rest result new (law.again y rest is) same reads

-- ---- each of the two contracts separately

pub spelled_is : {X Y E : Type 0} {text : Y → List ℕ} {Is : Y → Type 0}
    {at : List ℕ → Result (Y × List ℕ) E} → Spelled text Is at
    → (view : X → Y) (old : List ℕ) (result : Result X E) (new : List ℕ) → AreBytes old
    → Reads view (at old) old result new → IfOk result (λ x. Is (view x))
spelled_is law view old (Ok x) new fits reads = (law.taken old (view x, new) fits reads).1
spelled_is law view old (Err e) new fits reads = tt

pub spelled_text : {X Y E : Type 0} {text : Y → List ℕ} {Is : Y → Type 0}
    {at : List ℕ → Result (Y × List ℕ) E} → Spelled text Is at
    → (view : X → Y) (old : List ℕ) (result : Result X E) (new : List ℕ) → AreBytes old
    → Reads view (at old) old result new → IfOk result (λ x. old ≡ text (view x) ++ new)
spelled_text law view old (Ok x) new fits reads = (law.taken old (view x, new) fits reads).0.parts
spelled_text law view old (Err e) new fits reads = tt
