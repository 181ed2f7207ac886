-- Suppose that a read returns a structure exactly when the input starts with the structure's
-- encoding. Then the same is true of a sized buffer that contains only the structure.
use Rattle.std.proofs.Common.{◌≡◌, ℕ, ◌^◌, ◌<◌, List, [], ◌∷◌, ◌++◌, length, Result, Ok, Err, refl, sym, ap, subst, ◌∙◌, append-nil, arith}
use Rattle.std.specs.Prelude.{◌==◌, not}
use Rattle.std.specs.Int.{w16, to_be_bytes}
use Rattle.tpm_bytes.specs.Reading.{◌>>=◌, refused_if}
use Rattle.tpm_bytes.specs.Writing.{sized_text}
use Rattle.tpm_bytes.proofs.Fields.{AreBytes, Takes, bind_ok, ok_is, passed}
use Rattle.tpm_types_common.specs.declared.rc.Rc.{Rc}
use Rattle.tpm_types_common.specs.declared.rc.ResponseCode.TheVariants as code
use Rattle.tpm_types_common.specs.Buffer.{buffer_at}
use Rattle.tpm_types_common.specs.Filled.{filled_by, or_size}
use Rattle.tpm_types_common.specs.Rc.{plain}
use Rattle.tpm_types_common.proofs.FieldLaws.{buffer_spelled}
use Rattle.tpm_types_common.proofs.SelectionLaws.{is_equal}
use Rattle.tpm_types_common.proofs.Spelled.{Spelled, front_fits, rest_fits}

pub or_size_ok : {X : Type 0} (r : Result X Rc) (x : X) → or_size r ≡ Ok x → r ≡ Ok x
or_size_ok (Ok y) x e = cc
or_size_ok (Err fault) x e = absurd cc

none_left : (left : List ℕ) → length left ≡ 0 → left ≡ []
none_left [] none = refl
none_left (byte ∷ left) none = absurd (omega arith)

-- If the input consists of bytes, and starts with a sized buffer, then the content of this buffer
-- also consists of bytes.
content_fits : (bytes content rest : List ℕ) → AreBytes bytes
    → Takes bytes (sized_text content) rest → AreBytes content
content_fits bytes content rest fits t =
    let size = to_be_bytes w16 (length content) in
    rest_fits size content (front_fits (size ++ content) rest (subst AreBytes t.parts fits))

pub filled_spelled : {X : Type 0} {text : X → List ℕ} {Is : X → Type 0}
    {at : List ℕ → Result (X × List ℕ) Rc} → Spelled text Is at
    → ((x : X) → Is x → length (text x) < 2 ^ 16)
    → Spelled (λ x. sized_text (text x)) Is (filled_by at)
unfolding filled_by
filled_spelled {X} {text} {Is} {at} law small = record {
  taken = λ bytes x fits e.
      let a = bind_ok (buffer_at 0xffff bytes)
      (λ buffer. or_size (at buffer.0)
      >>= λ content. refused_if (not (length content.1 == 0)) (plain code.Size)
      >>= λ whole. Ok (content.0, buffer.1)) x e in
      let b = bind_ok (or_size (at a.0.0))
      (λ content. refused_if (not (length content.1 == 0)) (plain code.Size)
      >>= λ whole. Ok (content.0, a.0.1)) x a.2 in
      let c = bind_ok (refused_if (not (length b.0.1 == 0)) (plain code.Size))
      (λ whole. Ok (b.0.0, a.0.1)) x b.2 in
      let t = (buffer_spelled 0xffff (omega arith)).taken bytes a.0 fits a.1 in
      let u = law.taken a.0.0 b.0 (content_fits bytes a.0.0 a.0.1 fits t.0)
      (or_size_ok (at a.0.0) b.0 b.1) in
      let none =
      none_left b.0.1
      (is_equal (length b.0.1) 0
      (passed (not (length b.0.1 == 0)) (plain code.Size) c.0 c.1)) in
      let content : a.0.0 ≡ text b.0.0 = u.0.parts ∙ ap (λ (l : List ℕ). text b.0.0 ++ l) none
      ∙ append-nil (text b.0.0) in
      let spelled : Takes bytes (sized_text (text b.0.0)) a.0.1 =
      subst (λ (l : List ℕ). Takes bytes (sized_text l) a.0.1) content t.0 in
      let made : X × List ℕ = (b.0.0, a.0.1) in
      subst (λ (y : X × List ℕ). Takes bytes (sized_text (text y.0)) y.1 × Is y.0)
      (ok_is made x c.2) (spelled, u.1);
  again = λ x rest is.
      let buffer = (buffer_spelled 0xffff (omega arith)).again (text x) rest
      (omega (arith, small x is)) in
      let content : at (text x) ≡ Ok (x, []) =
      ap at (sym (append-nil (text x))) ∙ law.again x [] is in
      rw (buffer, content) refl;
}
