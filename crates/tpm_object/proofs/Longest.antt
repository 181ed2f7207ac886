-- A read of a sensitive area in a sized buffer consumes at most 202 bytes.
use Rattle.std.proofs.Common.{◌≡◌, ℕ, ◌+◌, ◌≤◌, cond, ltb, List, length, take, drop, Result, Ok, Err, ap, arith}
use Rattle.std.specs.Prelude.{◌==◌, not, ok_or}
use Rattle.std.specs.Int.{w16, from_be_bytes}
use Rattle.std.proofs.lemmas.Bool.{ltb-false}
use Rattle.std.proofs.lemmas.List.{length-drop, length-take}
use Rattle.tpm_bytes.specs.declared.cursor.SizedFault.{SizedFault}
use Rattle.tpm_bytes.specs.declared.cursor.SizedFault.TheVariants as fault
use Rattle.tpm_bytes.specs.Reading.{◌>>=◌, bytes_at, number_at, or_fault, refused_if, sized_at, too_short}
use Rattle.tpm_bytes.proofs.Fields.{bind_ok, guard_ok, guard_passed, ok_is, or_fault_ok, passed}
use Rattle.tpm_types_object.specs.declared.public.ObjectType.{ObjectType}
use Rattle.tpm_types_common.specs.declared.rc.Rc.{Rc}
use Rattle.tpm_types_common.specs.declared.rc.ResponseCode.TheVariants as code
use Rattle.tpm_types_common.specs.Buffer.{buffer_at, or_sized_rc}
use Rattle.tpm_types_common.specs.Filled.{filled_by, or_size}
use Rattle.tpm_types_object.specs.Public.{object_type_at, object_type_named}
use Rattle.tpm_types_common.specs.Rc.{plain}
use Rattle.tpm_types_object.specs.Sensitive.{sensitive_at}
use Rattle.tpm_types_common.proofs.FilledLaws.{or_size_ok}
use Rattle.tpm_types_common.proofs.SelectionLaws.{is_equal}

-- A read consumes at most this many bytes.
abbrev Takes_up_to : {A E : Type 0} → ℕ → (List ℕ → Result (A × List ℕ) E) → Type 0
Takes_up_to {A} most at = (text : List ℕ) (x : A × List ℕ) → at text ≡ Ok x
    → length text ≤ most + length x.1

-- Two reads in sequence consume at most the sum of their two limits.
both : {A B E : Type 0} (m n : ℕ) (at : List ℕ → Result (A × List ℕ) E)
    (behind : A → List ℕ → Result (B × List ℕ) E)
    → Takes_up_to m at → ((a : A) → Takes_up_to n (behind a))
    → Takes_up_to (m + n) (λ text. at text >>= λ a. behind a.0 a.1)
both m n at behind first next text x e =
    let a = bind_ok (at text) (λ a. behind a.0 a.1) x e in
    omega (arith, first text a.0 a.1, next a.0.0 a.0.1 x a.2)

-- ---- numbers and buffers

number_size : (text : List ℕ) (n : ℕ × List ℕ) → number_at w16 text ≡ Ok n
    → length text ≡ 2 + length n.1
number_size text n e =
    let g = guard_ok (ltb (length text) 2) too_short (from_be_bytes w16 (take 2 text), drop 2 text)
    n e in
    omega (arith, ltb-false _ _ g.0, length-drop 2 text, ap (λ (p : ℕ × List ℕ). length p.1) g.1)

sized_size : (limit : ℕ) (text : List ℕ) (x : List ℕ × List ℕ) → sized_at limit text ≡ Ok x
    → (length x.0 ≤ limit) × (length text ≡ 2 + length x.0 + length x.1)
sized_size limit text x e =
    let n = bind_ok (or_fault (number_at w16 text) fault.Short)
    (λ size. cond (ltb limit size.0) (Err fault.TooLong)
    (or_fault (bytes_at size.0 size.1) fault.Short)) x e in
    let size = n.0.0 in
    let behind = n.0.1 in
    let g = guard_passed (ltb limit size) fault.TooLong
    (or_fault (bytes_at size behind) fault.Short) x n.2 in
    let b = guard_ok (ltb (length behind) size) too_short (take size behind, drop size behind) x
    (or_fault_ok (bytes_at size behind) fault.Short x g.1) in
    let few : size ≤ limit = ltb-false _ _ g.0 in
    let whole : size ≤ length behind = ltb-false _ _ b.0 in
    let front : size ≡ length x.0 =
    omega (
      arith,
      whole,
      length-take size behind,
      ap (λ (p : List ℕ × List ℕ). length p.0) b.1,
    ) in
    let rest : length behind ≡ size + length x.1 =
    omega (
      arith,
      whole,
      length-drop size behind,
      ap (λ (p : List ℕ × List ℕ). length p.1) b.1,
    ) in (
      omega (arith, few, front),
      omega (
        arith,
        front,
        rest,
        number_size text n.0 (or_fault_ok (number_at w16 text) fault.Short n.0 n.1),
      ),
    )

or_sized_ok : {X : Type 0} (r : Result X SizedFault) (x : X) → or_sized_rc r ≡ Ok x → r ≡ Ok x
or_sized_ok (Ok y) x e = cc
or_sized_ok (Err fault) x e = absurd cc

buffer_size : (limit : ℕ) (text : List ℕ) (x : List ℕ × List ℕ) → buffer_at limit text ≡ Ok x
    → (length x.0 ≤ limit) × (length text ≡ 2 + length x.0 + length x.1)
unfolding buffer_at
buffer_size limit text x e = sized_size limit text x (or_sized_ok (sized_at limit text) x e)

buffer_most : (limit : ℕ) → Takes_up_to (2 + limit) (buffer_at limit)
buffer_most limit text x e = let s = buffer_size limit text x e in omega (arith, s.0, s.1)

-- A structure in a sized buffer takes two more bytes than the structure itself.
filled_most : {X : Type 0} (most : ℕ) (at : List ℕ → Result (X × List ℕ) Rc) → Takes_up_to most at
    → Takes_up_to (2 + most) (filled_by at)
unfolding filled_by
filled_most {X} most at inside text x e =
    let a = bind_ok (buffer_at 0xffff text)
    (λ buffer. or_size (at buffer.0)
    >>= λ content. refused_if (not (length content.1 == 0)) (plain code.Size)
    >>= λ whole. Ok (content.0, buffer.1)) x e in
    let b = bind_ok (or_size (at a.0.0))
    (λ content. refused_if (not (length content.1 == 0)) (plain code.Size)
    >>= λ whole. Ok (content.0, a.0.1)) x a.2 in
    let c = bind_ok (refused_if (not (length b.0.1 == 0)) (plain code.Size))
    (λ whole. Ok (b.0.0, a.0.1)) x b.2 in
    let none = is_equal (length b.0.1) 0
    (passed (not (length b.0.1 == 0)) (plain code.Size) c.0 c.1) in
    let made : X × List ℕ = (b.0.0, a.0.1) in
    let rest : length a.0.1 ≡ length x.1 = ap (λ (p : X × List ℕ). length p.1) (ok_is made x c.2) in
    let buffer = buffer_size 0xffff text a.0 a.1 in
    omega (arith, none, rest, buffer.1, inside a.0.0 b.0 (or_size_ok (at a.0.0) b.0 b.1))

-- ---- sensitive areas

type_most : Takes_up_to 2 object_type_at
unfolding object_type_at
type_most text x e =
    let fault : Rc = plain code.Insufficient in
    let n = bind_ok (or_fault (number_at w16 text) fault)
    (λ number. ok_or (object_type_named number.0) (plain code.Type)
    >>= λ type. Ok (type, number.1)) x e in
    let t = bind_ok (ok_or (object_type_named n.0.0) (plain code.Type)) (λ type. Ok (type, n.0.1)) x
    n.2 in
    let made : ObjectType × List ℕ = (t.0, n.0.1) in
    let rest : length n.0.1 ≡ length x.1 =
    ap (λ (p : ObjectType × List ℕ). length p.1) (ok_is made x t.2) in
    omega (arith, rest, number_size text n.0 (or_fault_ok (number_at w16 text) fault n.0 n.1))

none_more : {A E : Type 0} (a : A) → Takes_up_to {A = A} {E = E} 0 (λ rest. Ok (a, rest))
none_more {A} {E} a text x e =
    let made : A × List ℕ = (a, text) in
    let rest : length text ≡ length x.1 =
    ap (λ (p : A × List ℕ). length p.1) (ok_is {E = E} made x e) in
    omega (arith, rest)

sensitive_most : Takes_up_to 200 sensitive_at
unfolding sensitive_at
sensitive_most =
    let b32 = buffer_most 32 in
    both 2 198 _ _ type_most
    (λ type. both 34 164 _ _ b32
    (λ auth_value. both 34 130 _ _ b32
    (λ seed_value. both 130 0 _ _ (buffer_most 128)
    (λ sensitive. none_more _))))

pub sized_sensitive_most : Takes_up_to 202 (filled_by sensitive_at)
sized_sensitive_most = filled_most 200 sensitive_at sensitive_most
