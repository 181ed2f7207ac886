-- Bounds on the sizes of a contextBlob and its parts.
use Rattle.std.proofs.Common.{◌≡◌, ℕ, ◌+◌, ◌≤◌, cond, ltb, List, length, take, drop, Ok, Err, subst, arith, length-drop, length-take}
use Rattle.std.specs.Int.{w16, from_be_bytes}
use Rattle.std.proofs.lemmas.Bool.{ltb-false}
use Rattle.tpm_bytes.specs.Reading.{bytes_at, number_at, or_fault, sized_at, too_short}
use Rattle.tpm_bytes.specs.declared.cursor.SizedFault.TheVariants as fault
use Rattle.tpm_bytes.proofs.Fields.{bind_ok, guard_ok, guard_passed, or_fault_ok}

-- The content of a sized buffer is within the limit. The size field, the content and the bytes
-- after it are together no longer than the input.
abbrev IsWithin : ℕ → List ℕ → List ℕ × List ℕ → Type 0
IsWithin limit text x = (length x.0 ≤ limit) × (2 + length x.0 + length x.1 ≤ length text)

sized_within : (limit : ℕ) (text : List ℕ) (x : List ℕ × List ℕ) → sized_at limit text ≡ Ok x
    → IsWithin limit text x
sized_within limit text x e =
    let a = bind_ok (or_fault (number_at w16 text) fault.Short)
    (λ size. cond (ltb limit size.0) (Err fault.TooLong)
    (or_fault (bytes_at size.0 size.1) fault.Short)) x e in
    let n = a.0 in
    let number = guard_ok (ltb (length text) 2) too_short
    (from_be_bytes w16 (take 2 text), drop 2 text) n
    (or_fault_ok (number_at w16 text) fault.Short n a.1) in
    let g = guard_passed (ltb limit n.0) fault.TooLong (or_fault (bytes_at n.0 n.1) fault.Short) x
    a.2 in
    let t = guard_ok (ltb (length n.1) n.0) too_short (take n.0 n.1, drop n.0 n.1) x
    (or_fault_ok (bytes_at n.0 n.1) fault.Short x g.1) in
    let left : length n.1 + 2 ≤ length text =
    subst (λ (p : ℕ × List ℕ). length p.1 + 2 ≤ length text) number.1
    (omega (arith, ltb-false _ _ number.0, length-drop 2 text)) in
    subst (IsWithin limit text) t.1 (
      omega (arith, ltb-false _ _ g.0, length-take n.0 n.1),
      omega (arith, left, ltb-false _ _ t.0, length-take n.0 n.1, length-drop n.0 n.1),
    )

pub sized_few : (limit : ℕ) (text front rest : List ℕ) → sized_at limit text ≡ Ok (front, rest)
    → length front ≤ limit
sized_few limit text front rest e = (sized_within limit text (front, rest) e).0

pub sized_rest : (limit : ℕ) (text front rest : List ℕ) → sized_at limit text ≡ Ok (front, rest)
    → 2 + length front + length rest ≤ length text
sized_rest limit text front rest e = (sized_within limit text (front, rest) e).1
