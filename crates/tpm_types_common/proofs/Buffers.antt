-- If a sized buffer is read successfully, its size is within the limit.
use Rattle.std.proofs.Common.{◌≡◌, ℕ, ◌≤◌, ltb, cond, List, length, take, drop, Result, Ok, Err, subst, arith}
use Rattle.std.specs.Prelude.{IfOk}
use Rattle.std.specs.Int.{w16}
use Rattle.std.specs.Borrow.{Bor}
use Rattle.std.proofs.lemmas.Bool.{ltb-false}
use Rattle.std.proofs.lemmas.List.{length-take}
use Rattle.tpm_bytes.specs.Reading.{Reads, bytes_at, number_at, or_fault, sized_at, too_short}
use Rattle.tpm_bytes.specs.declared.cursor.SizedFault.{SizedFault}
use Rattle.tpm_bytes.specs.declared.cursor.SizedFault.TheVariants as fault
use Rattle.tpm_bytes.proofs.Fields.{bind_ok, guard_ok, guard_passed, or_fault_ok}
use Rattle.tpm_types_common.specs.declared.rc.Rc.{Rc}
use Rattle.tpm_types_common.specs.Buffer.{buffer_at, or_sized_rc}

sized_within : (limit : ℕ) (text : List ℕ) (x : List ℕ × List ℕ) → sized_at limit text ≡ Ok x
    → length x.0 ≤ limit
sized_within limit text x e =
    let a = bind_ok (or_fault (number_at w16 text) fault.Short)
    (λ size. cond (ltb limit size.0) (Err fault.TooLong)
    (or_fault (bytes_at size.0 size.1) fault.Short)) x e in
    let n = a.0 in
    let g = guard_passed (ltb limit n.0) fault.TooLong (or_fault (bytes_at n.0 n.1) fault.Short) x
    a.2 in
    let u = guard_ok (ltb (length n.1) n.0) too_short (take n.0 n.1, drop n.0 n.1) x
    (or_fault_ok (bytes_at n.0 n.1) fault.Short x g.1) in
    let few : n.0 ≤ limit = ltb-false _ _ g.0 in
    subst (λ (p : List ℕ × List ℕ). length p.0 ≤ limit) u.1
    (omega (arith, few, length-take n.0 n.1))

pub or_sized_ok : {X : Type 0} (r : Result X SizedFault) (x : X) → or_sized_rc r ≡ Ok x → r ≡ Ok x
or_sized_ok (Ok y) x e = cc
or_sized_ok (Err d) x e = absurd cc

pub buffer_within : (limit : ℕ) (old new : List ℕ) (result : Result (Bor (List ℕ)) Rc)
    → Reads (λ (buffer : Bor (List ℕ)). buffer.now) (buffer_at limit old) old result new
    → IfOk result (λ buffer. length buffer.now ≤ limit)
unfolding buffer_at
buffer_within limit old new (Ok buffer) reads =
    sized_within limit old (buffer.now, new)
    (or_sized_ok (sized_at limit old) (buffer.now, new) reads)
buffer_within limit old new (Err rc) reads = tt
