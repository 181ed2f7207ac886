-- The handles of a command are read and written in order.
use Rattle.std.proofs.Common.{◌≡◌, ℕ, zero, suc, ◌+◌, ◌*◌, ◌^◌, List, [], ◌∷◌, ◌++◌, length, Result, Ok, Err, refl, sym, ap, subst, ◌∙◌, append_assoc, arith, length-append}
use Rattle.std.specs.List.{flat_map, AllByRecursion}
use Rattle.std.specs.Int.{w32, to_be_bytes}
use Rattle.tpm_bytes.specs.Reading.{◌>>=◌, number_at, or_fault}
use Rattle.tpm_bytes.proofs.Fields.{AreBytes, Takes, Takes-then, bind_ok, number_or_takes, number_or_again, wide32, ok_is}
use Rattle.tpm_types_common.specs.declared.handle.Handle.{Handle}
use Rattle.tpm_types_common.specs.declared.rc.Rc.{Rc}
use Rattle.tpm_types_common.specs.declared.rc.ResponseCode.TheVariants as code
use Rattle.tpm_types_common.specs.declared.rc.Place.TheVariants as place
use Rattle.tpm_types_command.specs.Command.{IsHandle, handle_text, handles_at, handles_text}
use Rattle.tpm_types_common.specs.Rc.{at, plain}
use Rattle.tpm_bytes.proofs.Joining.{behind, moved}

abbrev pub cut_at : ℕ → Rc
cut_at number = at (place.Handle number) (plain code.Insufficient)

abbrev behind_first : ℕ → ℕ → ℕ × List ℕ → Result (List Handle × List ℕ) Rc
behind_first number count first = handles_at (number + 1) count first.1
    >>= λ others. Ok (record { number = first.0 } ∷ others.0, others.1)

-- ---- reading handles

-- Reading one more handle does not change the list of all handles: first the handles that were
-- already read, and then the handles in the remaining bytes.
pub handle_more : (front : List Handle) (place m n x : ℕ) (text rest : List ℕ) → m ≡ suc n
    → or_fault (number_at w32 text) (cut_at place) ≡ Ok (x, rest)
    → behind (front ++ record { number = x } ∷ []) (handles_at (place + 1) n rest)
    ≡ behind front (handles_at place m text)
handle_more front place m n x text rest e is =
    moved front (record { number = x }) (handles_at (place + 1) n rest)
    ∙ ap (λ (r : Result (ℕ × List ℕ) Rc). behind front (r >>= behind_first place n)) (sym is)
    ∙ ap (λ k. behind front (handles_at place k text)) (sym e)

-- If a handle is truncated, the read of all handles fails with the fault of that handle.
pub handle_cut : (front : List Handle) (place m n : ℕ) (fault : Rc) (text : List ℕ) → m ≡ suc n
    → or_fault (number_at w32 text) (cut_at place) ≡ Err fault
    → behind front (handles_at place m text) ≡ Err fault
handle_cut front place m n fault text e is =
    ap (λ k. behind front (handles_at place k text)) e
    ∙ ap (λ (r : Result (ℕ × List ℕ) Rc). behind front (r >>= behind_first place n)) is

pub handles_take : (n place : ℕ) (bytes : List ℕ) (x : List Handle × List ℕ) → AreBytes bytes
    → handles_at place n bytes ≡ Ok x → Takes bytes (flat_map handle_text x.0) x.1
    × (length x.0 ≡ n) × AllByRecursion IsHandle x.0
handles_take zero place bytes x fits e =
    subst (λ (y : List Handle × List ℕ). Takes bytes (flat_map handle_text y.0) y.1
    × (length y.0 ≡ 0) × AllByRecursion IsHandle y.0) (ok_is ([], bytes) x e)
    (record { parts = refl; rest_fits = fits }, refl, tt)
handles_take (suc n) place bytes x fits e =
    let a = bind_ok (or_fault (number_at w32 bytes) (cut_at place)) (behind_first place n) x e in
    let b = bind_ok (handles_at (place + 1) n a.0.1)
    (λ others. Ok (record { number = a.0.0 } ∷ others.0, others.1)) x a.2 in
    let first = number_or_takes w32 (2 ^ 32) wide32 (cut_at place) bytes a.0 fits a.1 in
    let others = handles_take n (place + 1) a.0.1 b.0 first.0.rest_fits b.1 in
    let both = Takes-then bytes (to_be_bytes w32 a.0.0) a.0.1 (flat_map handle_text b.0.0) b.0.1
    first.0 others.0 in
    let made : List Handle × List ℕ = (record { number = a.0.0 } ∷ b.0.0, b.0.1) in
    subst (λ (y : List Handle × List ℕ). Takes bytes (flat_map handle_text y.0) y.1
    × (length y.0 ≡ suc n) × AllByRecursion IsHandle y.0) (ok_is made x b.2)
    (both, ap suc others.1, (first.1, others.2))

pub handles_again : (handles : List Handle) (place : ℕ) (rest : List ℕ)
    → AllByRecursion IsHandle handles
    → handles_at place (length handles) (flat_map handle_text handles ++ rest) ≡ Ok (handles, rest)
handles_again [] place rest are = refl
handles_again (handle ∷ handles) place rest are =
    ap (handles_at place (suc (length handles)))
    (append_assoc (handle_text handle) (flat_map handle_text handles) rest)
    ∙ rw (
      number_or_again w32 (2 ^ 32) wide32 (cut_at place) handle.number
          (flat_map handle_text handles ++ rest) are.0,
      handles_again handles (place + 1) rest are.1,
    ) refl

-- ---- writing handles

pub length-handles : (handles : List Handle)
    → length (flat_map handle_text handles) ≡ 4 * length handles
length-handles [] = refl
length-handles (handle ∷ handles) =
    omega (
      arith,
      length-handles handles,
      length-append (handle_text handle) (flat_map handle_text handles),
    )

pub handles_text-is : (handles : List Handle) → handles_text handles ≡ flat_map handle_text handles
unfolding handles_text
handles_text-is handles = refl
