-- If an entry contains the random bytes that its command drew, the entry's lines execute the
-- command as it was originally executed.
use native.Mathlib.Nat.{mod-eq_of_lt}
use Rattle.std.proofs.Common.{◌≡◌, ℕ, zero, suc, ◌+◌, ◌%◌, ◌<◌, ◌≤◌, false, List, [], ◌∷◌, length, take, get_or, refl, sym, ap, ◌∙◌, arith}
use Rattle.std.specs.Prelude.{map, slice_index}
use Rattle.std.specs.List.{range_with_len}
use Rattle.std.proofs.lemmas.List.{length-take-le}
use Rattle.std.proofs.lemmas.List.FromFn.{length-map-range_with_len}
use Rattle.tpm_journal_text.specs.Entry.{shown}
use Rattle.tpm_journal.proofs.draw_laws.Executions.{steps_alike}
use Rattle.tpm_machine.specs.Drawn.{drawn_by, drawn_by_command}
use Rattle.tpm_record.specs.Tick.{after_tick}
use Rattle.tpm_step.specs.step.Events.{Given}
use Rattle.tpm_step.specs.step.Step.{Accepted, acceptance_in}
use Rattle.tpm_step.specs.declared.refused_command.RefusedCommand.{RefusedCommand}
use Rattle.std.specs.Prelude.{Result, Ok, Err}
use Rattle.tpmsim_script.specs.Script.{repeated}
use Rattle.tpm_journal_laws.specs.Playing.{PlaysAsExecuted}

-- If two lists agree at every position of the second, the first begins with the second.
made_front : (byte : ℕ → ℕ) (front : List ℕ) (from count : ℕ) → length front ≤ count
    → ((i : ℕ) → i < length front → byte (from + i) ≡ get_or front i 0)
    → take (length front) (map byte (range_with_len from count)) ≡ front
made_front byte [] from count few each = refl
made_front byte (x ∷ front) from zero few each = absurd (omega (arith, few))
made_front byte (x ∷ front) from (suc count) few each =
    let first : byte from ≡ x = ap byte (same from) ∙ each 0 (omega arith) in
    let rest : take (length front) (map byte (range_with_len (from + 1) count)) ≡ front =
    made_front byte front (from + 1) count (omega (arith, few))
    (λ i less. ap byte (moved from i) ∙ each (suc i) (omega (arith, less))) in
    ap (λ (n : ℕ). n ∷ take (length front) (map byte (range_with_len (from + 1) count))) first
    ∙ ap (λ (l : List ℕ). x ∷ l) rest
  where
    same : (n : ℕ) → n ≡ n + 0
    same n = omega arith

    moved : (n i : ℕ) → n + 1 + i ≡ n + suc i
    moved n i = omega arith

repeated_front : (bytes : List ℕ) → length bytes ≤ 256
    → take (length bytes) (repeated bytes) ≡ bytes
unfolding repeated
repeated_front bytes few =
    made_front (λ place. slice_index bytes (place % length bytes)) bytes 0 256 few
    (λ i less. ap (λ (n : ℕ). slice_index bytes (n % length bytes)) (from_zero i)
    ∙ ap (slice_index bytes) (mod-eq_of_lt less))
  where
    from_zero : (n : ℕ) → 0 + n ≡ n
    from_zero n = omega arith

repeated_many : (bytes : List ℕ) → length (repeated bytes) ≡ 256
unfolding repeated
repeated_many bytes = length-map-range_with_len (λ place. slice_index bytes (place % length bytes))
    0 256

shown_front : (drawn : List ℕ) → length drawn ≤ 256
    → take (length drawn) (repeated (shown drawn)) ≡ drawn
shown_front [] few = refl
shown_front (byte ∷ drawn) few = repeated_front (byte ∷ drawn) few

-- a command draws at most as many random bytes as its event contains
few_drawn : (random : List ℕ) (a : Result Accepted RefusedCommand)
    → drawn_by_command random a 0 ≤ length random
few_drawn random (Ok a) = omega arith
few_drawn random (Err e) = omega arith

front_drawn : (count : ℕ) (drawn random : List ℕ) → count ≤ 256 → length random ≡ 256
    → drawn ≡ take count random
    → take count (repeated (shown drawn)) ≡ take count random
front_drawn count drawn random few all is =
    let many : length drawn ≡ count = ap length is
    ∙ length-take-le count random (omega (arith, few, all)) in
    ap (λ (n : ℕ). take n (repeated (shown drawn))) (sym many)
    ∙ shown_front drawn (omega (arith, many, few)) ∙ is

pub plays_as_executed : PlaysAsExecuted
plays_as_executed r e random all is =
    let count = drawn_by r (Given e.buffer e.locality e.elapsed random) 0 in
    let few : count ≤ 256 =
    omega (
      arith,
      all,
      few_drawn random (acceptance_in (after_tick r e.elapsed) e.buffer e.locality random),
    ) in
    steps_alike r e.buffer e.locality e.elapsed random (repeated (shown e.drawn))
    (repeated_many (shown e.drawn) ∙ sym all, front_drawn count e.drawn random few all is) false
