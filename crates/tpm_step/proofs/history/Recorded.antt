-- If a property holds for every accepted command, it holds for each command that a history records.
use Rattle.std.proofs.Common.{arith, ◌≡◌, ℕ, zero, suc, List, ◌∷◌, length, Option, Some, None, Result, Ok, Err, IfOk, ap, subst}
use Rattle.tpm_types_common.specs.declared.handle.Handle.{Handle}
use Rattle.tpm_record.specs.Objects.{next_handle}
use Rattle.tpm_record.specs.Record.{Record}
use Rattle.tpm_record.specs.Tick.{after_tick}
use Rattle.tpm_step.specs.step.Events.{PlainEvent, Given, Cycled, Placed}
use Rattle.tpm_step.specs.step.Step.{Accepted, acceptance_in}
use Rattle.tpm_step.specs.declared.refused_command.RefusedCommand.{RefusedCommand}
use Rattle.tpm_step.specs.rows.Acceptance.{IsAcceptance}
use Rattle.tpm_step.proofs.rows.Acceptance.{accepted_is}
use Rattle.tpm_step.specs.history.History.{AcceptedCommand, Done, History, PastEvent, command_of, extended_history, with_command, with_placed}

no_longer : (one : PastEvent) (history : History) → history ≡ one ∷ history → ⊥
no_longer one history is = omega (arith, ap length is)

first_is : (a b : AcceptedCommand) (history : History) → Done a ∷ history ≡ Done b ∷ history → a ≡ b
first_is a b history is = cc

pub recorded_is : (P : AcceptedCommand → Type 0) (r : Record) (event : PlainEvent) (check : ℕ)
    (history : History) (c : AcceptedCommand)
    → ((elapsed locality : ℕ) (random : List ℕ) (a : Accepted)
    → IsAcceptance (after_tick r elapsed) locality random a
    → P (command_of (after_tick r elapsed) a))
    → extended_history r event check history ≡ Done c ∷ history → P c
recorded_is P r (Given buffer locality elapsed random) check history c holds is =
    by (acceptance_in t buffer locality random) check (accepted_is t buffer locality random) is
  where
    t : Record
    t = after_tick r elapsed

    by : (x : Result Accepted RefusedCommand) (check : ℕ) → IfOk x (IsAcceptance t locality random)
        → with_command t x check history ≡ Done c ∷ history → P c
    by (Ok a) zero accepts is =
        subst P (first_is (command_of t a) c history is) (holds elapsed locality random a accepts)
    by (Ok a) (suc check) accepts is = absurd (no_longer (Done c) history is)
    by (Err e) check accepts is = absurd (no_longer (Done c) history is)
recorded_is P r Cycled check history c holds is = absurd cc
recorded_is P r (Placed object) check history c holds is =
    absurd (none_done (next_handle r.objects) is)
  where
    none_done : (handle : Option Handle) → with_placed handle object history ≡ Done c ∷ history → ⊥
    none_done (Some handle) is = cc
    none_done None is = no_longer (Done c) history is
