-- Replacing the random bytes that a command does not draw does not change its execution.
use Rattle.std.proofs.Common.{◌≡◌, ◌≤◌, ◌-◌, ◌∙◌, ℕ, Bool, false, List, length, take, Result, Ok, Err, refl, sym, ap, subst, arith}
use Rattle.std.specs.Prelude.{replicate}
use Rattle.std.proofs.lemmas.List.{length-append, length-replicate, length-take-le}
use Rattle.tpm_bytes.proofs.Fields.{ok_is}
use Rattle.tpm_record.specs.Record.{Record}
use Rattle.tpm_record.specs.Tick.{after_tick}
use Rattle.tpm_machine.specs.Drawn.{drawn_by, drawn_by_command}
use Rattle.tpm_step.specs.step.Entries.{DrawsFew}
use Rattle.tpm_step.specs.step.Events.{Cycled, Given, Placed, PlainEvent}
use Rattle.tpm_step.specs.step.Execution.{Executes}
use Rattle.tpm_step.specs.step.Safe.{IsModest}
use Rattle.tpm_step.specs.step.Step.{Accepted, Stepped, acceptance_in, step_where, stepped_of}
use Rattle.tpm_step.specs.declared.refused_command.RefusedCommand.{RefusedCommand}
use Rattle.tpm_journal.specs.draw_laws.Bytes.{AgreeOnDrawn, replayed_event, zeros_behind}
use Rattle.tpm_journal.proofs.draw_laws.Fronts.{front_kept}
use Rattle.tpm_journal.proofs.draw_laws.Steps.{AcceptedAlike, accepted_alike, drawn_alike, fronts, nonces_alike, where_alike, with_other}

-- a success that stays within the limits (`IsModest`) also stays within them with other random
-- bytes
modest_alike : (a b : Result Accepted RefusedCommand) (random other : List ℕ)
    → length other ≡ length random → AcceptedAlike random other a b
    → take (drawn_by_command random a 0) other ≡ take (drawn_by_command random a 0) random
    → (x : Accepted) × (a ≡ Ok x) × IsModest random x → (x : Accepted) × (b ≡ Ok x)
    × IsModest other x
modest_alike (Ok a) b random other as_long alike same (x, is, modest) =
    let modest' : IsModest random a = subst (IsModest random) (sym (ok_is a x is)) modest in
    let left = (nonces_alike a random other as_long same).as_long in
    let few : DrawsFew other a.success.after a.command.entries a.success.answer.drawn =
    omega (arith, as_long, left, modest'.2) in (
      with_other other a,
      alike (fronts a random other as_long same).first,
      (modest'.0, modest'.1, few),
    )
modest_alike (Err e) b random other as_long alike same (x, is, modest) = absurd cc

module _ (r : Record) (buffer : List ℕ) (locality elapsed : ℕ) (random other : List ℕ)
    (agree : AgreeOnDrawn r buffer locality elapsed random other) where
  abbrev a : Result Accepted RefusedCommand
  a = acceptance_in (after_tick r elapsed) buffer locality random

  abbrev b : Result Accepted RefusedCommand
  b = acceptance_in (after_tick r elapsed) buffer locality other

  alike : AcceptedAlike random other a b
  alike = accepted_alike (after_tick r elapsed) buffer locality random other

  pub steps_alike : (refused : Bool) → step_where refused r (Given buffer locality elapsed other)
      ≡ step_where refused r (Given buffer locality elapsed random)
  steps_alike refused = where_alike (after_tick r elapsed) random other agree.0 refused a b alike
      agree.1

  pub draws_alike : (check : ℕ) → drawn_by r (Given buffer locality elapsed other) check
      ≡ drawn_by r (Given buffer locality elapsed random) check
  draws_alike check = drawn_alike (after_tick r elapsed) random other agree.0 check a b alike
      agree.1

  pub executes_alike : (can : Bool) (x : Stepped)
      → Executes can r (Given buffer locality elapsed random) x
      → Executes can r (Given buffer locality elapsed other) x
  executes_alike can x done = record {
    happens = (done.happens.0, done.happens.1, agree.0 ∙ done.happens.2);
    steps = (done.steps.0, done.steps.1, done.steps.2 ∙ sym (steps_alike done.steps.0));
    exactly = λ never. done.exactly never ∙ sym (steps_alike false);
    is_record = done.is_record;
    harmless = done.harmless;
    modest = λ zero. modest_alike a b random other agree.0 alike agree.1 (done.modest zero);
    fits = done.fits;
  }

-- ---- zeros after the drawn bytes

-- the number of bytes drawn is the same for check 0 and for the check that the outcome reports,
-- since a refusal draws no bytes
drawn_told : (r : Record) (random : List ℕ) (a : Result Accepted RefusedCommand)
    → drawn_by_command random a (stepped_of r random a).row.check ≡ drawn_by_command random a 0
drawn_told r random (Ok a) = refl
drawn_told r random (Err e) = refl

-- a command draws at most as many random bytes as its event contains
drawn_of_those : (random : List ℕ) (a : Result Accepted RefusedCommand)
    → drawn_by_command random a 0 ≤ length random
drawn_of_those random (Ok a) = omega arith
drawn_of_those random (Err e) = omega arith

module _ (r : Record) (buffer : List ℕ) (locality elapsed : ℕ) (random : List ℕ) (x : Stepped)
    (done : Executes false r (Given buffer locality elapsed random) x) where
  -- the number of bytes drawn, according to the check that the outcome reports
  abbrev told : ℕ
  told = drawn_by r (Given buffer locality elapsed random) x.row.check

  -- the number of bytes drawn, according to the step
  abbrev drawn : ℕ
  drawn = drawn_by r (Given buffer locality elapsed random) 0

  told_is : told ≡ drawn
  told_is = ap (λ (s : Stepped). drawn_by r (Given buffer locality elapsed random) s.row.check)
      (done.exactly refl)
      ∙ drawn_told (after_tick r elapsed) random
      (acceptance_in (after_tick r elapsed) buffer locality random)

  zeros_agree : AgreeOnDrawn r buffer locality elapsed random (zeros_behind told random)
  zeros_agree =
      let few : drawn ≤ length random =
      drawn_of_those random (acceptance_in (after_tick r elapsed) buffer locality random) in
      let all : length random ≡ 256 = done.happens.2 in
      subst (λ n. AgreeOnDrawn r buffer locality elapsed random (zeros_behind n random))
      (sym told_is) (
        length-append (take drawn random) (replicate (256 - drawn) 0)
            ∙ omega (
              arith,
              few,
              all,
              length-take-le drawn random few,
              length-replicate {A = ℕ} (256 - drawn) 0,
            ),
        front_kept drawn random (replicate (256 - drawn) 0) few,
      )

  command_replays : Executes false r (Given buffer locality elapsed (zeros_behind told random)) x
  command_replays = executes_alike r buffer locality elapsed random (zeros_behind told random)
      zeros_agree false x done

  command_draws : drawn_by r (Given buffer locality elapsed (zeros_behind told random)) x.row.check
      ≡ told
  command_draws = draws_alike r buffer locality elapsed random (zeros_behind told random)
      zeros_agree x.row.check

pub replays : (r : Record) (event : PlainEvent) (x : Stepped) → Executes false r event x
    → Executes false r (replayed_event r event x.row.check) x
replays r (Given buffer locality elapsed random) x done =
    command_replays r buffer locality elapsed random x done
replays r Cycled x done = done
replays r (Placed object) x done = done

pub replay_draws : (r : Record) (event : PlainEvent) (x : Stepped) → Executes false r event x
    → drawn_by r (replayed_event r event x.row.check) x.row.check ≡ drawn_by r event x.row.check
replay_draws r (Given buffer locality elapsed random) x done =
    command_draws r buffer locality elapsed random x done
replay_draws r Cycled x done = refl
replay_draws r (Placed object) x done = refl
