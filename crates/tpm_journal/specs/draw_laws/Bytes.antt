-- An event's effect depends only on the random bytes that it draws, and not on the bytes after
-- them.
use Rattle.std.specs.Prelude.{◌≡◌, ◌-◌, ℕ, List, ◌++◌, length, replicate, take, Result, Ok, Err}
use Rattle.tpm_record.specs.rows.Request.{Request}
use Rattle.tpm_record.specs.rows.Rows.{Success}
use Rattle.tpm_machine.specs.Drawn.{drawn_by}
use Rattle.tpm_record.specs.Record.{Record}
use Rattle.tpm_step.specs.step.Events.{Cycled, Given, Placed, PlainEvent}
use Rattle.tpm_types_common.specs.declared.refused.Refused.{Refused}

-- the request of a command with other random bytes
abbrev pub with_random : Request → List ℕ → Request
with_random q other = record q { random = other }

-- A row's results with two lists of random bytes are alike. If the first result is a success, and
-- both lists agree on all bytes that it draws, the second result is the same success. If the first
-- result is a refusal, which draws no bytes, the second is the same refusal.
abbrev pub ActsAlike : (random other : List ℕ) → (acts acts_other : Result Success Refused) → Type 0
ActsAlike random other (Ok s) acts_other =
    take s.answer.drawn other ≡ take s.answer.drawn random → acts_other ≡ Ok s
ActsAlike random other (Err e) acts_other = acts_other ≡ Err e

-- The two lists of random bytes have the same length, and agree on all bytes that the command
-- draws.
abbrev pub AgreeOnDrawn : Record → (buffer : List ℕ) → (locality elapsed : ℕ)
    → (random other : List ℕ) → Type 0
AgreeOnDrawn r buffer locality elapsed random other =
    let drawn = drawn_by r (Given buffer locality elapsed random) 0 in
    (length other ≡ length random) × (take drawn other ≡ take drawn random)

-- 256 random bytes: the first `drawn` bytes of `random`, followed by zeros
abbrev pub zeros_behind : (drawn : ℕ) → (random : List ℕ) → List ℕ
zeros_behind drawn random = take drawn random ++ replicate (256 - drawn) 0

-- the event with only the random bytes that it drew, followed by zeros; the reported check
-- determines how many it drew. A power cycle and a placed object have no random bytes.
abbrev pub replayed_event : Record → PlainEvent → (check : ℕ) → PlainEvent
replayed_event r (Given buffer locality elapsed random) check =
    let drawn = drawn_by r (Given buffer locality elapsed random) check in
    Given buffer locality elapsed (zeros_behind drawn random)
replayed_event r Cycled check = Cycled
replayed_event r (Placed object) check = Placed object
