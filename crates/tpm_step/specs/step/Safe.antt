-- What a refusal changes, how many random bytes a success may draw, and how long an answer may be.
use Rattle.std.specs.Prelude.{◌≡◌, ◌≢◌, ℕ, ◌≤◌, List, length, Ok, IfOk}
use Rattle.tpm_record.specs.Record.{Record}
use Rattle.tpm_record.specs.Tick.{after_tick}
use Rattle.tpm_types_common.specs.Limits.{answer_limit}
use Rattle.tpm_types_common.specs.Check.{check_number}
use Rattle.tpm_types_common.specs.declared.refused.Refused.{Refused}
use Rattle.tpm_record.specs.rows.Answer.{answer_body_text}
use Rattle.tpm_record.specs.rows.Draws.{draw_limit}
use Rattle.tpm_step.specs.step.Answer.{refusal_text}
use Rattle.tpm_step.specs.step.Entries.{DrawsFew}
use Rattle.tpm_step.specs.step.Events.{PlainEvent, Given, Cycled, Placed}
use Rattle.tpm_step.specs.step.Step.{Accepted, Stepped, acceptance_in, counted_in}

-- the record after the elapsed time of a command; unchanged for a power cycle and for a placed
-- object
abbrev pub only_ticked : Record → PlainEvent → Record
only_ticked r (Given buffer locality elapsed random) = after_tick r elapsed
only_ticked r Cycled = r
only_ticked r (Placed object) = r

-- A refused command gets a response of ten bytes with the refusal's code, and the row reports the
-- check. The elapsed time is added to the record. Nothing else changes, except the lockout state if
-- the refusal counts as a failed try or disables lockoutAuth. The command code in the row is
-- unspecified.
abbrev pub IsHarmless : Record → PlainEvent → Stepped → Type 0
IsHarmless r event x = x.row.check ≢ 0
    → (length x.response ≡ 10)
    × (refused : Refused) × (x.response ≡ refusal_text refused)
    × (x.row.check ≡ check_number refused.check)
    × (x.after ≡ counted_in refused.counted (only_ticked r event))

-- A success stays within the limits. Its row draws at most 96 of the event's 256 random bytes. At
-- most three new nonces, of at most 32 bytes each, are drawn after these bytes, so that at most 192
-- bytes are drawn in all. The parameters of its answer are no longer than the limit.
abbrev pub IsModest : List ℕ → Accepted → Type 0
IsModest random a =
    (a.success.answer.drawn ≤ draw_limit) × (length (answer_body_text a.success.answer.body) ≤ answer_limit)
    × DrawsFew random a.success.after a.command.entries a.success.answer.drawn

-- If a command is accepted, its success stays within the limits.
abbrev pub IsModestIfAccepted : Record → PlainEvent → Type 0
IsModestIfAccepted r (Given buffer locality elapsed random) =
    IfOk (acceptance_in (after_tick r elapsed) buffer locality random) (IsModest random)
IsModestIfAccepted r Cycled = Unit {0}
IsModestIfAccepted r (Placed object) = Unit {0}

-- A command is accepted, and its success stays within the limits.
abbrev pub AcceptsModestly : Record → PlainEvent → Type 0
AcceptsModestly r (Given buffer locality elapsed random) =
    (a : Accepted) × (acceptance_in (after_tick r elapsed) buffer locality random ≡ Ok a)
    × IsModest random a
AcceptsModestly r Cycled = Unit {0}
AcceptsModestly r (Placed object) = Unit {0}
