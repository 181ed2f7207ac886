-- The row of every step is in the table, and the response to every command contains a header.
use Rattle.std.proofs.Common.{◌≡◌, ℕ, ◌≤◌, ◌⊎◌, inl, inr, Bool, true, false, cond, List, [], ◌∷◌, length, Option, Result, Ok, Err, refl, sym, subst, arith}
use Rattle.tpm_bytes.specs.Reading.{◌>>=◌}
use Rattle.tpm_types_common.specs.Rc.{rc_number}
use Rattle.tpm_types_common.specs.declared.check.Check.TheVariants.{Memory}
use Rattle.tpm_types_common.specs.declared.handle.Handle.{Handle}
use Rattle.tpm_types_common.specs.declared.refused.Refused.{Refused}
use Rattle.tpm_types_command.specs.AuthEntry.{Entry}
use Rattle.tpm_commands.specs.CommandCode.{code_number, shape_of}
use Rattle.tpm_types_command.specs.declared.header.Header.{Header}
use Rattle.tpm_types_command.specs.declared.header.HeaderFault.{HeaderFault}
use Rattle.tpm_commands.specs.declared.command_code.CommandCode.{CommandCode}
use Rattle.tpm_record.specs.Record.{Record}
use Rattle.tpm_record.specs.Tick.{after_tick}
use Rattle.tpm_step.specs.step.Answer.{answer_to, framed_message, refusal_tag, success_text}
use Rattle.tpm_step.specs.step.Events.{PlainEvent, Given, Cycled, Placed}
use Rattle.tpm_step.specs.step.Execution.{Executes}
use Rattle.tpm_step.specs.step.General.{body_of, general, in_command, in_header, served_header}
use Rattle.tpm_step.specs.step.Step.{Accepted, Stepped, acceptance, acceptance_in, answer_where, refusal_step, refusal_without_memory, step_where, success_step}
use Rattle.tpm_step.specs.declared.refused_command.RefusedCommand.{RefusedCommand}
use Rattle.tpm_text.specs.Trace.{IsRow, IsTraceable}

-- The command code in a refusal is the number of a supported command, or 0.
abbrev Names : {X : Type 0} → Result X RefusedCommand → Type 0
Names (Ok x) = Unit {0}
Names (Err e) = (e.code ≡ 0) ⊎ ((code : CommandCode) × (e.code ≡ code_number code))

named_in_command : {X : Type 0} (code : CommandCode) (x : Result X Refused)
    → Names (in_command code x)
named_in_command code (Ok x) = tt
named_in_command code (Err e) = inr (code, refl)

named_in_header : (header : Result (Header × List ℕ) HeaderFault) → Names (in_header header)
named_in_header (Ok header) = tt
named_in_header (Err fault) = inl refl

named_on : {A B : Type 0} (x : Result A RefusedCommand) (then : A → Result B RefusedCommand)
    → Names x → ((a : A) → Names (then a)) → Names (x >>= then)
named_on (Ok a) then n m = m a
named_on (Err e) then n m = n

named_general : (r : Record) (buffer : List ℕ) → Names (general r buffer)
unfolding general
named_general r buffer =
    named_on (in_header (served_header r buffer))
    (λ header. in_command header.0.code (body_of r header.0 header.1))
    (named_in_header (served_header r buffer))
    (λ header. named_in_command header.0.code (body_of r header.0 header.1))

named_accepted : (r : Record) (buffer : List ℕ) (locality : ℕ) (random : List ℕ)
    → Names (acceptance_in r buffer locality random)
unfolding acceptance_in
named_accepted r buffer locality random =
    named_on (general r buffer)
    (λ command. in_command command.code (acceptance r command locality random))
    (named_general r buffer)
    (λ command. named_in_command command.code (acceptance r command locality random))

-- A framed response has at least the ten bytes of a header.
framed_long : (tag code : ℕ) (body : List ℕ) → 10 ≤ length (framed_message tag code body)
framed_long tag code body = omega arith

success_long : (entries : List Entry) (handle : Option Handle) (answer area : List ℕ)
    → 10 ≤ length (success_text entries handle answer area)
unfolding success_text
success_long [] handle answer area = framed_long 0x8001 0 _
success_long (entry ∷ entries) handle answer area = framed_long 0x8002 0 _

answer_long : (a : Accepted) (random : List ℕ) → 10 ≤ length (success_step a random).response
unfolding answer_to
answer_long a random = success_long a.command.entries a.success.answer.handle _ _

-- The row and the response of a step can be traced.
abbrev IsTraced : Stepped → Type 0
IsTraced x = IsRow x.row × (10 ≤ length x.response)

success_traced : (a : Accepted) (random : List ℕ) → IsTraced (success_step a random)
success_traced a random = ((inr (a.command.code, refl), inl refl), answer_long a random)

refusal_traced : (r : Record) (e : RefusedCommand)
    → (e.code ≡ 0) ⊎ ((code : CommandCode) × (e.code ≡ code_number code))
    → IsTraced (refusal_step r e)
refusal_traced r e named = (
  (named, inr (e.refused.check, refl)),
  framed_long (refusal_tag e.refused.check) (rc_number e.refused.rc) [],
)

traced_without_memory : (r : Record) (random : List ℕ) (a : Accepted) (grows : Bool)
    → IsTraced (cond grows (refusal_without_memory r a.command) (success_step a random))
traced_without_memory r random a true =
    ((inr (a.command.code, refl), inr (Memory, refl)), omega arith)
traced_without_memory r random a false = success_traced a random

answer_traced : (refused : Bool) (r : Record) (random : List ℕ) (a : Result Accepted RefusedCommand)
    → Names a → IsTraced (answer_where refused r random a)
answer_traced false r random (Ok a) named = success_traced a random
answer_traced false r random (Err e) named = refusal_traced r e named
answer_traced true r random (Ok a) named =
    traced_without_memory r random a (shape_of a.command.code).grows
answer_traced true r random (Err e) named = refusal_traced r e named

step_traced : (refused : Bool) (r : Record) (event : PlainEvent)
    → IsTraceable event (step_where refused r event)
step_traced refused r (Given buffer locality elapsed random) =
    let t = after_tick r elapsed in answer_traced refused t random
    (acceptance_in t buffer locality random) (named_accepted t buffer locality random)
step_traced refused r Cycled = ((inl refl, inl refl), tt)
step_traced refused r (Placed object) = ((inl refl, inl refl), tt)

pub executed : (can : Bool) (old : Record) (event : PlainEvent) (x : Stepped)
    → Executes can old event x → IsTraceable event x
executed can old event x e =
    subst (IsTraceable event) (sym e.steps.2) (step_traced e.steps.0 old event)
