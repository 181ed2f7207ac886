-- If no allocation fails, no check reports MEMORY.
use Rattle.std.proofs.Common.{arith, rules, ◌≡◌, ◌≢◌, ◌⊎◌, ℕ, ◌<◌, Bool, false, List, [], Result, Ok, Err, IfErr, refl, subst, sym}
use Rattle.std.proofs.lemmas.Result.{IfErr-weaker}
use Rattle.tpm_bytes.specs.Reading.{refused_if}
use Rattle.tpm_types_common.specs.Check.{check_number}
use Rattle.tpm_types_common.specs.Rc.{plain}
use Rattle.tpm_types_common.specs.Refused.{checked_result, refusal}
use Rattle.tpm_types_common.specs.declared.action_check.ActionCheck.TheVariants as action
use Rattle.tpm_types_common.specs.declared.check.Check.{Check}
use Rattle.tpm_types_common.specs.declared.check.Check.TheVariants as check
use Rattle.tpm_types_common.specs.declared.rc.ResponseCode.TheVariants as code
use Rattle.tpm_types_common.specs.declared.refused.Refused.{Refused}
use Rattle.tpm_types_command.specs.declared.header.Header.{Header}
use Rattle.tpm_types_command.specs.declared.header.HeaderFault.{HeaderFault}
use Rattle.tpm_commands.specs.declared.command_code.CommandCode.{CommandCode}
use Rattle.tpm_types_command.specs.declared.tag.Tag.{Tag}
use Rattle.tpm_types_command.specs.Command.{Whole, sessions_at}
use Rattle.tpm_record.specs.Record.{Record}
use Rattle.tpm_record.specs.Tick.{after_tick}
use Rattle.tpm_auth.specs.Entries.{entries_pass}
use Rattle.tpm_auth.specs.Grant.{authorize, grants_pass}
use Rattle.tpm_step.specs.step.Events.{PlainEvent, Given, Cycled, Placed}
use Rattle.tpm_step.specs.step.Execution.{Executes}
use Rattle.tpm_step.specs.step.General.{body_of, both_or_neither, general, in_command, in_header, is_startup, present_handles_at, sessions_pass, served_header}
use Rattle.tpm_step.specs.step.Step.{Accepted, Stepped, acceptance, acceptance_in, stepped_of, request_in, step}
use Rattle.tpm_step.specs.step.Table.{row_of}
use Rattle.tpm_step.specs.declared.refused_command.RefusedCommand.{RefusedCommand}
use Rattle.tpm_step.specs.rows.Refusals.{Passes}
use Rattle.tpm_step.proofs.rows.Binding.{checked_ok, err_bind, err_bind_is, err_checked, err_if}
use Rattle.tpm_step.proofs.rows.Grants.{grants_refuse}
use Rattle.tpm_step.proofs.rows.Table.{row_wants}

-- ---- the general checks

abbrev WantsNone : {X : Type 0} → Result X RefusedCommand → Type 0
WantsNone x = IfErr x (λ e. e.refused.check ≢ check.Memory)

command_wants : {X : Type 0} (c : CommandCode) (x : Result X Refused) → Passes check.Memory x
    → WantsNone (in_command c x)
command_wants c (Ok x) passes = tt
command_wants c (Err e) passes = passes

header_wants : (x : Result (Header × List ℕ) HeaderFault) → WantsNone (in_header x)
header_wants x = grind arith

sessions_want : (c : CommandCode) (tag : Tag) → Passes check.Memory (sessions_pass c tag)
unfolding sessions_pass
sessions_want c tag = search (rules, err_bind, err_if)

started_wants : (b : Bool)
    → Passes check.Memory (refused_if b (refusal check.Started (plain code.Initialize)))
started_wants b = search (rules, err_if)

body_wants : (r : Record) (header : Header) (text : List ℕ)
    → Passes check.Memory (body_of r header text)
unfolding body_of
body_wants r header text =
    err_bind _ (refused_if (both_or_neither r.fixed.started (is_startup header.code)) _) _
    (started_wants (both_or_neither r.fixed.started (is_startup header.code))) (λ g5.
    err_bind _ (checked_result check.Handles (present_handles_at r header.code text)) _
    (err_checked _ check.Handles (present_handles_at r header.code text) (λ rc same. absurd cc))
    (λ handles.
    err_bind _ (sessions_pass header.code header.tag) _ (sessions_want header.code header.tag)
    (λ g7.
    err_bind _ (checked_result check.Entries (sessions_at header.tag handles.1)) _
    (err_checked _ check.Entries (sessions_at header.tag handles.1) (λ rc same. absurd cc))
    (λ entries. tt))))

general_wants : (r : Record) (buffer : List ℕ) → WantsNone (general r buffer)
unfolding general
general_wants r buffer =
    err_bind _ (in_header (served_header r buffer)) _ (header_wants (served_header r buffer)) (λ header.
    command_wants header.0.code (body_of r header.0 header.1) (body_wants r header.0 header.1))

-- ---- the authorization, and the row after it

authorize_wants : (r : Record) (c : Whole) (locality : ℕ)
    → Passes check.Memory (authorize r c locality)
unfolding authorize
authorize_wants r c locality =
    err_bind_is _ (checked_result check.Entries (entries_pass r c.code [] c.entries)) _
    (err_checked _ check.Entries (entries_pass r c.code [] c.entries) (λ rc same. absurd cc))
    (λ own is.
    let walk : Passes check.Memory (grants_pass r c locality [] c.entries) =
    IfErr-weaker (grants_pass r c locality [] c.entries) _ _ not_memory
    (grants_refuse r c locality
    (checked_ok check.Entries (entries_pass r c.code [] c.entries) own is)) in
    search (rules, err_bind, err_if, walk))
  where
    not_memory : (e : Refused) → (e.check ≡ check.Authorization) ⊎ (e.check ≡ check.Others)
        → e.check ≡ check.Memory → ⊥
    not_memory e is same = grind arith

acceptance_wants : (r : Record) (c : Whole) (locality : ℕ) (random : List ℕ)
    → Passes check.Memory (acceptance r c locality random)
unfolding acceptance
acceptance_wants r c locality random =
    err_bind _ (authorize r c locality) _ (authorize_wants r c locality) (λ grants.
    err_bind _ (row_of r c.code (request_in r c grants locality random)) _
    (row_wants r c.code (request_in r c grants locality random)) (λ success. tt))

accepted_wants : (r : Record) (buffer : List ℕ) (locality : ℕ) (random : List ℕ)
    → WantsNone (acceptance_in r buffer locality random)
unfolding acceptance_in
accepted_wants r buffer locality random =
    err_bind _ (general r buffer) _ (general_wants r buffer) (λ c.
    command_wants c.code (acceptance r c locality random) (acceptance_wants r c locality random))

-- ---- the reported check

-- only check M has the number 255
below : (c : Check) → c ≢ check.Memory → check_number c < 255
below check.Length other = omega arith
below check.Tag other = omega arith
below check.Size other = omega arith
below check.Code other = omega arith
below check.Started other = omega arith
below check.Handles other = omega arith
below check.Sessions other = omega arith
below check.Entries other = omega arith
below check.Authorization other = omega arith
below check.Others other = omega arith
below check.Parameters other = omega arith
below (check.Action action.First) other = omega arith
below (check.Action action.Second) other = omega arith
below (check.Action action.Third) other = omega arith
below (check.Action action.Fourth) other = omega arith
below (check.Action action.Fifth) other = omega arith
below (check.Action action.Sixth) other = omega arith
below (check.Action action.Seventh) other = omega arith
below check.Memory other = absurd (other refl)

other_number : (c : Check) → c ≢ check.Memory → check_number c ≢ check_number check.Memory
other_number c other = λ same. absurd (omega (arith, below c other, same))

answer_wants : (r : Record) (random : List ℕ) (a : Result Accepted RefusedCommand) → WantsNone a
    → (stepped_of r random a).row.check ≢ check_number check.Memory
answer_wants r random (Ok a) none = λ same. absurd cc
answer_wants r random (Err e) none = other_number e.refused.check none

pub step_wants : (r : Record) (event : PlainEvent)
    → (step r event).row.check ≢ check_number check.Memory
step_wants r (Given buffer locality elapsed random) =
    let t = after_tick r elapsed in
    answer_wants t random (acceptance_in t buffer locality random)
    (accepted_wants t buffer locality random)
step_wants r Cycled = λ same. absurd cc
step_wants r (Placed object) = λ same. absurd cc

pub execution_wants : (old : Record) (event : PlainEvent) (x : Stepped) → Executes false old event x
    → x.row.check ≢ check_number check.Memory
execution_wants old event x executes =
    subst (λ (y : Stepped). y.row.check ≢ check_number check.Memory) (sym (executes.exactly refl))
    (step_wants old event)
